-- The sessions in a history.
use Rattle.std.proofs.Common.{◌≡◌, ℕ, ◌==◌, inl, inr, Bool, true, false, cond, List, [], ◌∷◌, ◌++◌, All, refl, sym, ◌∙◌, ap, subst, append-nil}
use Rattle.std.specs.Prelude.{map, filter}
use Rattle.std.specs.List.{flat_map}
use Rattle.std.proofs.lemmas.Bool.{eqb-false, eq-eqb}
use Rattle.std.proofs.lemmas.Bool.Decides.{eqb_tells}
use Rattle.std.proofs.lemmas.List.{map-append}
use Rattle.std.proofs.lemmas.List.Concat.{flat_map-append}
use Rattle.std.proofs.lemmas.List.Folds.{flat_map-map}
use Rattle.std.proofs.lemmas.List.Elements.{All-head, All-tail, filter-append}
use Rattle.dle_framing.specs.Items.{items}
use Rattle.history_lock.specs.History as history
use Rattle.plant_config.specs.Plant.{PlantData}
use Rattle.plant_core.specs.State.{State, Fits}
use Rattle.plant_core.specs.Step.{step}
use Rattle.plant_core.specs.declared.request.Request.{Request}
use Rattle.plant_core.specs.declared.request.Request.TheVariants as requests
use Rattle.plant_core.specs.declared.answer.Answer.{Answer}
use Rattle.panel_session.specs.Entry.{PlantEntry}
use Rattle.panel_session.specs.Run.{IsWorked, turned}
use Rattle.panel_session.specs.SoFar.{Progress}
use Rattle.panel_session.specs.Text.{IsText}
use Rattle.panel_session.specs.Turns.{Turn, bytes_read, entries_of_turns, entries_in, AreTurns}
use Rattle.panel_session.proofs.KeptTurnLemmas.{are_turns-append}
use Rattle.panel_session.proofs.SessionRequests.{IsOfSession}
use Rattle.record_replay.specs.Laws.{Left, Polled, entries_by, is_of_session, display_seat, session_in, IsSession}

-- What one more element gives stands behind what the others give.
pub flat_map-push : {X A : Type 0} (f : X → List A) (xs : List X) (x : X) → flat_map f (xs ++ x ∷ []) ≡ flat_map f xs ++ f x
flat_map-push f xs x = flat_map-append f xs (x ∷ []) ∙ ap (λ l. flat_map f xs ++ l) (append-nil (f x))

-- an entry that a session asks for
abbrev stays : PlantEntry → Bool
stays entry = is_of_session entry.request

-- A panel's session in a history that goes on.
pub session-append : (panel : ℕ) (front later : List PlantEntry) → session_in panel (front ++ later) ≡ session_in panel front ++ session_in panel later
session-append panel front later =
    ap (filter stays) (filter-append (λ (entry : PlantEntry). entry.seat == panel) front later)
    ∙ filter-append stays (history.entries_of panel front) (history.entries_of panel later)

-- an entry by a seat that a session asks for
abbrev pub IsBy : ℕ → PlantEntry → Type 0
IsBy seat entry = (entry.seat ≡ seat) × (is_of_session entry.request ≡ true)

-- Entries of a turn are all its panel's session's,
pub session-own : (panel : ℕ) (entries : List PlantEntry) → All (IsBy panel) entries → session_in panel entries ≡ entries
session-own panel [] by = refl
session-own panel (entry ∷ entries) by =
    let first = All-head (IsBy panel) entry entries by in
    ap (λ (b : Bool). filter stays (cond b (entry ∷ history.entries_of panel entries) (history.entries_of panel entries))) (eq-eqb entry.seat panel first.0)
    ∙ ap (λ (b : Bool). cond b (entry ∷ session_in panel entries) (session_in panel entries)) first.1
    ∙ ap (λ (l : List PlantEntry). entry ∷ l) (session-own panel entries (All-tail (IsBy panel) entry entries by))

-- and none another panel's.
pub session-other : (panel reader : ℕ) (entries : List PlantEntry) → (reader == panel) ≡ false → All (IsBy reader) entries → session_in panel entries ≡ []
session-other panel reader [] apart by = refl
session-other panel reader (entry ∷ entries) apart by =
    let first = All-head (IsBy reader) entry entries by in
    ap (λ (b : Bool). filter stays (cond b (entry ∷ history.entries_of panel entries) (history.entries_of panel entries))) (ap (λ (seat : ℕ). seat == panel) first.0 ∙ apart)
    ∙ session-other panel reader entries apart (All-tail (IsBy reader) entry entries by)

-- Numbers that differ do so either way round.
pub swapped : (one other : ℕ) → (one == other) ≡ false → (other == one) ≡ false
swapped one other apart = elim (eqb_tells other one) [
  | inl same ↦ absurd (eqb-false one other apart (sym same.1))
  | inr differ ↦ differ.0
]

-- A leave is no part of any session.
pub session-leave : (panel leaver : ℕ) → session_in panel (entries_by (Left leaver)) ≡ []
session-leave panel leaver =
    elim (leaver == panel) as (λ b. filter stays (cond b (entries_by (Left leaver)) []) ≡ []) [
      | true ↦ refl
      | false ↦ refl
    ]

-- Neither is a display poll.
pub session-polled : (panel screen : ℕ) (refresh : Bool) (answers : List Answer) → session_in panel (entries_by (Polled screen refresh answers)) ≡ []
session-polled panel screen refresh answers =
    elim (display_seat == panel) as (λ b. filter stays (cond b (entries_by (Polled screen refresh answers)) []) ≡ []) [
      | true ↦ refl
      | false ↦ refl
    ]

-- What a session may ask for stays.
pub stays-of_session : (request : Request) → IsOfSession request → is_of_session request ≡ true
stays-of_session (requests.Told panel item message) such = refl
stays-of_session (requests.Poll panel item turn) such = refl
stays-of_session (requests.Leave panel) such = absurd such
stays-of_session (requests.DisplayPoll screen refresh) such = absurd such

module _ (plant : PlantData) where
  -- A text is one of equal items and entries too.
  pub text-as : (bytes others sent more : List ℕ) (entries later : List PlantEntry) → bytes ≡ others → entries ≡ later → sent ≡ more → IsText plant (items bytes) entries sent
      → IsText plant (items others) later more
  text-as bytes others sent more entries later same_bytes same_entries same_sent text =
      subst (λ (b : List ℕ). IsText plant (items b) later more) same_bytes
      (subst (λ (e : List PlantEntry). IsText plant (items bytes) e more) same_entries (subst (λ (s : List ℕ). IsText plant (items bytes) entries s) same_sent text))

  -- A panel's session has done this: it read these pieces, made these entries and sent these bytes.
  pub record IsPast (panel : ℕ) (pieces : List (List ℕ)) (entries : List PlantEntry) (sent : List ℕ) (past : Progress) : Type 0 where
    pub are_turns : AreTurns panel past.turns
    pub pieces_are : map (λ turn. turn.piece) past.turns ≡ pieces
    pub entries_are : entries_of_turns past.turns ≡ entries
    pub sent_is : past.sent ≡ sent
    pub text : IsText plant (items (bytes_read past.turns)) (entries_of_turns past.turns) past.sent

  -- Equal ones do as well.
  pub past-as : (panel : ℕ) (pieces pieces' : List (List ℕ)) (entries entries' : List PlantEntry) (sent sent' : List ℕ) (past : Progress) → pieces ≡ pieces' → entries ≡ entries' → sent ≡ sent'
      → IsPast panel pieces entries sent past → IsPast panel pieces' entries' sent' past
  past-as panel pieces pieces' entries entries' sent sent' past same_pieces same_entries same_sent is = record {
    are_turns = is.are_turns;
    pieces_are = is.pieces_are ∙ same_pieces;
    entries_are = is.entries_are ∙ same_entries;
    sent_is = is.sent_is ∙ same_sent;
    text = is.text;
  }

  -- The bytes that it has read are those of its pieces.
  pub past-bytes : (panel : ℕ) (pieces : List (List ℕ)) (entries : List PlantEntry) (sent : List ℕ) (past : Progress) → IsPast panel pieces entries sent past
      → bytes_read past.turns ≡ flat_map (λ piece. piece) pieces
  past-bytes panel pieces entries sent past is =
      sym (flat_map-map (λ (piece : List ℕ). piece) (λ (turn : Turn). turn.piece) past.turns) ∙ ap (flat_map (λ (piece : List ℕ). piece)) is.pieces_are

  -- What a session has done is a session.
  pub past-session : (panel : ℕ) (pieces : List (List ℕ)) (entries : List PlantEntry) (sent : List ℕ) (past : Progress) → IsPast panel pieces entries sent past → IsSession plant panel pieces entries sent
  past-session panel pieces entries sent past is = record {
    fits = record { turns = past.turns; are_turns = is.are_turns; pieces = is.pieces_are; entries_are = is.entries_are };
    text = text-as _ _ past.sent sent (entries_of_turns past.turns) entries (past-bytes panel pieces entries sent past is) is.entries_are is.sent_is is.text;
  }

  -- A turn more was worked.
  pub past-turn : (panel : ℕ) (pieces : List (List ℕ)) (entries : List PlantEntry) (sent piece : List ℕ) (past : Progress) (machine : State) (turn : Turn) (more : List ℕ)
      → IsPast panel pieces entries sent past → turn.piece ≡ piece
      → IsWorked step Fits plant panel past machine turn more → IsPast panel (pieces ++ piece ∷ []) (entries ++ entries_in turn) (sent ++ more) (turned turn more past)
  past-turn panel pieces entries sent piece past machine turn more is piece_is work = record {
    are_turns = are_turns-append panel past.turns turn is.are_turns work.is_turn;
    pieces_are = map-append (λ (turn : Turn). turn.piece) past.turns (turn ∷ []) ∙ (λ i. is.pieces_are i ++ piece_is i ∷ []);
    entries_are = flat_map-push entries_in past.turns turn ∙ ap (λ (l : List PlantEntry). l ++ entries_in turn) is.entries_are;
    sent_is = ap (λ (l : List ℕ). l ++ more) is.sent_is;
    text = text-as _ _ _ _ _ _ (sym (flat_map-push (λ (turn : Turn). turn.piece) past.turns turn)) (sym (flat_map-push entries_in past.turns turn)) refl work.text;
  }
