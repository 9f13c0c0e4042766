-- What a session has done so far begins entries that fit what is read.
use Rattle.std.proofs.Common.{◌≡◌, ◌≢◌, ℕ, ◌+◌, ◌⊎◌, inl, inr, List, [], ◌∷◌, ◌++◌, length, refl, sym, ap, ◌∙◌, subst, arith}
use Rattle.std.proofs.lemmas.List.{append-nil, append_assoc, length-append, map-append}
use Rattle.std.proofs.lemmas.List.Elements.{All-nil}
use mathlib.Core.List.{IsPrefix}
use Rattle.dle_framing.specs.declared.item.Item.{Item}
use Rattle.dle_framing.specs.Items.{items}
use Rattle.dle_framing.proofs.LawLemmas.{items_front}
use Rattle.plant_config.specs.Plant.{PlantData}
use Rattle.plant_core.specs.declared.request.Request.{Request}
use Rattle.plant_core.specs.declared.request.Request.TheVariants.{Told}
use Rattle.panel_session.specs.declared.session.asked.Asked.{Asked}
use Rattle.panel_session.specs.declared.session.asked.Asked.TheVariants.{Nothing, Repeat, Refused, Noted, Named, Sent}
use Rattle.panel_session.specs.declared.session.phase.Phase.{Phase}
use Rattle.panel_session.specs.declared.session.phase.Phase.TheVariants.{Read, Name, Tell, Poll as PollStage, End}
use Rattle.panel_session.specs.declared.session.Session.{Session}
use Rattle.panel_session.specs.Asked.{sent_to_plant}
use Rattle.panel_session.specs.Entry.{PlantEntry}
use Rattle.panel_session.specs.Session.{Stands, kept_of}
use Rattle.panel_session.specs.SoFar.{Progress, FitsOn, poll_now}
use Rattle.panel_session.specs.StandsInside.{Kept, Keeps, IsAtStage}
use Rattle.panel_session.specs.Turns.{Turn, AreTurns, ArePolls, IsTurn, bytes_read, entries_of_turns, poll_behind, requests}
use Rattle.panel_session.proofs.EntryLemmas.{all_ask-append}
use Rattle.panel_session.proofs.KeptTurnLemmas.{are_turns-append, entries_of-append, told_all, told_front}
use Rattle.panel_session.proofs.TextFronts.{all_ask}

nil_or : (polls : List PlantEntry) → (polls ≡ []) ⊎ (polls ≢ [])
nil_or [] = inl refl
nil_or (entry ∷ polls) = inr (λ none. cc)

-- an entry of a request that has no answers
abbrev unanswered : ℕ → Request → PlantEntry
unanswered panel request = record { seat = panel; request = request; answers = [] }

-- entries of these requests
pub all_unanswered : (panel : ℕ) (asked : List Request) → (entries : List PlantEntry) × (requests entries ≡ asked)
all_unanswered panel [] = ([], refl)
all_unanswered panel (request ∷ asked) =
    let others = all_unanswered panel asked in
    (record { seat = panel; request = request; answers = [] } ∷ others.0, ap (λ (asked : List Request). request ∷ asked) others.1)

-- What items send to the plant, and others behind them.
sent_behind : (xs ys : List Asked) (panel item n : ℕ) → n ≡ item + length xs → sent_to_plant panel item (xs ++ ys) ≡ sent_to_plant panel item xs ++ sent_to_plant panel n ys
sent_behind [] ys panel item n is = ap (λ (n : ℕ). sent_to_plant panel n ys) (let same : item ≡ n = omega arith in same)
sent_behind (Nothing ∷ xs) ys panel item n is = sent_behind xs ys panel (item + 1) n (omega arith)
sent_behind (Repeat ∷ xs) ys panel item n is = sent_behind xs ys panel (item + 1) n (omega arith)
sent_behind (Refused ∷ xs) ys panel item n is = sent_behind xs ys panel (item + 1) n (omega arith)
sent_behind (Noted ∷ xs) ys panel item n is = sent_behind xs ys panel (item + 1) n (omega arith)
sent_behind (Named message ∷ xs) ys panel item n is = sent_behind xs ys panel (item + 1) n (omega arith)
sent_behind (Sent message ∷ xs) ys panel item n is = ap (λ (asked : List Request). Told panel item message ∷ asked) (sent_behind xs ys panel (item + 1) n (omega arith))

-- A turn that begins with what was done of the present one makes the entries.
fits_turn : (panel : ℕ) (past : Progress) (turn : Turn) → AreTurns panel past.turns → IsTurn panel past.turns turn → IsPrefix (past.now.told ++ past.now.polls) (turn.told ++ turn.polls)
    → FitsOn panel past turn.piece
fits_turn panel past turn are is front =
    let before = entries_of_turns past.turns in
    record {
      entries = entries_of_turns (past.turns ++ turn ∷ []);
      fits = record {
        turns = past.turns ++ turn ∷ [];
        are_turns = are_turns-append panel past.turns turn are is;
        pieces = map-append (λ (turn : Turn). turn.piece) past.turns (turn ∷ []);
        entries_are = refl;
      };
      front = (
        front.0,
        append_assoc before (past.now.told ++ past.now.polls) front.0 ∙ ap (λ (now : List PlantEntry). before ++ now) front.1 ∙ sym (entries_of-append past.turns turn),
      );
    }

-- Nothing was polled yet: the turn is what was told, what is yet to be, and one poll.
fits_unpolled : (plant : PlantData) (kept : Kept) (past : Progress) (rest : List ℕ) → Keeps plant kept past → past.now.polls ≡ [] → FitsOn kept.panel past (past.now.piece ++ rest)
fits_unpolled plant kept past rest k none =
    let panel = kept.panel in
    let text = bytes_read past.turns in
    let first = length (items text) in
    let n = first + length k.asked in
    let more = items_front (text ++ past.now.piece) ((text ++ past.now.piece) ++ rest) (rest, refl) in
    let others = all_ask more.0 in
    let left = told_front kept.phase panel first k.before k.asked past k.phase in
    let made = all_unanswered panel (left.0 ++ sent_to_plant panel n others.0) in
    let last = unanswered panel (poll_behind panel past.turns (past.now.piece ++ rest)) in
    let told = past.now.told ++ made.0 in
    let turn : Turn = record { piece = past.now.piece ++ rest; told = told; polls = last ∷ [] } in
    let told_is : requests told ≡ sent_to_plant panel first (k.asked ++ others.0) =
    map-append (λ (entry : PlantEntry). entry.request) past.now.told made.0
    ∙ ap (λ (asked : List Request). requests past.now.told ++ asked) made.1
    ∙ sym (append_assoc (requests past.now.told) left.0 (sent_to_plant panel n others.0))
    ∙ ap (λ (asked : List Request). asked ++ sent_to_plant panel n others.0) left.1
    ∙ sym (sent_behind k.asked others.0 panel first n refl) in
    let is_turn : IsTurn panel past.turns turn = record {
      ended = k.ended ++ more.0;
      end_in = ap items (sym (append_assoc text past.now.piece rest)) ∙ sym more.1 ∙ ap (λ (its : List (Item (List ℕ))). its ++ more.0) k.end_in ∙ append_assoc (items text) k.ended more.0;
      asked = k.asked ++ others.0;
      ask = all_ask-append k.ended more.0 k.asked others.0 k.ask others.1;
      told = told_is;
      polls = record {
        answered = [];
        last = last;
        polls_are = refl;
        each = All-nil _;
        last_poll = refl;
        within = omega arith;
        ends = inl refl;
      };
    } in
    fits_turn panel past turn k.turns is_turn (
      made.0 ++ last ∷ [],
      ap (λ (polls : List PlantEntry). (past.now.told ++ polls) ++ (made.0 ++ last ∷ [])) none
          ∙ ap (λ (told : List PlantEntry). told ++ (made.0 ++ last ∷ [])) (append-nil past.now.told)
          ∙ sym (append_assoc past.now.told made.0 (last ∷ [])),
    )

-- The turn has polled: it is what was told, and polls that may go on or are over.
fits_polled : (plant : PlantData) (kept : Kept) (past : Progress) (polls : List PlantEntry) → Keeps plant kept past → past.now.polls ≢ []
    → ArePolls (poll_now kept.panel past) polls → IsPrefix past.now.polls polls → FitsOn kept.panel past past.now.piece
fits_polled plant kept past polls k some are front =
    let panel = kept.panel in
    let turn : Turn = record { piece = past.now.piece; told = past.now.told; polls = polls } in
    let first = length (items (bytes_read past.turns)) in
    let is_turn : IsTurn panel past.turns turn = record {
      ended = k.ended;
      end_in = k.end_in;
      asked = k.asked;
      ask = k.ask;
      told = told_all kept.phase panel first k.before k.asked past k.phase some;
      polls = are;
    } in
    fits_turn panel past turn k.turns is_turn
    (front.0, append_assoc past.now.told past.now.polls front.0 ∙ ap (λ (polls : List PlantEntry). past.now.told ++ polls) front.1)

-- The polls of a turn so far begin the polls of a turn.
polls_on : (plant : PlantData) (kept : Kept) (past : Progress) (k : Keeps plant kept past) → past.now.polls ≢ [] → (phase : Phase) → kept.phase ≡ phase
    → (polls : List PlantEntry) × ArePolls (poll_now kept.panel past) polls × IsPrefix past.now.polls polls
polls_on plant kept past k some Read is =
    let P : Phase → Type 0 = λ phase. IsAtStage phase kept.panel (length (items (bytes_read past.turns))) k.before k.asked past in
    let at = subst P is k.phase in
    absurd (some at.1)
polls_on plant kept past k some (Name page) is =
    let P : Phase → Type 0 = λ phase. IsAtStage phase kept.panel (length (items (bytes_read past.turns))) k.before k.asked past in
    absurd (subst P is k.phase)
polls_on plant kept past k some (Tell message) is =
    let P : Phase → Type 0 = λ phase. IsAtStage phase kept.panel (length (items (bytes_read past.turns))) k.before k.asked past in
    let at = subst P is k.phase in
    absurd (some at.3)
polls_on plant kept past k some PollStage is =
    let P : Phase → Type 0 = λ phase. IsAtStage phase kept.panel (length (items (bytes_read past.turns))) k.before k.asked past in
    let at = subst P is k.phase in
    let last = unanswered kept.panel (poll_now kept.panel past) in (
      past.now.polls ++ last ∷ [],
      record {
        answered = past.now.polls;
        last = last;
        polls_are = refl;
        each = λ i d below. (k.polls i d below, at.1.answered i d below);
        last_poll = refl;
        within = omega (arith, length-append past.now.polls (last ∷ []), at.1.more);
        ends = inl refl;
      },
      (last ∷ [], refl),
    )
polls_on plant kept past k some End is =
    let P : Phase → Type 0 = λ phase. IsAtStage phase kept.panel (length (items (bytes_read past.turns))) k.before k.asked past in
    let at = subst P is k.phase in
    (past.now.polls, at.1, ([], append-nil past.now.polls))

-- What is kept is of a past that begins entries that fit.
keeps_fit : (plant : PlantData) (kept : Kept) (past : Progress) (rest : List ℕ) → Keeps plant kept past → (past.now.polls ≢ [] → rest ≡ []) → FitsOn kept.panel past (past.now.piece ++ rest)
keeps_fit plant kept past rest k used = elim (nil_or past.now.polls) [
  | (inl none) ↦ fits_unpolled plant kept past rest k none
  | (inr some) ↦ (let polls = polls_on plant kept past k some kept.phase refl in
      let P : List ℕ → Type 0 = λ piece. FitsOn kept.panel past piece in
      let same : past.now.piece ++ rest ≡ past.now.piece = ap (λ (rest : List ℕ). past.now.piece ++ rest) (used some) ∙ append-nil past.now.piece in
      subst P (sym same) (fits_polled plant kept past polls.0 k some polls.1 polls.2))
]

pub stands_fit : (plant : PlantData) (panel : ℕ) (session : Session) (past : Progress) (rest : List ℕ) → Stands plant panel session past → (past.now.polls ≢ [] → rest ≡ [])
    → FitsOn panel past (past.now.piece ++ rest)
stands_fit plant panel session past rest stands used =
    let P : ℕ → Type 0 = λ panel. FitsOn panel past (past.now.piece ++ rest) in
    subst P stands.panel_is (keeps_fit plant (kept_of session) past rest stands.keeps used)
