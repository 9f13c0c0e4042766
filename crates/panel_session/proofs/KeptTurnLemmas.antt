-- What a session keeps of its past, turn by turn.
use Rattle.std.proofs.Common.{◌≡◌, ◌≢◌, ℕ, ◌+◌, ◌⊎◌, inl, inr, List, [], ◌∷◌, ◌++◌, length, refl, sym, ap, ◌∙◌, subst, arith}
use Rattle.std.proofs.lemmas.List.Elements.{All-nil, All-push}
use Rattle.std.proofs.lemmas.List.{append-nil, length-append}
use Rattle.dle_framing.specs.declared.item.Item.{Item}
use Rattle.dle_framing.specs.Items.{TextReading, items}
use Rattle.dle_framing.proofs.Readings.{reading-by_start}
use Rattle.plant_config.specs.Plant.{PlantData}
use Rattle.std.proofs.lemmas.Grind.{flat_map-append}
use Rattle.plant_core.specs.declared.answer.Answer.{Answer}
use Rattle.plant_core.specs.declared.request.Request.{Request}
use Rattle.plant_core.specs.declared.request.Request.TheVariants.{Poll}
use Rattle.panel_session.specs.declared.session.asked.Asked.{Asked}
use Rattle.panel_session.specs.declared.session.asked.Asked.TheVariants.{Sent}
use Rattle.panel_session.specs.declared.session.phase.Phase.{Phase}
use Rattle.panel_session.specs.declared.session.phase.Phase.TheVariants.{Read, Name, Tell, Poll as PollStage, End}
use Rattle.panel_session.specs.Entry.{PlantEntry}
use Rattle.panel_session.specs.Asked.{AllAsk, sent_to_plant}
use Rattle.panel_session.specs.Turns.{bytes_read, entries_of_turns, requests, AreTurns, IsTurn, Turn}
use Rattle.panel_session.specs.Text.{Output, frames_of, with_frames, nothing_sent, output_from, IsText}
use Rattle.panel_session.specs.OutgoingInside.{emptied}
use mathlib.Core.List.{IsPrefix}
use Rattle.panel_session.specs.SoFar.{IsSoFar, Progress, nothing_yet, read_so_far, entries_so_far, with_turn}
use Rattle.panel_session.specs.StandsInside.{Kept, Keeps, AllTold, NoneFrom, IsAtStage}
use Rattle.panel_session.proofs.EntryLemmas.{all_ask-append, sent-append}
use Rattle.panel_session.proofs.KeptItemLemmas.{reading}
use Rattle.panel_session.proofs.KeepsLemmas.{keeps_polled_to, with_answered}

-- a poll that isn't
pub keeps_polled_more : (plant : PlantData) (panel count turns polls seat : ℕ) (output : Output) (past : Progress) (answers : List Answer)
    → Keeps plant (record { panel = panel; phase = PollStage; items = count; turns = turns; polls = polls; output = output }) past
    → answers ≢ [] → polls + 1 ≢ 32
    → Keeps plant (record { panel = panel; phase = PollStage; items = count; turns = turns; polls = polls + 1; output = with_frames (frames_of answers) (emptied output) })
    (with_answered output (record { seat = seat; request = Poll panel count turns; answers = answers }) past)
keeps_polled_more plant panel count turns polls seat output past answers k some below =
    let entry : PlantEntry = record { seat = seat; request = Poll panel count turns; answers = answers } in
    let polls_are : polls ≡ length past.now.polls = k.polls_are in
    keeps_polled_to plant PollStage panel count turns polls seat output past answers k (λ before asked at all. (
      at.0,
      record {
        answered = All-push (λ (entry : PlantEntry). entry.answers ≢ []) past.now.polls entry at.1.answered some;
        more = omega (arith, length-append past.now.polls (entry ∷ []), at.1.more, below);
      },
      all,
    ))

-- A list with one more at its end, taken apart.
split_last : {T : Type 0} (xs : List T) (x : T) (before after : List T) (t : T) → xs ++ x ∷ [] ≡ before ++ t ∷ after → ((before ≡ xs) × (t ≡ x)) ⊎ ((rest : List T) × (xs ≡ before ++ t ∷ rest))
split_last [] x [] after t is = inl (refl, cc)
split_last (y ∷ xs) x [] after t is = let first : y ≡ t = cc in inr (xs, ap (λ (y : _). y ∷ xs) first)
split_last [] x (b ∷ before) after t is = let none : [] ≡ before ++ t ∷ after = cc in absurd (omega (arith, ap length none, length-append before (t ∷ after)))
split_last (y ∷ xs) x (b ∷ before) after t is =
    let first : y ≡ b = cc in
    let rest : xs ++ x ∷ [] ≡ before ++ t ∷ after = cc in
    elim (split_last xs x before after t rest) [
      | (inl (same, last)) ↦ inl (cc, last)
      | (inr (more, split)) ↦ inr (more, cc)
    ]

pub are_turns-append : (panel : ℕ) (turns : List Turn) (turn : Turn) → AreTurns panel turns → IsTurn panel turns turn → AreTurns panel (turns ++ turn ∷ [])
are_turns-append panel turns turn are is before after other split =
    elim (split_last turns turn before after other split) [
      | (inl (same, last)) ↦ (let P : List Turn → Type 0 = λ before. IsTurn panel before other in let Q : Turn → Type 0 = λ turn. IsTurn panel turns turn in subst P (sym same) (subst Q (sym last) is))
      | (inr (rest, split)) ↦ are before rest other split
    ]

-- the bytes and the entries of one turn more
pub bytes_of-append : (turns : List Turn) (turn : Turn) → bytes_read (turns ++ turn ∷ []) ≡ bytes_read turns ++ turn.piece
bytes_of-append turns turn = flat_map-append (λ (turn : Turn). turn.piece) turns (turn ∷ []) ∙ ap (λ (piece : List ℕ). bytes_read turns ++ piece) (append-nil turn.piece)

pub entries_of-append : (turns : List Turn) (turn : Turn) → entries_of_turns (turns ++ turn ∷ []) ≡ entries_of_turns turns ++ (turn.told ++ turn.polls)
entries_of-append turns turn =
    flat_map-append (λ (turn : Turn). turn.told ++ turn.polls) turns (turn ∷ []) ∙ ap (λ (now : List PlantEntry). entries_of_turns turns ++ now) (append-nil (turn.told ++ turn.polls))

-- A turn that is over is one.
pub turn_over : (plant : PlantData) (panel count turns polls : ℕ) (output : Output) (past : Progress)
    → Keeps plant (record { panel = panel; phase = End; items = count; turns = turns; polls = polls; output = output }) past → IsTurn panel past.turns past.now
turn_over plant panel count turns polls output past k = record { ended = k.ended; end_in = k.end_in; asked = k.asked; ask = k.ask; told = k.phase.0; polls = k.phase.1 }

-- The next turn begins.
pub keeps_turn : (plant : PlantData) (panel count turns polls : ℕ) (output : Output) (past : Progress)
    → Keeps plant (record { panel = panel; phase = End; items = count; turns = turns; polls = polls; output = output }) past
    → Keeps plant (reading panel count (turns + 1) 0 output) (with_turn past)
keeps_turn plant panel count turns polls output past k =
    let later = with_turn past in
    let bytes : bytes_read later.turns ≡ read_so_far past = bytes_of-append past.turns past.now in
    let read : read_so_far later ≡ read_so_far past = append-nil (bytes_read later.turns) ∙ bytes in
    let entries : entries_so_far later ≡ entries_so_far past = append-nil (entries_of_turns later.turns) ∙ entries_of-append past.turns past.now in
    let AskOf : List (Item (List ℕ)) → Type 0 = λ its. AllAsk its (k.before ++ k.asked) in
    let Told_of : List Asked → Type 0 = λ asked. AllTold 0 asked (entries_so_far past) in
    let Told_in : List PlantEntry → Type 0 = λ entries. AllTold 0 ((k.before ++ k.asked) ++ []) entries in
    let NoneOf : ℕ → Type 0 = λ n. NoneFrom n (entries_so_far past) in
    let NoneIn : List PlantEntry → Type 0 = λ entries. NoneFrom (length (items (read_so_far later))) entries in
    let counted : length (items (read_so_far later)) ≡ length (items (read_so_far past)) = ap (λ (text : List ℕ). length (items text)) read in
    record {
      turns = are_turns-append panel past.turns past.now k.turns (turn_over plant panel count turns polls output past k);
      before = k.before ++ k.asked;
      ask_before = subst AskOf (sym (ap items bytes ∙ k.end_in)) (all_ask-append (items (bytes_read past.turns)) k.ended k.before k.asked k.ask_before k.ask);
      ended = [];
      end_in = ap items (append-nil (bytes_read later.turns)) ∙ sym (append-nil (items (bytes_read later.turns)));
      asked = [];
      ask = tt;
      items_are = k.items_are ∙ sym counted;
      turns_are = ap (λ (n : ℕ). n + 1) k.turns_are ∙ sym (length-append past.turns (past.now ∷ []));
      polls_are = refl;
      within = omega arith;
      polls = All-nil _;
      phase = (refl, refl, subst Told_in (sym entries) (subst Told_of (sym (append-nil (k.before ++ k.asked))) k.phase.2));
      none_from = subst NoneIn (sym entries) (subst NoneOf (sym counted) k.none_from);
      output = ap (λ (asked : List Asked). output_from plant 0 asked (entries_so_far later) nothing_sent) (append-nil (k.before ++ k.asked))
          ∙ ap (λ (entries : List PlantEntry). output_from plant 0 (k.before ++ k.asked) entries nothing_sent) entries
          ∙ k.output;
    }

-- Nothing was read yet.
pub keeps_nothing : (plant : PlantData) (panel : ℕ) → Keeps plant (reading panel 0 0 0 nothing_sent) nothing_yet
keeps_nothing plant panel = record {
  turns = λ before after turn is. absurd (omega (arith, ap length is, length-append before (turn ∷ after)));
  before = [];
  ask_before = subst NoneAsk (sym none) tt;
  ended = [];
  end_in = sym (append-nil (items []));
  asked = [];
  ask = tt;
  items_are = sym (ap (length {A = Item (List ℕ)}) none);
  turns_are = refl;
  polls_are = refl;
  within = omega arith;
  polls = All-nil _;
  phase = (refl, refl, tt);
  none_from = record { told = λ k from. refl; polled = λ k from. refl };
  output = refl;
} where
  none : items [] ≡ []
  none = ap (λ (reading : TextReading). reading.items) (reading-by_start [])

  NoneAsk : List (Item (List ℕ)) → Type 0
  NoneAsk its = AllAsk its []

-- The session's whole text was sent.
pub keeps_text : (plant : PlantData) (kept : Kept) (past : Progress) → Keeps plant kept past → IsText plant (items (read_so_far past)) (entries_so_far past) past.sent
keeps_text plant kept past k =
    let AskOf : List (Item (List ℕ)) → Type 0 = λ its. AllAsk its (k.before ++ k.asked) in
    record {
      asked = k.before ++ k.asked;
      items_ask = subst AskOf (sym k.end_in) (all_ask-append (items (bytes_read past.turns)) k.ended k.before k.asked k.ask_before k.ask);
      bytes = sym (ap (λ (output : Output). output.bytes) k.output ∙ append-nil past.sent);
    }

-- What was told of a turn so far is a front of what its items send, and all of it where polls were made.
pub told_front : (phase : Phase) (panel first : ℕ) (before asked : List Asked) (past : Progress) → IsAtStage phase panel first before asked past → IsPrefix (requests past.now.told) (sent_to_plant panel first asked)
told_front Read panel first before asked past at = ([], append-nil _ ∙ at.0)
told_front (Name page) panel first before asked past at = absurd at
told_front (Tell message) panel first before asked past at = (
  sent_to_plant panel (first + length at.0) (Sent message ∷ []),
  ap (λ (told : List Request). told ++ sent_to_plant panel (first + length at.0) (Sent message ∷ [])) at.2
      ∙ sym (sent-append at.0 (Sent message) panel first (first + length at.0) refl)
      ∙ ap (sent_to_plant panel first) (sym at.1),
)
told_front PollStage panel first before asked past at = ([], append-nil _ ∙ at.0)
told_front End panel first before asked past at = ([], append-nil _ ∙ at.0)

pub told_all : (phase : Phase) (panel first : ℕ) (before asked : List Asked) (past : Progress) → IsAtStage phase panel first before asked past → past.now.polls ≢ [] → requests past.now.told ≡ sent_to_plant panel first asked
told_all Read panel first before asked past at some = at.0
told_all (Name page) panel first before asked past at some = absurd at
told_all (Tell message) panel first before asked past at some = absurd (some at.3)
told_all PollStage panel first before asked past at some = at.0
told_all End panel first before asked past at some = at.0

-- What is kept is of a past that fits.
pub keeps_so_far : (plant : PlantData) (kept : Kept) (past : Progress) → Keeps plant kept past → IsSoFar plant kept.panel past
keeps_so_far plant kept past k =
    let AskOf : List (Item (List ℕ)) → Type 0 = λ its. AllAsk its (k.before ++ k.asked) in
    let first = length (items (bytes_read past.turns)) in
    record {
      turns = k.turns;
      ended = k.ended;
      end_in = k.end_in;
      asked = k.asked;
      ask = k.ask;
      told = told_front kept.phase kept.panel first k.before k.asked past k.phase;
      polls = k.polls;
      told_first = told_all kept.phase kept.panel first k.before k.asked past k.phase;
      within = k.within;
      text = (output_from plant 0 (k.before ++ k.asked) (entries_so_far past) nothing_sent).bytes;
      is_text = record {
        asked = k.before ++ k.asked;
        items_ask = subst AskOf (sym k.end_in) (all_ask-append (items (bytes_read past.turns)) k.ended k.before k.asked k.ask_before k.ask);
        bytes = refl;
      };
      sent = ([], sym (ap (λ (output : Output). output.bytes) k.output));
    }
