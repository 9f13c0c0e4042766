-- What a session keeps of its past, as it sends and is answered.
use Rattle.std.proofs.Common.{◌≡◌, ℕ, ◌+◌, ◌-◌, ◌⊎◌, inl, inr, List, [], ◌∷◌, ◌++◌, length, Option, Some, refl, sym, ap, ◌∙◌, subst, arith}
use Rattle.std.specs.Prelude.{IsSome}
use Rattle.std.proofs.lemmas.List.Elements.{All-push}
use Rattle.std.proofs.lemmas.List.{append-nil, append_assoc, length-append, map-append}
use Rattle.dle_framing.specs.Numbers.{ack}
use Rattle.dle_framing.specs.Items.{items}
use Rattle.swp08_messages.specs.declared.message.Message.{Message}
use Rattle.plant_config.specs.Plant.{PlantData}
use Rattle.plant_core.specs.declared.answer.Answer.{Answer}
use Rattle.plant_core.specs.declared.request.Request.{Request}
use Rattle.plant_core.specs.declared.request.Request.TheVariants.{Told, Poll}
use Rattle.panel_session.specs.declared.session.asked.Asked.{Asked}
use Rattle.panel_session.specs.declared.session.asked.Asked.TheVariants.{Sent}
use Rattle.panel_session.specs.declared.session.phase.Phase.{Phase}
use Rattle.panel_session.specs.declared.session.phase.Phase.TheVariants.{Read, Tell, Poll as PollStage, End}
use Rattle.panel_session.specs.Entry.{PlantEntry}
use Rattle.panel_session.specs.Asked.{sent_to_plant}
use Rattle.panel_session.specs.Turns.{bytes_read, entries_of_turns, Turn}
use Rattle.panel_session.specs.Text.{Output, frames_of, with_frames, nothing_sent, output_from, told_at, polled_by, polled_at, with_control}
use Rattle.panel_session.specs.OutgoingInside.{emptied}
use Rattle.panel_session.specs.SoFar.{Progress, read_so_far, entries_so_far, with_sent, with_entry}
use Rattle.panel_session.specs.StandsInside.{Kept, Keeps, AllTold, NoneFrom, behind, IsAtStage}
use Rattle.panel_session.proofs.OutputLemmas.{told_output, output_more, output_later, frames-behind, sent-behind}
use Rattle.panel_session.proofs.EntryLemmas.{all_told-append, all_told-same, sent-append, says_told, says_poll, polled_at-same, polled_at-poll, told_at-told, none_from-told, none_from-poll}
use Rattle.panel_session.proofs.KeptItemLemmas.{length-asked, length-before, no_polls}

-- It is the same whatever bytes were sent last.
pub keeps_bytes : (plant : PlantData) (kept : Kept) (past : Progress) (bytes : List ℕ) → Keeps plant kept past → Keeps plant (record kept { output = record kept.output { bytes = bytes } }) past
keeps_bytes plant kept past bytes k = record {
  turns = k.turns;
  before = k.before;
  ask_before = k.ask_before;
  ended = k.ended;
  end_in = k.end_in;
  asked = k.asked;
  ask = k.ask;
  items_are = k.items_are;
  turns_are = k.turns_are;
  polls_are = k.polls_are;
  within = k.within;
  polls = k.polls;
  phase = k.phase;
  none_from = k.none_from;
  output = k.output;
}

pub entries-told : (turns : List Turn) (told polls : List PlantEntry) (entry : PlantEntry) → polls ≡ [] → entries_of_turns turns ++ ((told ++ entry ∷ []) ++ polls) ≡ (entries_of_turns turns ++ (told ++ polls)) ++ entry ∷ []
entries-told turns told polls entry none =
    let P : List PlantEntry → Type 0 = λ polls. entries_of_turns turns ++ ((told ++ entry ∷ []) ++ polls) ≡ (entries_of_turns turns ++ (told ++ polls)) ++ entry ∷ [] in
    subst P (sym none)
    (ap (λ (now : List PlantEntry). entries_of_turns turns ++ now) (append-nil (told ++ entry ∷ []) ∙ ap (λ (told : List PlantEntry). told ++ entry ∷ []) (sym (append-nil told)))
    ∙ sym (append_assoc (entries_of_turns turns) (told ++ []) (entry ∷ [])))

pub entries-polled : (turns : List Turn) (told polls : List PlantEntry) (entry : PlantEntry) → entries_of_turns turns ++ (told ++ (polls ++ entry ∷ [])) ≡ (entries_of_turns turns ++ (told ++ polls)) ++ entry ∷ []
entries-polled turns told polls entry =
    ap (λ (now : List PlantEntry). entries_of_turns turns ++ now) (sym (append_assoc told polls (entry ∷ [])))
    ∙ sym (append_assoc (entries_of_turns turns) (told ++ polls) (entry ∷ []))

-- a past in which a request was answered, and the frames of its answers were sent
abbrev pub with_answered : Output → PlantEntry → Progress → Progress
with_answered output entry past = with_sent (with_frames (frames_of entry.answers) (emptied output)).bytes (with_entry entry past)

-- The plant answered what an item sent to it, and the frames are sent.
pub keeps_told : (plant : PlantData) (panel count turns polls seat : ℕ) (message : Message) (output : Output) (past : Progress) (answers : List Answer)
    → Keeps plant (record { panel = panel; phase = Tell message; items = count; turns = turns; polls = polls; output = output }) past
    → Keeps plant (record { panel = panel; phase = Read; items = count; turns = turns; polls = polls; output = with_frames (frames_of answers) (emptied output) })
    (with_answered output (record { seat = seat; request = Told panel (count - 1) message; answers = answers }) past)
keeps_told plant panel count turns polls seat message output past answers k =
    let kept : Kept = record { panel = panel; phase = Tell message; items = count; turns = turns; polls = polls; output = output } in
    let front = k.phase.0 in
    let asked_is : k.asked ≡ front ++ Sent message ∷ [] = k.phase.1 in
    let first = length (items (bytes_read past.turns)) in
    let E = entries_so_far past in
    let all = length-asked plant kept past k in
    let before_all = length-before plant kept past k in
    let n = first + length front in
    let number : count - 1 ≡ n = omega (arith, length-append k.before k.asked, ap (length {A = Asked}) asked_is, length-append front (Sent message ∷ []), k.items_are) in
    let behind_n : n + 1 ≡ length (items (read_so_far past)) = omega (arith, length-append k.before k.asked, ap (length {A = Asked}) asked_is, length-append front (Sent message ∷ [])) in
    let there : n ≡ 0 + length (k.before ++ front) = omega (arith, length-append k.before front) in
    let entry : PlantEntry = record { seat = seat; request = Told panel (count - 1) message; answers = answers } in
    let is : entry.request ≡ Told panel n message = ap (λ (n : ℕ). Told panel n message) number in
    let more : entries_so_far (with_entry entry past) ≡ E ++ entry ∷ [] = entries-told past.turns past.now.told past.now.polls entry k.phase.3 in
    let says = says_told n panel message E entry is in
    let told_there : told_at n (E ++ entry ∷ []) ≡ Some answers = told_at-told n panel message E entry is (k.phase.5.told n (omega arith)) in
    let Told_all : List PlantEntry → Type 0 = λ entries. AllTold 0 (k.before ++ k.asked) entries in
    let joined : k.before ++ k.asked ≡ (k.before ++ front) ++ Sent message ∷ [] = ap (λ (asked : List Asked). k.before ++ asked) asked_is ∙ sym (append_assoc k.before front (Sent message ∷ [])) in
    let Told_of : List Asked → Type 0 = λ asked. AllTold 0 asked (E ++ entry ∷ []) in
    let IsThere : Option (List Answer) → Type 0 = λ answers. IsSome answers in
    let all_told : AllTold 0 (k.before ++ k.asked) (E ++ entry ∷ []) =
    subst Told_of (sym joined)
    (all_told-append (k.before ++ front) (Sent message) 0 n (E ++ entry ∷ []) there
    (all_told-same (k.before ++ front) 0 n E (E ++ entry ∷ []) there says k.phase.4)
    (subst IsThere (sym told_there) refl)) in
    let NoneOf : ℕ → Type 0 = λ n. NoneFrom n (E ++ entry ∷ []) in
    let none_of : NoneFrom (length (items (read_so_far past))) (E ++ entry ∷ []) = subst NoneOf behind_n (none_from-told n panel message E entry is k.phase.5) in
    let NoneIn : List PlantEntry → Type 0 = λ entries. NoneFrom (length (items (read_so_far past))) entries in
    let X = output_from plant 0 (k.before ++ front) E nothing_sent in
    let was : with_control ack X ≡ behind past.sent (emptied output) =
    ap (λ (told : Option (List Answer)). told_output n E told X) (sym (k.phase.5.told n (omega arith)))
    ∙ sym (output_more plant (k.before ++ front) (Sent message) 0 n E nothing_sent there k.phase.4)
    ∙ ap (λ (asked : List Asked). output_from plant 0 asked E nothing_sent) (sym joined)
    ∙ k.output in
    let same_front : output_from plant 0 (k.before ++ front) (E ++ entry ∷ []) nothing_sent ≡ X =
    output_later plant (k.before ++ front) 0 n E (E ++ entry ∷ []) [] nothing_sent there k.phase.4 says
    (polled_at-same n E entry (ap (λ (request : Request). polled_by n request answers) is) ∙ sym (append-nil (polled_at n E))) in
    let now : output_from plant 0 (k.before ++ k.asked) (E ++ entry ∷ []) nothing_sent ≡ behind past.sent (with_frames (frames_of answers) (emptied output)) =
    ap (λ (asked : List Asked). output_from plant 0 asked (E ++ entry ∷ []) nothing_sent) joined
    ∙ output_more plant (k.before ++ front) (Sent message) 0 n (E ++ entry ∷ []) nothing_sent there (all_told-same (k.before ++ front) 0 n E (E ++ entry ∷ []) there says k.phase.4)
    ∙ ap (λ (told : Option (List Answer)). told_output n (E ++ entry ∷ []) told (output_from plant 0 (k.before ++ front) (E ++ entry ∷ []) nothing_sent)) told_there
    ∙ ap (told_output n (E ++ entry ∷ []) (Some answers)) same_front
    ∙ no_polls (n + 1) (E ++ entry ∷ []) (with_frames (frames_of answers) (with_control ack X))
    (polled_at-same (n + 1) E entry (ap (λ (request : Request). polled_by (n + 1) request answers) is) ∙ k.phase.5.polled (n + 1) (omega arith))
    ∙ ap (with_frames (frames_of answers)) was
    ∙ frames-behind (frames_of answers) past.sent (emptied output) in
    let OutputIn : List PlantEntry → Type 0 = λ entries. output_from plant 0 (k.before ++ k.asked) entries nothing_sent
    ≡ behind (past.sent ++ (with_frames (frames_of answers) (emptied output)).bytes) (emptied (with_frames (frames_of answers) (emptied output))) in
    record {
      turns = k.turns;
      before = k.before;
      ask_before = k.ask_before;
      ended = k.ended;
      end_in = k.end_in;
      asked = k.asked;
      ask = k.ask;
      items_are = k.items_are;
      turns_are = k.turns_are;
      polls_are = k.polls_are;
      within = k.within;
      polls = k.polls;
      phase = (
        map-append (λ (entry : PlantEntry). entry.request) past.now.told (entry ∷ [])
            ∙ ap (λ (told : List Request). told ++ Told panel (count - 1) message ∷ []) k.phase.2
            ∙ ap (λ (n : ℕ). sent_to_plant panel first front ++ Told panel n message ∷ []) number
            ∙ sym (sent-append front (Sent message) panel first n refl)
            ∙ ap (sent_to_plant panel first) (sym asked_is),
        k.phase.3,
        subst Told_all (sym more) all_told,
      );
      none_from = subst NoneIn (sym more) none_of;
      output = subst OutputIn (sym more) (now ∙ sent-behind past.sent (with_frames (frames_of answers) (emptied output)));
    }

-- The plant answered a poll, and the frames are sent. What comes next is the phase with these facts of it.
pub keeps_polled_to : (plant : PlantData) (phase : Phase) (panel count turns polls seat : ℕ) (output : Output) (past : Progress) (answers : List Answer)
    → Keeps plant (record { panel = panel; phase = PollStage; items = count; turns = turns; polls = polls; output = output }) past
    → ((before asked : List Asked) → IsAtStage PollStage panel (length (items (bytes_read past.turns))) before asked past
    → AllTold 0 (before ++ asked) (entries_so_far (with_entry (record { seat = seat; request = Poll panel count turns; answers = answers }) past))
    → IsAtStage phase panel (length (items (bytes_read past.turns))) before asked (with_answered output (record { seat = seat; request = Poll panel count turns; answers = answers }) past))
    → Keeps plant (record { panel = panel; phase = phase; items = count; turns = turns; polls = polls + 1; output = with_frames (frames_of answers) (emptied output) })
    (with_answered output (record { seat = seat; request = Poll panel count turns; answers = answers }) past)
keeps_polled_to plant phase panel count turns polls seat output past answers k phase_then =
    let kept : Kept = record { panel = panel; phase = PollStage; items = count; turns = turns; polls = polls; output = output } in
    let E = entries_so_far past in
    let n = length (items (read_so_far past)) in
    let entry : PlantEntry = record { seat = seat; request = Poll panel count turns; answers = answers } in
    let is : entry.request ≡ Poll panel n turns = ap (λ (n : ℕ). Poll panel n turns) k.items_are in
    let there : n ≡ 0 + length (k.before ++ k.asked) = omega (arith, length-asked plant kept past k) in
    let more : entries_so_far (with_entry entry past) ≡ E ++ entry ∷ [] = entries-polled past.turns past.now.told past.now.polls entry in
    let says = says_poll n panel turns E entry is in
    let all_told : AllTold 0 (k.before ++ k.asked) (E ++ entry ∷ []) = all_told-same (k.before ++ k.asked) 0 n E (E ++ entry ∷ []) there says k.phase.2 in
    let Told_all : List PlantEntry → Type 0 = λ entries. AllTold 0 (k.before ++ k.asked) entries in
    let NoneIn : List PlantEntry → Type 0 = λ entries. NoneFrom n entries in
    let now : output_from plant 0 (k.before ++ k.asked) (E ++ entry ∷ []) nothing_sent ≡ behind past.sent (with_frames (frames_of answers) (emptied output)) =
    output_later plant (k.before ++ k.asked) 0 n E (E ++ entry ∷ []) (frames_of answers) nothing_sent there k.phase.2 says (polled_at-poll n panel turns E entry is)
    ∙ ap (with_frames (frames_of answers)) k.output
    ∙ frames-behind (frames_of answers) past.sent (emptied output) in
    let OutputIn : List PlantEntry → Type 0 = λ entries. output_from plant 0 (k.before ++ k.asked) entries nothing_sent
    ≡ behind (past.sent ++ (with_frames (frames_of answers) (emptied output)).bytes) (emptied (with_frames (frames_of answers) (emptied output))) in
    record {
      turns = k.turns;
      before = k.before;
      ask_before = k.ask_before;
      ended = k.ended;
      end_in = k.end_in;
      asked = k.asked;
      ask = k.ask;
      items_are = k.items_are;
      turns_are = k.turns_are;
      polls_are = ap (λ (n : ℕ). n + 1) k.polls_are ∙ sym (length-append past.now.polls (entry ∷ []));
      within = omega (arith, length-append past.now.polls (entry ∷ []), k.phase.1.more);
      polls = All-push (λ (entry : PlantEntry). entry.request ≡ Poll panel n (length past.turns)) past.now.polls entry k.polls (is ∙ ap (Poll panel n) k.turns_are);
      phase = phase_then k.before k.asked k.phase (subst Told_all (sym more) all_told);
      none_from = subst NoneIn (sym more) (none_from-poll n panel turns E entry is k.none_from);
      output = subst OutputIn (sym more) (now ∙ sent-behind past.sent (with_frames (frames_of answers) (emptied output)));
    }

-- a poll that is the last
pub keeps_polled_last : (plant : PlantData) (panel count turns polls seat : ℕ) (output : Output) (past : Progress) (answers : List Answer)
    → Keeps plant (record { panel = panel; phase = PollStage; items = count; turns = turns; polls = polls; output = output }) past
    → (answers ≡ []) ⊎ (polls + 1 ≡ 32)
    → Keeps plant (record { panel = panel; phase = End; items = count; turns = turns; polls = polls + 1; output = with_frames (frames_of answers) (emptied output) })
    (with_answered output (record { seat = seat; request = Poll panel count turns; answers = answers }) past)
keeps_polled_last plant panel count turns polls seat output past answers k last =
    let n = length (items (read_so_far past)) in
    let entry : PlantEntry = record { seat = seat; request = Poll panel count turns; answers = answers } in
    let poll = Poll panel n (length past.turns) in
    let is : entry.request ≡ poll = ap (λ (n : ℕ). Poll panel n turns) k.items_are ∙ ap (Poll panel n) k.turns_are in
    keeps_polled_to plant End panel count turns polls seat output past answers k (λ before asked at all. (
      at.0,
      record {
        answered = past.now.polls;
        last = entry;
        polls_are = refl;
        each = λ i d below. (k.polls i d below, at.1.answered i d below);
        last_poll = is;
        within = omega (arith, length-append past.now.polls (entry ∷ []), at.1.more);
        ends = elim last [ (inl none) ↦ inl none | (inr full) ↦ inr (length-append past.now.polls (entry ∷ []) ∙ ap (λ (n : ℕ). n + 1) (sym k.polls_are) ∙ full) ];
      },
      all,
    ))
