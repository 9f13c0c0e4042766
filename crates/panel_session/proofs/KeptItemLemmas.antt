-- What a session keeps of its past, item by item.
use Rattle.std.proofs.Common.{◌≡◌, ℕ, ◌+◌, List, [], ◌∷◌, ◌++◌, length, Option, refl, sym, ap, ◌∙◌, subst, arith}
use Rattle.std.specs.Prelude.{All}
use Rattle.std.proofs.lemmas.List.Elements.{All-nil}
use Rattle.std.proofs.lemmas.List.{append-nil, append_assoc, length-append}
use Rattle.dle_framing.specs.Numbers.{ack, nak}
use Rattle.dle_framing.specs.declared.item.Item.{Item}
use Rattle.dle_framing.specs.declared.item.Item.TheVariants.{Good, Bad, Ack, Nak}
use Rattle.dle_framing.specs.Items.{items}
use Rattle.swp08_messages.specs.declared.message.Message.{Message}
use Rattle.plant_config.specs.Plant.{PlantData}
use Rattle.plant_core.specs.declared.answer.Answer.{Answer}
use Rattle.plant_core.specs.declared.request.Request.{Request}
use Rattle.plant_core.specs.declared.request.Request.TheVariants.{Poll}
use Rattle.panel_session.specs.declared.session.asked.Asked.{Asked}
use Rattle.panel_session.specs.declared.session.asked.Asked.TheVariants.{Nothing, Repeat, Refused, Noted, Named, Sent}
use Rattle.panel_session.specs.declared.session.phase.Phase.{Phase}
use Rattle.panel_session.specs.declared.session.phase.Phase.TheVariants.{Read, Name, Tell, Poll as PollStage, End}
use Rattle.panel_session.specs.Entry.{PlantEntry}
use Rattle.plant_core.specs.State.{IsForPlant}
use Rattle.panel_session.specs.Asked.{Asks, sent_to_plant}
use Rattle.panel_session.specs.Turns.{bytes_read}
use Rattle.panel_session.specs.Text.{Output, with_frames, nothing_sent, output_from, polled_at, with_control, repeated, with_polls}
use Rattle.panel_session.specs.NamePages.{name_frames}
use Rattle.panel_session.specs.OutgoingInside.{emptied}
use Rattle.panel_session.specs.SoFar.{Progress, read_so_far, entries_so_far, with_bytes, with_sent}
use Rattle.panel_session.specs.StandsInside.{Kept, Keeps, IsTold, AllTold, NoneFrom, behind, MayPoll, IsAtStage}
use Rattle.panel_session.specs.TakenInside.{taken_output, taken_phase, sent_by}
use Rattle.panel_session.proofs.OutputLemmas.{told_output, output_with, output_more, control-behind, frames-behind, repeated-behind, sent-behind}
use Rattle.panel_session.proofs.EntryLemmas.{length-ask, all_ask-append, all_told-append, sent-append, none_from-more}

-- as many things are asked as there are items
pub length-asked : (plant : PlantData) (kept : Kept) (past : Progress) (k : Keeps plant kept past) → length (k.before ++ k.asked) ≡ length (items (read_so_far past))
length-asked plant kept past k =
    length-ask (items (bytes_read past.turns) ++ k.ended) (k.before ++ k.asked) (all_ask-append (items (bytes_read past.turns)) k.ended k.before k.asked k.ask_before k.ask)
    ∙ ap (length {A = Item (List ℕ)}) (sym k.end_in)

pub length-before : (plant : PlantData) (kept : Kept) (past : Progress) (k : Keeps plant kept past) → length k.before ≡ length (items (bytes_read past.turns))
length-before plant kept past k = length-ask (items (bytes_read past.turns)) k.before k.ask_before

-- bytes more of the present piece
pub read-more : (past : Progress) (bytes : List ℕ) → read_so_far past ++ bytes ≡ read_so_far (with_bytes bytes past)
read-more past bytes = append_assoc (bytes_read past.turns) past.now.piece bytes

-- where no item is behind, polls there give nothing
pub no_polls : (n : ℕ) (entries : List PlantEntry) (output : Output) → polled_at n entries ≡ [] → with_polls n entries output ≡ output
no_polls n entries output none = ap (λ (frames : List (List ℕ)). with_frames frames output) none

-- What an item makes of what was sent before it.
pub item_output : (plant : PlantData) (a : Asked) (n : ℕ) (entries : List PlantEntry) (before : List ℕ) (output : Output) → NoneFrom n entries
    → output_with plant n a entries (behind before (emptied output)) ≡ behind (before ++ sent_by plant a output) (emptied (taken_output plant a output))
item_output plant Nothing n entries before output none =
    no_polls (n + 1) entries (behind before (emptied output)) (none.polled (n + 1) (omega arith))
    ∙ ap (λ (bytes : List ℕ). record output { bytes = bytes }) (ap (λ (bytes : List ℕ). bytes ++ []) (sym (append-nil before)))
item_output plant Repeat n entries before output none =
    no_polls (n + 1) entries (repeated (behind before (emptied output))) (none.polled (n + 1) (omega arith))
    ∙ repeated-behind before (emptied output)
    ∙ sent-behind before (repeated (emptied output))
item_output plant Refused n entries before output none =
    no_polls (n + 1) entries (with_control nak (behind before (emptied output))) (none.polled (n + 1) (omega arith))
    ∙ control-behind nak before (emptied output)
    ∙ sent-behind before (with_control nak (emptied output))
item_output plant Noted n entries before output none =
    no_polls (n + 1) entries (with_control ack (behind before (emptied output))) (none.polled (n + 1) (omega arith))
    ∙ control-behind ack before (emptied output)
    ∙ sent-behind before (with_control ack (emptied output))
item_output plant (Named message) n entries before output none =
    let frames = name_frames plant message in
    no_polls (n + 1) entries (with_frames frames (with_control ack (behind before (emptied output)))) (none.polled (n + 1) (omega arith))
    ∙ ap (with_frames frames) (control-behind ack before (emptied output))
    ∙ frames-behind frames before (with_control ack (emptied output))
    ∙ sent-behind before (with_frames frames (with_control ack (emptied output)))
item_output plant (Sent message) n entries before output none =
    ap (λ (told : Option (List Answer)). told_output n entries told (behind before (emptied output))) (none.told n (omega arith))
    ∙ control-behind ack before (emptied output)
    ∙ sent-behind before (with_control ack (emptied output))

-- What an item sends to the plant, the plant takes.
for_plant : (item : Item (List ℕ)) (message : Message) → Asks item (Sent message) → IsForPlant message
for_plant (Good carried) message asks = (asks.1, asks.0.in_range)
for_plant Bad message asks = cc
for_plant Ack message asks = cc
for_plant Nak message asks = cc

-- The phase behind an item that sends the plant nothing.
quiet_phase : (a : Asked) (panel first n : ℕ) (before asked : List Asked) (past : Progress) → sent_to_plant panel n (a ∷ []) ≡ [] → IsTold n a (entries_so_far past)
    → IsAtStage Read panel first before asked past → n ≡ first + length asked → n ≡ 0 + length (before ++ asked)
    → IsAtStage Read panel first before (asked ++ a ∷ []) past
quiet_phase a panel first n before asked past quiet told phase here all = (
  phase.0 ∙ sym (sent-append asked a panel first n here ∙ ap (λ (more : List Request). sent_to_plant panel first asked ++ more) quiet ∙ append-nil (sent_to_plant panel first asked)),
  phase.1,
  (let P : List Asked → Type 0 = λ asked. AllTold 0 asked (entries_so_far past) in
      subst P (append_assoc before asked (a ∷ [])) (all_told-append (before ++ asked) a 0 n (entries_so_far past) all phase.2 told)),
)

-- The phase behind an item.
item_phase : (a : Asked) (item : Item (List ℕ)) (panel first n : ℕ) (before asked : List Asked) (past : Progress) → Asks item a → IsAtStage Read panel first before asked past
    → NoneFrom n (entries_so_far past) → n ≡ first + length asked → n ≡ 0 + length (before ++ asked)
    → IsAtStage (taken_phase a) panel first before (asked ++ a ∷ []) past
item_phase Nothing item panel first n before asked past asks phase none here all = quiet_phase Nothing panel first n before asked past refl tt phase here all
item_phase Repeat item panel first n before asked past asks phase none here all = quiet_phase Repeat panel first n before asked past refl tt phase here all
item_phase Refused item panel first n before asked past asks phase none here all = quiet_phase Refused panel first n before asked past refl tt phase here all
item_phase Noted item panel first n before asked past asks phase none here all = quiet_phase Noted panel first n before asked past refl tt phase here all
item_phase (Named message) item panel first n before asked past asks phase none here all = quiet_phase (Named message) panel first n before asked past refl tt phase here all
item_phase (Sent message) item panel first n before asked past asks phase none here all = (
  asked,
  refl,
  phase.0,
  phase.1,
  phase.2,
  (let P : ℕ → Type 0 = λ n. NoneFrom n (entries_so_far past) in subst P here none),
  for_plant item message asks,
)

-- a session that reads, with nothing to be sent
abbrev pub reading : ℕ → ℕ → ℕ → ℕ → Output → Kept
reading panel items turns polls output = record { panel = panel; phase = Read; items = items; turns = turns; polls = polls; output = output }

-- what an item makes of it
abbrev pub taken : PlantData → Asked → ℕ → ℕ → ℕ → ℕ → Output → Kept
taken plant a panel items turns polls output =
    record { panel = panel; phase = taken_phase a; items = items + 1; turns = turns; polls = polls; output = taken_output plant a output }

-- The phase says the same of a past in which more bytes were used and sent.
phase-past : (phase : Phase) (panel first : ℕ) (before asked : List Asked) (past : Progress) (bytes sent : List ℕ) → (phase ≡ End → ⊥) → IsAtStage phase panel first before asked past → IsAtStage phase panel first before asked (with_sent sent (with_bytes bytes past))
phase-past Read panel first before asked past bytes sent running at = at
phase-past (Name page) panel first before asked past bytes sent running at = at
phase-past (Tell message) panel first before asked past bytes sent running at = at
phase-past PollStage panel first before asked past bytes sent running at = at
phase-past End panel first before asked past bytes sent running at = absurd (running refl)

not_end : (a : Asked) → taken_phase a ≡ End → ⊥
not_end Nothing is = cc
not_end Repeat is = cc
not_end Refused is = cc
not_end Noted is = cc
not_end (Named message) is = cc
not_end (Sent message) is = cc

-- An item more was read.
pub keeps_item : (plant : PlantData) (a : Asked) (item : Item (List ℕ)) (panel count turns polls : ℕ) (output : Output) (past : Progress) (bytes : List ℕ) → Keeps plant (reading panel count turns polls output) past
    → items (read_so_far past ++ bytes) ≡ items (read_so_far past) ++ item ∷ [] → Asks item a
    → Keeps plant (taken plant a panel count turns polls output) (with_sent (sent_by plant a output) (with_bytes bytes past))
keeps_item plant a item panel count turns polls output past bytes k adds asks =
    let text = read_so_far past in
    let first = length (items (bytes_read past.turns)) in
    let more : items (read_so_far (with_bytes bytes past)) ≡ items text ++ item ∷ [] = ap items (sym (read-more past bytes)) ∙ adds in
    let counted : length (items (read_so_far (with_bytes bytes past))) ≡ length (items text) + 1 = ap (length {A = Item (List ℕ)}) more ∙ length-append (items text) (item ∷ []) in
    let all : length (k.before ++ k.asked) ≡ length (items text) = length-asked plant (reading panel count turns polls output) past k in
    let front : length k.before ≡ first = length-before plant (reading panel count turns polls output) past k in
    let here : length (items text) ≡ first + length k.asked = omega (arith, length-append k.before k.asked) in
    let there : length (items text) ≡ 0 + length (k.before ++ k.asked) = omega arith in
    let none : NoneFrom (length (items text)) (entries_so_far past) = k.none_from in
    let NoneAt : ℕ → Type 0 = λ n. NoneFrom n (entries_so_far past) in
    let OutputOf : List Asked → Type 0 = λ asked. output_from plant 0 asked (entries_so_far past) nothing_sent ≡ behind (past.sent ++ sent_by plant a output) (emptied (taken_output plant a output)) in
    record {
      turns = k.turns;
      before = k.before;
      ask_before = k.ask_before;
      ended = k.ended ++ item ∷ [];
      end_in = more ∙ ap (λ (its : List (Item (List ℕ))). its ++ item ∷ []) k.end_in ∙ append_assoc (items (bytes_read past.turns)) k.ended (item ∷ []);
      asked = k.asked ++ a ∷ [];
      ask = all_ask-append k.ended (item ∷ []) k.asked (a ∷ []) k.ask (asks, tt);
      items_are = ap (λ (n : ℕ). n + 1) k.items_are ∙ sym counted;
      turns_are = k.turns_are;
      polls_are = k.polls_are;
      within = k.within;
      polls = no_poll (λ (entry : PlantEntry). entry.request ≡ Poll panel (length (items (read_so_far (with_bytes bytes past)))) (length past.turns)) past.now.polls k.phase.1;
      phase = phase-past (taken_phase a) panel first k.before (k.asked ++ a ∷ []) past bytes (sent_by plant a output) (not_end a)
          (item_phase a item panel first (length (items text)) k.before k.asked past asks k.phase none here there);
      none_from = subst NoneAt (sym counted) (none_from-more (length (items text)) (entries_so_far past) none);
      output = subst OutputOf (append_assoc k.before k.asked (a ∷ []))
          (output_more plant (k.before ++ k.asked) a 0 (length (items text)) (entries_so_far past) nothing_sent there k.phase.2
          ∙ ap (λ (output : Output). output_with plant (length (items text)) a (entries_so_far past) output) k.output
          ∙ item_output plant a (length (items text)) (entries_so_far past) past.sent output none);
    } where
      no_poll : (P : PlantEntry → Type 0) (polls : List PlantEntry) → polls ≡ [] → All P polls
      no_poll P polls is = let Q : List PlantEntry → Type 0 = λ polls. All P polls in subst Q (sym is) (All-nil P)

-- Bytes in which no item ends were read.
pub keeps_none : (plant : PlantData) (panel count turns polls : ℕ) (output : Output) (past : Progress) (bytes : List ℕ) → Keeps plant (reading panel count turns polls output) past
    → items (read_so_far past ++ bytes) ≡ items (read_so_far past) → Keeps plant (reading panel count turns polls output) (with_bytes bytes past)
keeps_none plant panel count turns polls output past bytes k none =
    let same : items (read_so_far (with_bytes bytes past)) ≡ items (read_so_far past) = ap items (sym (read-more past bytes)) ∙ none in
    let counted : length (items (read_so_far (with_bytes bytes past))) ≡ length (items (read_so_far past)) = ap (length {A = Item (List ℕ)}) same in
    let NoneAt : ℕ → Type 0 = λ n. NoneFrom n (entries_so_far past) in
    let PollsAt : ℕ → Type 0 = λ n. All (λ (entry : PlantEntry). entry.request ≡ Poll panel n (length past.turns)) past.now.polls in
    record {
      turns = k.turns;
      before = k.before;
      ask_before = k.ask_before;
      ended = k.ended;
      end_in = same ∙ k.end_in;
      asked = k.asked;
      ask = k.ask;
      items_are = k.items_are ∙ sym counted;
      turns_are = k.turns_are;
      polls_are = k.polls_are;
      within = k.within;
      polls = subst PollsAt (sym counted) k.polls;
      phase = k.phase;
      none_from = subst NoneAt (sym counted) k.none_from;
      output = k.output;
    }

-- The piece is used up, and polls come.
pub keeps_to_poll : (plant : PlantData) (panel count turns polls : ℕ) (output : Output) (past : Progress) → Keeps plant (reading panel count turns polls output) past
    → Keeps plant (record { panel = panel; phase = PollStage; items = count; turns = turns; polls = polls; output = output }) past
keeps_to_poll plant panel count turns polls output past k = record {
  turns = k.turns;
  before = k.before;
  ask_before = k.ask_before;
  ended = k.ended;
  end_in = k.end_in;
  asked = k.asked;
  ask = k.ask;
  items_are = k.items_are;
  turns_are = k.turns_are;
  polls_are = k.polls_are;
  within = k.within;
  polls = k.polls;
  phase = (k.phase.0, (let P : List PlantEntry → Type 0 = λ polls. MayPoll polls in subst P (sym k.phase.1) none), k.phase.2);
  none_from = k.none_from;
  output = k.output;
} where
  none : MayPoll []
  none = record { answered = All-nil _; more = omega arith }
