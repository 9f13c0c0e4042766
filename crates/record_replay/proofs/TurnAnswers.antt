-- What is sent in a turn answers its items, and then tells notices.
use Rattle.std.proofs.Common.{◌≡◌, ℕ, ◌+◌, ◌<◌, ◌≤◌, List, [], ◌∷◌, ◌++◌, length, sym, ap, ◌∙◌, subst, arith, append_assoc, append-nil, length-append}
use Rattle.std.proofs.lemmas.List.{append_cancel_left}
use Rattle.dle_framing.specs.declared.item.Item.{Item}
use Rattle.dle_framing.specs.Items.{items}
use Rattle.plant_config.specs.Plant.{PlantData}
use Rattle.panel_session.specs.Asked.{AllAsk}
use Rattle.panel_session.specs.Entry.{PlantEntry}
use Rattle.panel_session.specs.Run.{turned}
use Rattle.panel_session.specs.SettledInside.{Settled}
use Rattle.panel_session.specs.SoFar.{Progress, read_so_far, entries_so_far}
use Rattle.panel_session.specs.StandsInside.{AllTold, NoneFrom}
use Rattle.panel_session.specs.Text.{Output, nothing_sent, polled_at}
use Rattle.panel_session.specs.Turns.{Turn, bytes_read, entries_in, entries_of_turns, IsTurn}
use Rattle.panel_session.proofs.EntryLemmas.{length-ask, all_ask-append}
use Rattle.panel_session.proofs.OutputLemmas.{SayTheSame, output_later}
use Rattle.panel_session.proofs.TurnOnce.{all_ask-one}
use Rattle.record_replay.specs.Answered.{in_a_row, IsAnswered, AreAnswered, AnswersItems}
use Rattle.record_replay.proofs.SessionsLemmas.{flat_map-push}
use Rattle.record_replay.proofs.TurnEntries.{Asked, told_at-front, polled_at-append, IsOfTurn, turn_entries}
use Rattle.record_replay.proofs.AnsweredLemmas.{frames-bytes, polled-tell, IsLast, last-frames, told_front, output_of, answers-next, last-next, last-items}

-- Items are answered, and then notices are told: this leads from one text to another.
record Answered (its : List (Item (List ℕ))) (notices : List (List ℕ)) (start end : List ℕ) : Type 0 where
  answers : List (List ℕ)
  are : AreAnswered its answers
  end_is : end ≡ start ++ (in_a_row answers ++ in_a_row notices)

-- One item before others.
answered-cons : (item : Item (List ℕ)) (bytes : List ℕ) (its : List (Item (List ℕ))) (notices : List (List ℕ)) (start end : List ℕ) → IsAnswered item bytes
    → Answered its notices (start ++ bytes) end → Answered (item ∷ its) notices start end
answered-cons item bytes its notices start end is later =
    let answers = in_a_row later.answers in
    let told = in_a_row notices in
    record {
      answers = bytes ∷ later.answers;
      are = (is, later.are);
      end_is = later.end_is ∙ append_assoc start bytes (answers ++ told) ∙ ap (λ (more : List ℕ). start ++ more) (sym (append_assoc bytes answers told));
    }

-- The entries so far, of which `now` are those of a turn. There are `first` items before it and `next` with its own: it
-- polls behind all of them alone, and behind more than `first` only its own entries are polls.
module _ (plant : PlantData) (entries now : List PlantEntry) (first next : ℕ) (of : IsOfTurn first next now) (polled : (k : ℕ) → first < k → polled_at k entries ≡ polled_at k now) where
  answered : (asked front : List Asked) (its : List (Item (List ℕ))) (n : ℕ) (start : List ℕ) → n ≡ 0 + length front → next ≡ n + length asked → first ≤ n → AllAsk its asked
      → AllTold 0 (front ++ asked) entries → IsLast (output_of plant entries front).last → (output_of plant entries front).bytes ≡ start ++ in_a_row (polled_at n now)
      → Answered its (polled_at next now) start (output_of plant entries (front ++ asked)).bytes
  answered [] front [] n start is all from ask told last sent =
      let Ends : ℕ → Type 0 = λ n. (output_of plant entries front).bytes ≡ start ++ in_a_row (polled_at n now) in
      let here : n ≡ next = omega arith in
      record {
        answers = [];
        are = tt;
        end_is = ap (λ (asked : List Asked). (output_of plant entries asked).bytes) (append-nil front) ∙ subst Ends here sent;
      }
  answered [] front (item ∷ its) n start is all from ask told last sent = absurd ask
  answered (a ∷ asked) front [] n start is all from ask told last sent = absurd ask
  answered (a ∷ asked) front (item ∷ its) n start is all from ask told last sent =
      let output = output_of plant entries front in
      let after = output_of plant entries (front ++ a ∷ []) in
      let one = answers-next plant entries front asked item a n is ask.0 told last in
      let same = append_assoc front (a ∷ []) asked in
      let ToldOf : List Asked → Type 0 = λ asked. AllTold 0 asked entries in
      let notices = polled_at next now in
      let bytes = one.answers.bytes in
      let AnsweredOf : List Asked → Type 0 = λ asked. Answered its notices (start ++ bytes) (output_of plant entries asked).bytes in
      let begun : output.bytes ≡ start = sent ∙ ap (λ (frames : List (List ℕ)). start ++ in_a_row frames) (of.polled n (omega arith)) ∙ append-nil start in
      let ended : one.next.bytes ≡ start ++ bytes = one.answers.bytes_are ∙ ap (λ (sent : List ℕ). sent ++ bytes) begun in
      let sent_then : after.bytes ≡ (start ++ bytes) ++ in_a_row (polled_at (n + 1) now) =
      ap (λ (output : Output). output.bytes) one.after_is
      ∙ frames-bytes (polled_at (n + 1) entries) one.next
      ∙ (λ i. ended i ++ in_a_row (polled (n + 1) (omega arith) i)) in
      let later = answered asked (front ++ a ∷ []) its (n + 1) (start ++ bytes) (omega (arith, length-append front (a ∷ []))) (omega arith) (omega arith) ask.1
      (subst ToldOf (sym same) told) (last-next plant entries item n output after one) sent_then in
      answered-cons item bytes its notices start (output_of plant entries (front ++ a ∷ asked)).bytes one.answers.is_answered (subst AnsweredOf same later)

-- What was sent in turns that are over is the output of their entries: all that their items sent to the plant has its entry,
-- and no entry is of a later item.
record Says (plant : PlantData) (turns : List Turn) (sent : List ℕ) : Type 0 where
  asked : List Asked
  ask : AllAsk (items (bytes_read turns)) asked
  told : AllTold 0 asked (entries_of_turns turns)
  none : NoneFrom (length (items (bytes_read turns))) (entries_of_turns turns)
  bytes : (output_of plant (entries_of_turns turns) asked).bytes ≡ sent

says : (plant : PlantData) (panel : ℕ) (past : Progress) → Settled plant panel past → Says plant past.turns past.sent
says plant panel past settled =
    let k = settled.keeps in
    let asked : List Asked = k.before ++ k.asked in
    let entries : entries_so_far past ≡ entries_of_turns past.turns =
    ap (λ (now : Turn). entries_of_turns past.turns ++ (now.told ++ now.polls)) settled.begins ∙ append-nil (entries_of_turns past.turns) in
    let read : read_so_far past ≡ bytes_read past.turns = ap (λ (now : Turn). bytes_read past.turns ++ now.piece) settled.begins ∙ append-nil (bytes_read past.turns) in
    let AskOf : List (Item (List ℕ)) → Type 0 = λ its. AllAsk its asked in
    let ToldIn : List PlantEntry → Type 0 = λ entries. AllTold 0 asked entries in
    let NoneIn : List PlantEntry → Type 0 = λ entries. NoneFrom (length (items (read_so_far past))) entries in
    let NoneOf : List ℕ → Type 0 = λ text. NoneFrom (length (items text)) (entries_of_turns past.turns) in
    record {
      asked = asked;
      ask = subst AskOf (sym k.end_in ∙ ap items read) (all_ask-append (items (bytes_read past.turns)) k.ended k.before k.asked k.ask_before k.ask);
      told = subst ToldIn entries k.phase.2;
      none = subst NoneOf read (subst NoneIn entries k.none_from);
      bytes = ap (λ (entries : List PlantEntry). (output_of plant entries asked).bytes) (sym entries) ∙ ap (λ (output : Output). output.bytes) k.output ∙ append-nil past.sent;
    }

-- So the bytes that are sent in a turn behind them answer the items that end in its piece, where all turns are over behind
-- it too.
pub turn_answers : (plant : PlantData) (panel : ℕ) (past : Progress) (turn : Turn) (more : List ℕ) → IsTurn panel past.turns turn → Settled plant panel past → Settled plant panel (turned turn more past)
    → AnswersItems (bytes_read past.turns) turn.piece more
turn_answers plant panel past turn more is settled settled_then =
    let turns = past.turns in
    let text = bytes_read turns in
    let first = length (items text) in
    let next = length (items (text ++ turn.piece)) in
    let so = says plant panel past settled in
    let then = says plant panel (turned turn more past) settled_then in
    let now = entries_in turn in
    let old = entries_of_turns turns in
    let of : IsOfTurn first next now = turn_entries panel turns turn is in
    let AskOf : List (Item (List ℕ)) → Type 0 = λ its. AllAsk its then.asked in
    let asked : then.asked ≡ so.asked ++ is.asked =
    all_ask-one (items text ++ is.ended) then.asked (so.asked ++ is.asked) (subst AskOf (ap items (flat_map-push (λ (turn : Turn). turn.piece) turns turn) ∙ is.end_in) then.ask)
    (all_ask-append (items text) is.ended so.asked is.asked so.ask is.ask) in
    let entries : entries_of_turns (turns ++ turn ∷ []) ≡ old ++ now = flat_map-push entries_in turns turn in
    let ToldOf : List Asked → Type 0 = λ asked. AllTold 0 asked (entries_of_turns (turns ++ turn ∷ [])) in
    let ToldIn : List PlantEntry → Type 0 = λ entries. AllTold 0 (so.asked ++ is.asked) entries in
    let told : AllTold 0 (so.asked ++ is.asked) (old ++ now) = subst ToldIn entries (subst ToldOf asked then.told) in
    let here : first ≡ 0 + length so.asked = omega (arith, length-ask (items text) so.asked so.ask) in
    let counted : next ≡ first + length is.asked =
    omega (arith, ap (length {A = Item (List ℕ)}) is.end_in, length-append (items text) is.ended, length-ask is.ended is.asked is.ask) in
    let same : SayTheSame 0 first old (old ++ now) = record {
      told = λ k from below. told_at-front k old now (of.told k below);
      polled = λ k from below. polled_at-append k old now ∙ ap (λ (frames : List (List ℕ)). polled_at k old ++ frames) (of.polled k (omega arith)) ∙ append-nil (polled_at k old);
    } in
    let begun : (output_of plant (old ++ now) so.asked).bytes ≡ past.sent ++ in_a_row (polled_at first now) =
    ap (λ (output : Output). output.bytes) (output_later plant so.asked 0 first old (old ++ now) (polled_at first now) nothing_sent here so.told same (polled_at-append first old now))
    ∙ frames-bytes (polled_at first now) (output_of plant old so.asked)
    ∙ ap (λ (sent : List ℕ). sent ++ in_a_row (polled_at first now)) so.bytes in
    let polled : (k : ℕ) → first < k → polled_at k (old ++ now) ≡ polled_at k now = λ k from.
    polled_at-append k old now ∙ ap (λ (frames : List (List ℕ)). frames ++ polled_at k now) (so.none.polled k from) in
    let front = told_front plant (old ++ now) so.asked is.asked told in
    let last : IsLast (output_of plant (old ++ now) so.asked).last =
    last-items plant (old ++ now) so.asked [] (items text) so.ask front (last-frames (polled_at 0 (old ++ now)) nothing_sent (polled-tell 0 (old ++ now)) tt) in
    let all = answered plant (old ++ now) now first next of polled is.asked so.asked is.ended first past.sent here counted (omega arith) is.ask told last begun in
    let told_in : List ℕ = in_a_row all.answers ++ in_a_row (polled_at next now) in
    let sent : past.sent ++ more ≡ (output_of plant (old ++ now) (so.asked ++ is.asked)).bytes = sym then.bytes ∙ (λ i. (output_of plant (entries i) (asked i)).bytes) in
    let ends : past.sent ++ more ≡ past.sent ++ told_in = ◌∙◌ {c = past.sent ++ told_in} sent all.end_is in
    record {
      ended = is.ended;
      end_in = is.end_in;
      answers = all.answers;
      are = all.are;
      notices = polled_at next now;
      tell = polled-tell next now;
      sent_is = append_cancel_left past.sent more told_in ends;
    }
