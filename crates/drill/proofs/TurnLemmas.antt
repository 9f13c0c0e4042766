-- What a session that fits its reads told the plant, and the numbers of its requests.
use Rattle.std.proofs.Common.{◌≡◌, ℕ, ◌+◌, ◌≤◌, ◌<◌, List, [], ◌∷◌, ◌++◌, All, length, refl, sym, ap, ◌∙◌, subst, arith}
use Rattle.std.specs.Prelude.{filter, map}
use Rattle.std.specs.List.{flat_map, AllByRecursion}
use Rattle.std.proofs.lemmas.List.{append-nil, append_assoc, length-append, length-map, map-append}
use Rattle.std.proofs.lemmas.List.Concat.{flat_map-append}
use Rattle.std.proofs.lemmas.List.Elements.{All-nil, All-append, All-head, All-tail, All-push, All-weaker, All-from_recursion, filter-append}
use Rattle.dle_framing.specs.declared.item.Item.{Item}
use Rattle.dle_framing.specs.Items.{TextReading, items}
use Rattle.dle_framing.proofs.Readings.{reading-by_start}
use Rattle.plant_core.specs.declared.request.Request.{Request}
use Rattle.plant_core.specs.declared.request.Request.TheVariants.{Told, Poll, Leave, DisplayPoll}
use Rattle.panel_session.specs.Asked.{AllAsk, sent_to_plant}
use Rattle.panel_session.specs.Entry.{PlantEntry}
use Rattle.panel_session.specs.Served.{all_read}
use Rattle.panel_session.specs.Turns.{Turn, IsTurn, AreTurns, FitsReads, bytes_read, entries_in, entries_of_turns, item_count, poll_behind, requests}
use Rattle.panel_session.proofs.EntryLemmas.{all_ask-append, length-ask}
use Rattle.panel_session.proofs.ReadsLemmas.{read-pieces}
use Rattle.drill.specs.Drilled.{is_told}
use Rattle.drill.proofs.AskedLemmas.{Asked, IsWithin, sent_behind, sent_told, sent_within}

pub flat_map-push : {X A : Type 0} (f : X → List A) (xs : List X) (x : X) → flat_map f (xs ++ x ∷ []) ≡ flat_map f xs ++ f x
flat_map-push f xs x = flat_map-append f xs (x ∷ []) ∙ ap (λ more. flat_map f xs ++ more) (append-nil (f x))

-- an entry's request is of its panel's session, within these numbers
abbrev pub EntryWithin : ℕ → ℕ → ℕ → PlantEntry → Type 0
EntryWithin panel items turns entry = IsWithin panel items turns entry.request

wider : (panel items turns more later : ℕ) (request : Request) → items ≤ more → turns ≤ later → IsWithin panel items turns request → IsWithin panel more later request
wider panel items turns more later (Told asker item message) le le' within = (within.0, omega (arith, within.1), within.2)
wider panel items turns more later (Poll asker item turn) le le' within = (within.0, omega (arith, within.1), omega (arith, within.2))
wider panel items turns more later (Leave asker) le le' within = absurd within
wider panel items turns more later (DisplayPoll screen refresh) le le' within = absurd within

-- Polls carry no messages.
polls_told : (panel item turn : ℕ) (entries : List PlantEntry) → All (λ entry. entry.request ≡ Poll panel item turn) entries → filter is_told (requests entries) ≡ []
polls_told panel item turn [] all = refl
polls_told panel item turn (entry ∷ entries) all =
    ap (λ (request : Request). filter is_told (request ∷ requests entries)) (All-head (λ (entry : PlantEntry). entry.request ≡ Poll panel item turn) entry entries all)
    ∙ polls_told panel item turn entries (All-tail (λ (entry : PlantEntry). entry.request ≡ Poll panel item turn) entry entries all)

entries_within : (panel items turns : ℕ) (entries : List PlantEntry) → AllByRecursion (IsWithin panel items turns) (requests entries) → AllByRecursion (EntryWithin panel items turns) entries
entries_within panel items turns [] all = tt
entries_within panel items turns (entry ∷ entries) all = (all.0, entries_within panel items turns entries all.1)

-- What was asked in turns: what their items send to the plant was told, in order, and the numbers are within those of the
-- turns.
pub record Tells (panel : ℕ) (turns : List Turn) : Type 0 where
  pub asked : List Asked
  pub ask : AllAsk (items (bytes_read turns)) asked
  pub told : filter is_told (requests (entries_of_turns turns)) ≡ sent_to_plant panel 0 asked
  pub within : All (EntryWithin panel (item_count turns) (length turns)) (entries_of_turns turns)

tells_none : (panel : ℕ) → Tells panel []
tells_none panel = record {
  asked = [];
  ask = subst (λ its. AllAsk its []) (sym (ap (λ (reading : TextReading). reading.items) (reading-by_start []))) tt;
  told = refl;
  within = All-nil (EntryWithin panel (item_count []) 0);
}

-- one turn more
tells_more : (panel : ℕ) (before : List Turn) (turn : Turn) → Tells panel before → IsTurn panel before turn → Tells panel (before ++ turn ∷ [])
tells_more panel before turn so is =
    let text = bytes_read before in
    let now = before ++ turn ∷ [] in
    let bytes : bytes_read now ≡ text ++ turn.piece = flat_map-push (λ (turn : Turn). turn.piece) before turn in
    let its : items (bytes_read now) ≡ items text ++ is.ended = ap items bytes ∙ is.end_in in
    let AskOf : List (Item (List ℕ)) → Type 0 = λ its. AllAsk its (so.asked ++ is.asked) in
    let ask = all_ask-append (items text) is.ended so.asked is.asked so.ask is.ask in
    let count : item_count now ≡ item_count before + length is.asked =
    omega (arith, ap (length {A = Item (List ℕ)}) its, length-append (items text) is.ended, length-ask is.ended is.asked is.ask) in
    let entries : entries_of_turns now ≡ entries_of_turns before ++ entries_in turn = flat_map-push entries_in before turn in
    let longer : length now ≡ length before + 1 = length-append before (turn ∷ []) in
    let item = length (items (text ++ turn.piece)) in
    let Polls : PlantEntry → Type 0 = λ entry. entry.request ≡ Poll panel item (length before) in
    let polled : All Polls (is.polls.answered ++ is.polls.last ∷ []) =
    All-push Polls is.polls.answered is.polls.last (λ k default below. (is.polls.each k default below).0) is.polls.last_poll in
    let PollsIn : List PlantEntry → Type 0 = λ entries. All Polls entries in
    let polls : All Polls turn.polls = subst PollsIn (sym is.polls.polls_are) polled in
    let requests_of : requests (entries_in turn) ≡ requests turn.told ++ requests turn.polls = map-append (λ (entry : PlantEntry). entry.request) turn.told turn.polls in
    let told_now : filter is_told (requests (entries_in turn)) ≡ sent_to_plant panel (item_count before) is.asked =
    ap (filter is_told) requests_of
    ∙ filter-append is_told (requests turn.told) (requests turn.polls)
    ∙ ap (λ (more : List Request). filter is_told (requests turn.told) ++ more) (polls_told panel item (length before) turn.polls polls)
    ∙ append-nil (filter is_told (requests turn.told))
    ∙ ap (filter is_told) is.told
    ∙ sent_told panel (item_count before) is.asked in
    let Within = EntryWithin panel (item_count now) (length now) in
    let AllWithin : List PlantEntry → Type 0 = λ entries. All Within entries in
    let first : All Within (entries_of_turns before) =
    All-weaker (EntryWithin panel (item_count before) (length before)) Within
    (λ entry within. wider panel (item_count before) (length before) (item_count now) (length now) entry.request (omega arith) (omega arith) within) (entries_of_turns before) so.within in
    let BySent : List Request → Type 0 = λ asked. AllByRecursion (IsWithin panel (item_count now) (length now)) asked in
    let second : All Within turn.told =
    All-from_recursion Within turn.told (entries_within panel (item_count now) (length now) turn.told
    (subst BySent (sym is.told) (sent_within panel (item_count before) (item_count now) (length now) is.ended is.asked is.ask (omega arith)))) in
    let OfPoll : Request → Type 0 = IsWithin panel (item_count now) (length now) in
    let here : item ≤ item_count now = omega (arith, ap (λ (bytes : List ℕ). length (items bytes)) bytes) in
    let third : All Within turn.polls =
    All-weaker Polls Within (λ entry poll. subst OfPoll (sym poll) (refl, here, omega arith)) turn.polls polls in
    record {
      asked = so.asked ++ is.asked;
      ask = subst AskOf (sym its) ask;
      told = ap (λ (entries : List PlantEntry). filter is_told (requests entries)) entries
          ∙ ap (filter is_told) (map-append (λ (entry : PlantEntry). entry.request) (entries_of_turns before) (entries_in turn))
          ∙ filter-append is_told (requests (entries_of_turns before)) (requests (entries_in turn))
          ∙ ap (λ (more : List Request). filter is_told (requests (entries_of_turns before)) ++ more) told_now
          ∙ ap (λ (front : List Request). front ++ sent_to_plant panel (item_count before) is.asked) so.told
          ∙ sym (sent_behind so.asked is.asked panel 0 (item_count before) (omega (arith, length-ask (items text) so.asked so.ask)));
      within = subst AllWithin (sym entries) (All-append Within (entries_of_turns before) (entries_in turn) first (All-append Within turn.told turn.polls second third));
    }

-- all turns
tells_on : (panel : ℕ) (before rest : List Turn) → AreTurns panel (before ++ rest) → Tells panel before → Tells panel (before ++ rest)
tells_on panel before [] are so = subst (Tells panel) (sym (append-nil before)) so
tells_on panel before (turn ∷ rest) are so =
    let joined : (before ++ turn ∷ []) ++ rest ≡ before ++ turn ∷ rest = append_assoc before (turn ∷ []) rest in
    subst (Tells panel) joined
    (tells_on panel (before ++ turn ∷ []) rest (subst (AreTurns panel) (sym joined) are) (tells_more panel before turn so (are before rest turn refl)))

-- What a session told the plant that fits these reads, and the numbers of what it asked.
pub record TellsOf (panel : ℕ) (reads : List (List ℕ)) (entries : List PlantEntry) : Type 0 where
  pub asked : List Asked
  pub ask : AllAsk (items (all_read reads)) asked
  pub told : filter is_told (requests entries) ≡ sent_to_plant panel 0 asked
  pub within : All (EntryWithin panel (length (items (all_read reads))) (length reads)) entries

pub fits_tell : (panel : ℕ) (reads : List (List ℕ)) (entries : List PlantEntry) → FitsReads panel reads entries → TellsOf panel reads entries
fits_tell panel reads entries fits =
    let so = tells_on panel [] fits.turns fits.are_turns (tells_none panel) in
    let turns = fits.turns in
    let bytes : bytes_read turns ≡ all_read reads = read-pieces turns ∙ ap all_read fits.pieces in
    let AskOf : List ℕ → Type 0 = λ bytes. AllAsk (items bytes) so.asked in
    let count : item_count turns ≡ length (items (all_read reads)) = ap (λ (bytes : List ℕ). length (items bytes)) bytes in
    let turn_count : length turns ≡ length reads = sym (length-map turns (λ (turn : Turn). turn.piece)) ∙ ap (length {A = List ℕ}) fits.pieces in
    let WithinOf : List PlantEntry → Type 0 = λ entries. All (EntryWithin panel (item_count turns) (length turns)) entries in
    record {
      asked = so.asked;
      ask = subst AskOf bytes so.ask;
      told = ap (λ (entries : List PlantEntry). filter is_told (requests entries)) (sym fits.entries_are) ∙ so.told;
      within = All-weaker (EntryWithin panel (item_count turns) (length turns)) (EntryWithin panel (length (items (all_read reads))) (length reads))
          (λ entry within. wider panel (item_count turns) (length turns) (length (items (all_read reads))) (length reads) entry.request (omega arith) (omega arith) within)
          entries (subst WithinOf fits.entries_are so.within);
    }
