-- How many entries a session makes, and how many answers each has.
use Rattle.std.proofs.Common.{◌≡◌, if◌then◌else◌, ◌≢◌, ℕ, zero, suc, ◌+◌, ◌*◌, ◌≤◌, ◌<◌, ◌==◌, ◌/◌, ◌%◌, Bool, true, false, cond, not, List, [], ◌∷◌, ◌++◌, All, length, filter, flat_map, refl, sym, ap, ◌∙◌, subst, arith, length-append, eq-eqb}
use Rattle.std.specs.Prelude.{nat_le, Some}
use Rattle.std.specs.List.{range_with_len}
use Rattle.std.proofs.lemmas.Bool.{both_ways, not-true}
use Rattle.std.proofs.lemmas.List.{append-nil, append_assoc, length-map}
use Rattle.std.proofs.lemmas.List.Elements.{All-nil, All-append, All-cons, All-filter, All-head, All-tail, filter_passes}
use Rattle.std.proofs.lemmas.List.Filters.{length-filter_both}
use Rattle.dle_framing.specs.declared.item.Item.{Item}
use Rattle.dle_framing.specs.Items.{items}
use Rattle.swp08_messages.specs.declared.message.Message.{Message}
use Rattle.swp08_messages.specs.declared.message.Message.TheVariants.{Interrogate, Connect, DumpAsk, ProtectConnect, ProtectDisconnect, Store, Go}
use Rattle.swp08_messages.specs.declared.point.Point.{Point}
use Rattle.history_lock.specs.History.{IsLegal, entries_of}
use Rattle.plant_config.specs.Plant.{PlantData}
use Rattle.plant_core.specs.Answer.{IsAnswerCount}
use Rattle.plant_core.specs.State.{State, Fits as Takes}
use Rattle.plant_core.specs.Step.{step}
use Rattle.plant_core.specs.declared.answer.Answer.{Answer}
use Rattle.plant_core.specs.declared.request.Request.{Request}
use Rattle.plant_core.specs.declared.request.Request.TheVariants.{Told, Poll, Leave, DisplayPoll}
use Rattle.plant_core.proofs.CountLemmas.{answer_count}
use Rattle.plant_core.proofs.StepLeaves.{plant-step}
use Rattle.panel_session.specs.Asked.{sent_to_plant}
use Rattle.panel_session.specs.Entry.{PlantEntry}
use Rattle.panel_session.specs.Served.{all_read}
use Rattle.panel_session.specs.Turns.{AreTurns, FitsReads, IsTurn, Turn, bytes_read, entries_in, entries_of_turns, item_count, requests}
use Rattle.panel_session.proofs.EntryLemmas.{length-ask}
use Rattle.panel_session.proofs.ReadsLemmas.{read-pieces}
use Rattle.drill.specs.Drilled.{frame_tells, is_told, stream_tells}
use Rattle.drill.specs.Messages.{dest_drawn, draws_each, message_at, message_drawn, message_from, of_kind}
use Rattle.drill.specs.Draws.{drawn, next_seed, seed_after}
use Rattle.drill.specs.Stream.{is_bad}
use Rattle.drill.proofs.AskedLemmas.{Asked, IsWithin, one_first}
use Rattle.drill.proofs.TurnLemmas.{flat_map-push}

one_sent : (panel item : ℕ) (a : Asked) → length (sent_to_plant panel item (a ∷ [])) ≤ 1
one_sent panel item a = grind arith

-- An item sends at most one message to the plant.
sent_few : (panel item : ℕ) (asked : List Asked) → length (sent_to_plant panel item asked) ≤ length asked
sent_few panel item [] = omega arith
sent_few panel item (a ∷ asked) =
    omega (
      arith,
      ap (length {A = Request}) (one_first panel item a asked),
      length-append (sent_to_plant panel item (a ∷ [])) (sent_to_plant panel (item + 1) asked),
      one_sent panel item a,
      sent_few panel (item + 1) asked,
    )

-- Turns have at most an entry for each item, and 32 for each turn.
abbrev AreFew : List Turn → Type 0
AreFew turns = length (entries_of_turns turns) ≤ item_count turns + 32 * length turns

few_more : (panel : ℕ) (before : List Turn) (turn : Turn) → AreFew before → IsTurn panel before turn → AreFew (before ++ turn ∷ [])
few_more panel before turn few is =
    let now = before ++ turn ∷ [] in
    let bytes : bytes_read now ≡ bytes_read before ++ turn.piece = flat_map-push (λ (turn : Turn). turn.piece) before turn in
    let its : items (bytes_read now) ≡ items (bytes_read before) ++ is.ended = ap items bytes ∙ is.end_in in
    omega (
      arith,
      few,
      ap (length {A = Item (List ℕ)}) its,
      length-append (items (bytes_read before)) is.ended,
      length-ask is.ended is.asked is.ask,
      ap (length {A = PlantEntry}) (flat_map-push entries_in before turn),
      length-append (entries_of_turns before) (entries_in turn),
      length-append turn.told turn.polls,
      length-map turn.told (λ (entry : PlantEntry). entry.request),
      ap (length {A = Request}) is.told,
      sent_few panel (item_count before) is.asked,
      is.polls.within,
      length-append before (turn ∷ []),
    )

few_on : (panel : ℕ) (before rest : List Turn) → AreTurns panel (before ++ rest) → AreFew before → AreFew (before ++ rest)
few_on panel before [] are few = subst AreFew (sym (append-nil before)) few
few_on panel before (turn ∷ rest) are few =
    let joined : (before ++ turn ∷ []) ++ rest ≡ before ++ turn ∷ rest = append_assoc before (turn ∷ []) rest in
    subst AreFew joined
    (few_on panel (before ++ turn ∷ []) rest (subst (AreTurns panel) (sym joined) are) (few_more panel before turn few (are before rest turn refl)))

-- So are the entries that fit reads.
pub fits_few : (panel : ℕ) (reads : List (List ℕ)) (entries : List PlantEntry) → FitsReads panel reads entries → length entries ≤ length (items (all_read reads)) + 32 * length reads
fits_few panel reads entries fits =
    let turns = fits.turns in
    let bytes : bytes_read turns ≡ all_read reads = read-pieces turns ∙ ap all_read fits.pieces in
    omega (
      arith,
      few_on panel [] turns fits.are_turns (omega arith),
      ap (λ (bytes : List ℕ). length (items bytes)) bytes,
      length-map turns (λ (turn : Turn). turn.piece),
      ap (length {A = List ℕ}) fits.pieces,
      ap (length {A = PlantEntry}) fits.entries_are,
    )

-- A test keeps no more of what another one kept.
narrow : (p q : PlantEntry → Bool) (xs : List PlantEntry) → length (filter p (filter q xs)) ≤ length (filter p xs)
narrow p q [] = omega arith
narrow p q (x ∷ xs) =
    let less = narrow p q xs in
    let kept = filter p (filter q xs) in
    elim (q x) as (λ b. length (filter p (cond b (x ∷ filter q xs) (filter q xs))) ≤ length (cond (p x) (x ∷ filter p xs) (filter p xs))) [
      | true ↦ elim (p x) as (λ b. length (cond b (x ∷ kept) kept) ≤ length (cond b (x ∷ filter p xs) (filter p xs))) [ true ↦ omega (arith, less) | false ↦ less ]
      | false ↦ elim (p x) as (λ b. length kept ≤ length (cond b (x ∷ filter p xs) (filter p xs))) [ true ↦ omega (arith, less) | false ↦ less ]
    ]

-- A history is short where each seat has few entries.
pub past_few : (count bound : ℕ) (past : List PlantEntry) → All (λ entry. entry.seat < count) past → ((seat : ℕ) → seat < count → length (entries_of seat past) ≤ bound) → length past ≤ count * bound
past_few zero bound [] below each = omega arith
past_few zero bound (entry ∷ later) below each = absurd (omega (arith, All-head (λ (entry : PlantEntry). entry.seat < zero) entry later below))
past_few (suc count) bound past below each =
    let mine : PlantEntry → Bool = λ entry. entry.seat == count in
    let other : PlantEntry → Bool = λ entry. not (entry.seat == count) in
    let Below : PlantEntry → Type 0 = λ entry. entry.seat < suc count in
    let others : List PlantEntry = filter other past in
    let rest : All (λ entry. entry.seat < count) others = λ k default within.
    apart _ (All-filter other Below past below k default within) (not-true _ (filter_passes other past k default within)) in
    let less = past_few count bound others rest (λ seat within. omega (arith, narrow (λ (entry : PlantEntry). entry.seat == seat) other past, each seat (omega arith))) in
    omega (arith, length-filter_both mine other (λ entry. refl) past, each count (omega arith), less)
  where
    apart : (seat : ℕ) → seat < suc count → (seat == count) ≡ false → seat < count
    apart seat below differs =
        let not_it : seat ≢ count = λ same. both_ways (seat == count) differs (eq-eqb seat count same) in omega arith

-- In a legal history each request has as many answers as a plant gives.
abbrev IsCounted : PlantData → PlantEntry → Type 0
IsCounted plant entry = IsAnswerCount plant entry.request (length entry.answers)

pub legal_counted : (plant : PlantData) (first : State) (past : List PlantEntry) → first.plant ≡ plant → IsLegal step Takes first past → All (λ entry. IsAnswerCount plant entry.request (length entry.answers)) past
legal_counted plant first [] is legal = All-nil (IsCounted plant)
legal_counted plant first (entry ∷ later) is legal =
    let Of : PlantData → Type 0 = λ plant. IsAnswerCount plant entry.request (length (step first entry.request).answers) in
    let By : List Answer → Type 0 = λ answers. IsAnswerCount plant entry.request (length answers) in
    All-cons (IsCounted plant) entry later
    (subst By (sym legal.1) (subst Of is (answer_count first entry.request legal.0)))
    (legal_counted plant (step first entry.request).state later (plant-step first entry.request ∙ is) legal.2)

-- A message doesn't ask for a dump.
abbrev IsNoDump : Message → Type 0
IsNoDump (DumpAsk matrix level) = ⊥
IsNoDump message = Unit {0}

abbrev pub AsksNoDump : Request → Type 0
AsksNoDump (Told panel item message) = IsNoDump message
AsksNoDump (Poll panel item turn) = Unit {0}
AsksNoDump (Leave panel) = Unit {0}
AsksNoDump (DisplayPoll screen refresh) = Unit {0}

-- What a session asks that asks for no dump has at most one answer.
pub one_answer : (plant : PlantData) (panel items turns : ℕ) (request : Request) (count : ℕ) → IsWithin panel items turns request → AsksNoDump request → IsAnswerCount plant request count → count ≤ 1
one_answer plant panel items turns (Told asker item (Store at source salvo)) count within none is = is
one_answer plant panel items turns (Told asker item (DumpAsk matrix level)) count within none is = absurd none
one_answer plant panel items turns (Told asker item message) count within none is = omega (arith, is)
one_answer plant panel items turns (Poll asker item turn) count within none is = is
one_answer plant panel items turns (Leave asker) count within none is = absurd within
one_answer plant panel items turns (DisplayPoll screen refresh) count within none is = absurd within

-- No message of a drill asks for one.
no_dump : (kind : ℕ) (at : Point) (source salvo device : ℕ) → IsNoDump (of_kind kind at source salvo device)
no_dump kind at source salvo device =
    let last : Message = Go (kind == 15) salvo in
    let stored : Message = Store at (Some source) salvo in
    elim (nat_le kind 9) as (λ b. IsNoDump (if b then Connect at (Some source) else if kind == 10 then Interrogate at else if kind == 11 then ProtectConnect at device else if kind == 12 then ProtectDisconnect at device else if kind == 13 then stored else last)) [
      | true ↦ tt
      | false ↦ elim (kind == 10) as (λ b. IsNoDump (if b then Interrogate at else if kind == 11 then ProtectConnect at device else if kind == 12 then ProtectDisconnect at device else if kind == 13 then stored else last)) [
        | true ↦ tt
        | false ↦ elim (kind == 11) as (λ b. IsNoDump (if b then ProtectConnect at device else if kind == 12 then ProtectDisconnect at device else if kind == 13 then stored else last)) [
          | true ↦ tt
          | false ↦ elim (kind == 12) as (λ b. IsNoDump (if b then ProtectDisconnect at device else if kind == 13 then stored else last)) [
            | true ↦ tt
            | false ↦ elim (kind == 13) as (λ b. IsNoDump (if b then stored else last)) [ true ↦ tt | false ↦ tt ]
          ]
        ]
      ]
    ]

drawn_no_dump : (panel a b c : ℕ) → IsNoDump (message_drawn panel a b c)
drawn_no_dump panel a b c = no_dump (a % 16) (dest_drawn b) (c % 256) (c / 256 % 8) (panel + 1)

from_no_dump : (panel seed : ℕ) → IsNoDump (message_from panel seed)
from_no_dump panel seed =
    let second = next_seed (next_seed seed) in
    drawn_no_dump panel (drawn (next_seed seed)) (drawn second) (drawn (next_seed second))

told_no_dump : (number panel at : ℕ) → IsNoDump (message_at number panel at)
told_no_dump number panel at = from_no_dump panel (seed_after number panel (draws_each * at))

frames_no_dump : (number panel : ℕ) (ats : List ℕ) → All AsksNoDump (flat_map (frame_tells number panel) ats)
frames_no_dump number panel [] = All-nil AsksNoDump
frames_no_dump number panel (at ∷ ats) =
    let request : Request = Told panel at (message_at number panel at) in
    All-append AsksNoDump (frame_tells number panel at) (flat_map (frame_tells number panel) ats)
    (elim (is_bad at) as (λ b. All AsksNoDump (if b then [] else request ∷ [])) [
      | true ↦ All-nil AsksNoDump
      | false ↦ All-cons AsksNoDump request [] (told_no_dump number panel at) (All-nil AsksNoDump)
    ])
    (frames_no_dump number panel ats)

-- What isn't told asks for no dump.
unfiltered : (asked : List Request) → All AsksNoDump (filter is_told asked) → All AsksNoDump asked
unfiltered [] all = All-nil AsksNoDump
unfiltered (Told panel item message ∷ later) all =
    let one : Request = Told panel item message in
    All-cons AsksNoDump one later (All-head AsksNoDump one (filter is_told later) all) (unfiltered later (All-tail AsksNoDump one (filter is_told later) all))
unfiltered (Poll panel item turn ∷ later) all = All-cons AsksNoDump (Poll panel item turn) later tt (unfiltered later all)
unfiltered (Leave panel ∷ later) all = All-cons AsksNoDump (Leave panel) later tt (unfiltered later all)
unfiltered (DisplayPoll screen refresh ∷ later) all = All-cons AsksNoDump (DisplayPoll screen refresh) later tt (unfiltered later all)

of_entries : (entries : List PlantEntry) → All AsksNoDump (requests entries) → All (λ entry. AsksNoDump entry.request) entries
of_entries [] all = All-nil (λ (entry : PlantEntry). AsksNoDump entry.request)
of_entries (entry ∷ later) all =
    All-cons (λ (entry : PlantEntry). AsksNoDump entry.request) entry later
    (All-head AsksNoDump entry.request (requests later) all) (of_entries later (All-tail AsksNoDump entry.request (requests later) all))

-- So it is with entries that told a panel's messages, and nothing else.
pub entries_no_dump : (number panel count : ℕ) (entries : List PlantEntry) → filter is_told (requests entries) ≡ stream_tells number panel count → All (λ entry. AsksNoDump entry.request) entries
entries_no_dump number panel count entries told =
    let Plain : List Request → Type 0 = λ asked. All AsksNoDump asked in
    of_entries entries (unfiltered (requests entries) (subst Plain (sym told) (frames_no_dump number panel (range_with_len 0 count))))
