-- What workers left that have done their work.
use Rattle.std.proofs.Common.{◌≡◌, ◌≢◌, ℕ, ◌+◌, ◌*◌, ◌<◌, ◌≤◌, ◌%◌, ◌^◌, true, List, [], ◌∷◌, ◌++◌, All, map, flat_map, length, slice_index_or, refl, sym, ap, ◌∙◌, subst, arith}
use Rattle.std.specs.List.{sum_by}
use Rattle.std.proofs.lemmas.List.{get_or-map, length-map}
use Rattle.std.proofs.lemmas.List.Elements.{All-weaker}
use Rattle.std.proofs.lemmas.List.FromFn.{length-map-range_with_len}
use Rattle.std.proofs.lemmas.List.Sums.{sum_by-cons, sum_by-le}
use Rattle.std.proofs.lemmas.List.Elements.{All-head, All-tail}
use mathlib.Core.List.{IsPrefix}
use Rattle.dle_framing.specs.declared.item.Item.{Item}
use Rattle.dle_framing.specs.Items.{items}
use Rattle.history_lock.specs.Calls.{HasOwn}
use Rattle.history_lock.specs.Closing.{FullByTicket, HasAll, IsOf}
use Rattle.history_lock.specs.History.{IsLegal, entries_of}
use Rattle.history_lock.specs.Locks.{LockData}
use Rattle.history_lock.specs.Shares.{AreApart}
use Rattle.history_lock.proofs.Shares.{shared}
use Rattle.plant_config.specs.DrillPlant.{drill_plant}
use Rattle.plant_config.specs.Plant.{PlantData}
use Rattle.plant_core.specs.declared.request.Request.{Request}
use Rattle.plant_core.specs.declared.request.Request.TheVariants.{Told, Poll, Leave, DisplayPoll}
use Rattle.plant_core.specs.State.{State, start, Fits as Takes}
use Rattle.plant_core.specs.Step.{step}
use Rattle.panel_session.specs.Asked.{AllAsk}
use Rattle.panel_session.specs.Entry.{PlantEntry}
use Rattle.panel_session.specs.Served.{PlantSeat, all_read, own_lines}
use Rattle.trace_lines.specs.TraceLine.{MayTrace, trace_limit}
use Rattle.panel_session.specs.Turns.{FitsReads}
use Rattle.line_text.specs.Lines.{lines}
use Rattle.trace_audit.specs.Laws.{AreLinesOf, IsTraceable}
use Rattle.trace_lines.specs.Trace.{HasTraceNumbers}
use Rattle.drill.specs.declared.outcome.Outcome.{Outcome}
use Rattle.drill.specs.declared.worker.Worker.{Worker}
use Rattle.drill.specs.declared.worker.Workload.{Workload}
use Rattle.drill.specs.Drilled.{FitsItsStream, most_messages, stream_tells, told_by}
use Rattle.drill.specs.Laws.{MessagesAskThePlant}
use Rattle.drill.specs.Stream.{bad_among, good_among, item_at, items_of, stream}
use Rattle.drill.specs.WorkerInside.{EachWorker, HasDrilled, WasServed, seats_of, traces_of}
use Rattle.drill.proofs.AskedLemmas.{IsWithin, items_tell}
use Rattle.drill.proofs.CountLemmas.{bad_counted, good_counted}
use Rattle.drill.proofs.EndLemmas.{lock_of, number_of, own_few, own_done, service_of}
use Rattle.drill.proofs.FewLemmas.{past_few}
use Rattle.drill.proofs.RoomLemmas.{few_piece_count}
use Rattle.drill.proofs.ServedLemmas.{HasDone}
use Rattle.drill.proofs.StreamLemmas.{streams_are_read}
use Rattle.drill.proofs.TraceLines.{EntryMayTrace, all_of_seats, lines_of_all}
use Rattle.drill.proofs.TurnLemmas.{EntryWithin, TellsOf, fits_tell}

-- A sum of numbers that are all the same.
pub sum_same : {X : Type 0} (f : X → ℕ) (n : ℕ) (xs : List X) → All (λ x. f x ≡ n) xs → sum_by f xs ≡ length xs * n
sum_same f n [] all = omega arith
sum_same {X} f n (x ∷ xs) all =
    let Same : X → Type 0 = λ x. f x ≡ n in
    let first : f x ≡ n = All-head Same x xs all in
    let more : sum_by f xs ≡ length xs * n = sum_same f n xs (All-tail Same x xs all) in
    sum_by-cons f x xs ∙ ap (λ (k : ℕ). k + sum_by f xs) first ∙ ap (λ (k : ℕ). n + k) more ∙ omega arith

within_traces : (panel items turns : ℕ) (request : Request) → panel ≤ trace_limit → items ≤ trace_limit → turns ≤ trace_limit → IsWithin panel items turns request → MayTrace request × HasTraceNumbers request
within_traces panel items turns (Told asker item message) few_panels few few_turns within = ((omega (arith, within.0), omega (arith, within.1), within.2), omega (arith, within.1))
within_traces panel items turns (Poll asker item turn) few_panels few few_turns within =
    ((omega (arith, within.0), omega (arith, within.1), omega (arith, within.2)), (omega (arith, within.1), omega (arith, within.2)))
within_traces panel items turns (Leave asker) few_panels few few_turns within = absurd within
within_traces panel items turns (DisplayPoll screen refresh) few_panels few few_turns within = absurd within

-- an entry's request may be traced, and its numbers are few enough
abbrev EntryTraces : PlantEntry → Type 0
EntryTraces entry = MayTrace entry.request × HasTraceNumbers entry.request

-- the items of a panel are as many as its messages
items_counted : (number panel each : ℕ) → length (items (stream number panel each)) ≡ each
items_counted number panel each =
    ap (length {A = Item (List ℕ)}) (streams_are_read number panel each).all_items ∙ length-map-range_with_len (item_at number panel) 0 each

-- The traces of workers are those of their seats.
traced_each : (plant : PlantData) (workers : List Worker) → All (λ worker. worker.trace.written ≡ own_lines plant worker.seat.number 0 worker.seat.seen) workers → traces_of workers ≡ flat_map (λ seat. own_lines plant seat.number 0 seat.seen) (seats_of workers)
traced_each plant [] all = refl
traced_each plant (worker ∷ workers) all =
    let Traced : Worker → Type 0 = λ worker. worker.trace.written ≡ own_lines plant worker.seat.number 0 worker.seat.seen in
    ap (λ (text : List ℕ). text ++ traces_of workers) (All-head Traced worker workers all)
    ∙ ap (λ (text : List ℕ). own_lines plant worker.seat.number 0 worker.seat.seen ++ text) (traced_each plant workers (All-tail Traced worker workers all))

-- Each worker has the seat of its panel.
abbrev IsPlaced : LockData State → ℕ → Worker → Type 0
IsPlaced lock panel worker = (worker.seat.lock ≡ lock.id) × (worker.seat.number ≡ panel)

module _ (load : Workload) (lock : LockData State) (workers : List Worker) (default : Worker) (count : length workers ≡ load.panels) (placed : EachWorker (IsPlaced lock) workers) where
  is_placed : (panel : ℕ) → panel < load.panels → IsPlaced lock panel (slice_index_or workers panel default)
  is_placed panel below = placed panel default (omega (arith, count))

  seat_is : (panel : ℕ) (other : PlantSeat) → panel < load.panels → slice_index_or (seats_of workers) panel other ≡ (slice_index_or workers panel default).seat
  seat_is panel other below = get_or-map (λ (worker : Worker). worker.seat) workers panel default other (omega (arith, count))

  seats_counted : length (seats_of workers) ≡ load.panels
  seats_counted = length-map workers (λ (worker : Worker). worker.seat) ∙ count

  numbered : (panel : ℕ) (other : PlantSeat) → panel < load.panels → (slice_index_or (seats_of workers) panel other).number ≡ panel
  numbered panel other below = ap (λ (seat : PlantSeat). seat.number) (seat_is panel other below) ∙ (is_placed panel below).1

  all_of_lock : All (IsOf lock.id) (seats_of workers)
  all_of_lock panel other below =
      let within : panel < load.panels = omega (arith, seats_counted) in
      ap (λ (seat : PlantSeat). seat.lock) (seat_is panel other within) ∙ (is_placed panel within).0

  has_all : HasAll load.panels (seats_of workers)
  has_all panel below =
      let numbers = map (λ (seat : PlantSeat). seat.number) (seats_of workers) in
      let within : panel < length (seats_of workers) = omega (arith, seats_counted) in
      let some : PlantSeat = (slice_index_or workers panel default).seat in (
        panel,
        omega (arith, length-map (seats_of workers) (λ (seat : PlantSeat). seat.number)),
        get_or-map (λ (seat : PlantSeat). seat.number) (seats_of workers) panel some panel within ∙ numbered panel some below,
      )

  apart : AreApart (seats_of workers)
  apart i j other before within same =
      omega (arith, numbered i other (omega (arith, seats_counted)), numbered j other (omega (arith, seats_counted)), same)

  -- what is so of each seat is so of a worker's
  of_seat : (P : PlantSeat → Type 0) → All P (seats_of workers) → (panel : ℕ) → panel < load.panels → P (slice_index_or workers panel default).seat
  of_seat P all panel below =
      let some : PlantSeat = (slice_index_or workers panel default).seat in
      subst P (seat_is panel some below) (all panel some (omega (arith, seats_counted)))

  entries_are : (past : List PlantEntry) → All (HasOwn past) (seats_of workers) → (panel : ℕ) → panel < load.panels → entries_of panel past ≡ entries_of panel (slice_index_or workers panel default).seat.seen
  entries_are past own panel below =
      let worker : Worker = slice_index_or workers panel default in
      let Of : ℕ → Type 0 = λ number. entries_of number past ≡ entries_of number worker.seat.seen in
      subst Of (is_placed panel below).1 (of_seat (HasOwn past) own panel below)

  module _ (done : EachWorker (HasDone load lock) workers) (ask_plant : MessagesAskThePlant) (few : load.panels ≤ 16) (few_messages : load.each ≤ most_messages) (past : List PlantEntry) (legal : IsLegal step Takes (start (drill_plant load.panels)) past) (short : length past ≤ 2 ^ 62)
      (seen : All (λ seat. IsPrefix seat.seen past) (seats_of workers)) (own : All (HasOwn past) (seats_of workers)) (by_seats : All (λ entry. entry.seat < load.panels) past) where
    is_done : (panel : ℕ) → panel < load.panels → HasDone load lock panel (slice_index_or workers panel default)
    is_done panel below = done panel default (omega (arith, count))

    pub fits_stream : (panel : ℕ) → panel < load.panels → FitsItsStream load.number panel load.each past
    fits_stream panel below =
        let is = is_done panel below in
        record { reads = is.reads; all = is.all; fits = subst (FitsReads panel is.reads) (sym (entries_are past own panel below)) is.fits }

    tells : (panel : ℕ) (below : panel < load.panels) → TellsOf panel (is_done panel below).reads (entries_of panel past)
    tells panel below = fits_tell panel (is_done panel below).reads (entries_of panel past) (fits_stream_of panel below)
      where
        fits_stream_of : (panel : ℕ) (below : panel < load.panels) → FitsReads panel (is_done panel below).reads (entries_of panel past)
        fits_stream_of panel below = subst (FitsReads panel (is_done panel below).reads) (sym (entries_are past own panel below)) (is_done panel below).fits

    pub told_stream : (panel : ℕ) → panel < load.panels → told_by panel past ≡ stream_tells load.number panel load.each
    told_stream panel below =
        let so = tells panel below in
        let its : items (all_read (is_done panel below).reads) ≡ items_of load.number panel load.each =
        ap items (is_done panel below).all ∙ (streams_are_read load.number panel load.each).all_items in
        let AskOf : List (Item (List ℕ)) → Type 0 = λ its. AllAsk its so.asked in
        so.told ∙ items_tell ask_plant load.number panel load.each so.asked (omega (arith, few)) (subst AskOf its so.ask)

    traces : All EntryTraces past
    traces = all_of_seats EntryTraces load.panels past by_seats each_traces
      where
        each_traces : (panel : ℕ) → panel < load.panels → All EntryTraces (entries_of panel past)
        each_traces panel below =
            let is = is_done panel below in
            let items_few : length (items (all_read is.reads)) ≤ trace_limit =
            omega (arith, ap (λ (bytes : List ℕ). length (items bytes)) is.all, items_counted load.number panel load.each, few_messages) in
            let turns_few : length is.reads ≤ trace_limit = omega (arith, is.few) in
            let panel_few : panel ≤ trace_limit = omega (arith, few) in
            All-weaker (EntryWithin panel (length (items (all_read is.reads))) (length is.reads)) EntryTraces
            (λ entry within. within_traces panel (length (items (all_read is.reads))) (length is.reads) entry.request panel_few items_few turns_few within)
            (entries_of panel past) (tells panel below).within

    pub is_traceable : IsTraceable (drill_plant load.panels) past
    is_traceable = record {
      legal = legal;
      few = omega (arith, short);
      numbers = All-weaker EntryTraces (λ (entry : PlantEntry). HasTraceNumbers entry.request) (λ entry both. both.1) past traces;
    }

    pub lines_of_past : (trace : List ℕ) → trace ≡ traces_of workers → AreLinesOf (drill_plant load.panels) past (lines trace)
    lines_of_past trace is =
        let plant = drill_plant load.panels in
        lines_of_all plant past (seats_of workers) trace (omega (arith, short)) (All-weaker EntryTraces EntryMayTrace (λ entry both. both.0) past traces)
        (shared load.panels past (seats_of workers) has_all apart seen own by_seats) (is ∙ traced_each plant workers traced)
      where
        traced : All (λ worker. worker.trace.written ≡ own_lines (drill_plant load.panels) worker.seat.number 0 worker.seat.seen) workers
        traced panel other below =
            let is = done panel other below in
            is.traced ∙ ap (λ (number : ℕ). own_lines (drill_plant load.panels) number 0 (slice_index_or workers panel other).seat.seen) (sym is.number_is)

-- one of some workers
some_worker : (workers : List Worker) → 1 ≤ length workers → Worker
some_worker [] some = absurd (omega (arith, some))
some_worker (worker ∷ workers) some = worker

module _ (load : Workload) (lock : LockData State) (workers : List Worker) (done : EachWorker (HasDone load lock) workers) where
  goods_few : All (λ (worker : Worker). worker.goods ≤ most_messages) workers → length workers ≤ 16 → sum_by (λ (worker : Worker). worker.goods) workers < 2 ^ 64
  goods_few all few = omega (arith, sum_by-le (λ (worker : Worker). worker.goods) most_messages workers all)

  bads_few : All (λ (worker : Worker). worker.bads ≤ most_messages) workers → length workers ≤ 16 → sum_by (λ (worker : Worker). worker.bads) workers < 2 ^ 64
  bads_few all few = omega (arith, sum_by-le (λ (worker : Worker). worker.bads) most_messages workers all)

  -- The sums of the frames that came fit 64 bits.
  pub sums_fit : load.each ≤ most_messages → length workers ≤ 16 → (sum_by (λ (worker : Worker). worker.goods) workers < 2 ^ 64) × (sum_by (λ (worker : Worker). worker.bads) workers < 2 ^ 64)
  sums_fit few_messages few = (
    goods_few (λ panel default below. omega (arith, (done panel default below).goods, good_counted load.each, few_messages)) few,
    bads_few (λ panel default below. omega (arith, (done panel default below).bads, bad_counted load.each, few_messages)) few,
  )

-- What all of them left.
pub has_drilled : (ask_plant : MessagesAskThePlant) (load : Workload) (lock : LockData State) (workers : List Worker) (default : Worker) (count : length workers ≡ load.panels) (placed : EachWorker (IsPlaced lock) workers) (done : EachWorker (HasDone load lock) workers) (few : load.panels ≤ 16)
    (few_messages : load.each ≤ most_messages) (outcome : Outcome) → outcome.goods ≡ sum_by (λ (worker : Worker). worker.goods) workers → outcome.bads ≡ sum_by (λ (worker : Worker). worker.bads) workers → outcome.trace.items ≡ traces_of workers
    → IsLegal step Takes (start (drill_plant load.panels)) outcome.past → length outcome.past ≤ 2 ^ 62 → All (λ seat. IsPrefix seat.seen outcome.past) (seats_of workers) → All (HasOwn outcome.past) (seats_of workers)
    → All (λ entry. entry.seat < load.panels) outcome.past → HasDrilled load outcome
has_drilled ask_plant load lock workers default count placed done few few_messages outcome goods bads trace legal short seen own by_seats =
    record {
      goods = goods ∙ sum_same (λ (worker : Worker). worker.goods) (good_among load.each) workers (λ panel other below. (done panel other below).goods) ∙ ap (λ (n : ℕ). n * good_among load.each) count;
      bads = bads ∙ sum_same (λ (worker : Worker). worker.bads) (bad_among load.each) workers (λ panel other below. (done panel other below).bads) ∙ ap (λ (n : ℕ). n * bad_among load.each) count;
      history = is_traceable load lock workers default count placed done ask_plant few few_messages outcome.past legal short seen own by_seats;
      few = short;
      by_panels = by_seats;
      entries = fits_stream load lock workers default count placed done ask_plant few few_messages outcome.past legal short seen own by_seats;
      told = told_stream load lock workers default count placed done ask_plant few few_messages outcome.past legal short seen own by_seats;
      trace = lines_of_past load lock workers default count placed done ask_plant few few_messages outcome.past legal short seen own by_seats outcome.trace.items trace;
    }

-- The lock can be closed with the seats of workers that have served their sessions,
module _ (load : Workload) (lock : LockData State) (workers : List Worker) (count : length workers ≡ load.panels) (served : EachWorker (WasServed load lock) workers) (some : 1 ≤ load.panels) (seats : List PlantSeat) (are : seats ≡ seats_of workers) where
  first : Worker
  first = some_worker workers (omega (arith, count, some))

  placed : EachWorker (IsPlaced lock) workers
  placed panel default below =
      let worker : Worker = slice_index_or workers panel default in
      let is = service_of load lock panel worker (served panel default below) in
      (lock_of load lock panel worker is, number_of load lock panel worker is)

  pub may_close_own : All (IsOf lock.id) seats
  may_close_own = let Own : List PlantSeat → Type 0 = λ seats. All (IsOf lock.id) seats in subst Own (sym are) (all_of_lock load lock workers first count placed)

  pub may_close_all : (panels : ℕ) → panels ≡ load.panels → HasAll panels seats
  may_close_all panels is =
      let Whole : List PlantSeat → Type 0 = λ seats. HasAll load.panels seats in
      let Of : ℕ → Type 0 = λ panels. HasAll panels seats in
      subst Of (sym is) (subst Whole (sym are) (has_all load lock workers first count placed))

  -- and the history that it leaves then shows that each session ended as its link did.
  module _ (ask_plant : MessagesAskThePlant) (few : load.panels ≤ 16) (few_messages : load.each ≤ most_messages) (past : List PlantEntry) (legal : IsLegal step Takes (start (drill_plant load.panels)) past) (entries : ℕ) (all : entries ≡ length past) (short : entries ≤ 2 ^ 62)
      (seen : All (λ seat. IsPrefix seat.seen past) (seats_of workers)) (own : All (HasOwn past) (seats_of workers)) (full : All (FullByTicket entries) (seats_of workers)) (by_seats : All (λ entry. entry.seat < load.panels) past) where
    past_short : length past < 2 ^ 62
    past_short = omega (arith, past_few load.panels 153800000 past by_seats of_each, few)
      where
        of_each : (panel : ℕ) → panel < load.panels → length (entries_of panel past) ≤ 153800000
        of_each panel below =
            let worker : Worker = slice_index_or workers panel first in
            omega (
              arith,
              ap (length {A = PlantEntry}) (entries_are load lock workers first count placed past own panel below),
              own_few load lock panel worker (service_of load lock panel worker (served panel first (omega (arith, count)))),
              few_piece_count load.number panel load.each few_messages,
              few_messages,
            )

    all_done : EachWorker (HasDone load lock) workers
    all_done panel default below =
        let worker : Worker = slice_index_or workers panel default in
        let within : panel < load.panels = omega (arith, count) in
        let never : worker.seat.ticket_full ≢ true = λ found. omega (arith, of_seat load lock workers default count placed (FullByTicket entries) full panel within found, past_short, all) in
        own_done load lock panel worker (service_of load lock panel worker (served panel default below)) ask_plant (omega arith) few_messages past legal (omega (arith, past_short)) (of_seat load lock workers default count placed (λ (seat : PlantSeat). IsPrefix seat.seen past) seen panel within)
        (entries_are load lock workers default count placed past own panel within) never

  -- So this is what they leave.
  pub gathered : (ask_plant : MessagesAskThePlant) (few : load.panels ≤ 16) (few_messages : load.each ≤ most_messages) (outcome : Outcome) (opening : State) (entries panels : ℕ) → outcome.goods ≡ sum_by (λ (worker : Worker). worker.goods) workers % 2 ^ 64
      → outcome.bads ≡ sum_by (λ (worker : Worker). worker.bads) workers % 2 ^ 64 → outcome.trace.items ≡ traces_of workers → opening ≡ start (drill_plant load.panels) → panels ≡ load.panels → IsLegal step Takes opening outcome.past → entries ≡ length outcome.past → entries ≤ 2 ^ 62
      → All (λ seat. IsPrefix seat.seen outcome.past) seats → All (HasOwn outcome.past) seats → All (FullByTicket entries) seats → All (λ entry. entry.seat < panels) outcome.past → HasDrilled load outcome
  gathered ask_plant few few_messages outcome opening entries panels goods bads trace opens counted legal all short seen own full by_seats =
      let Legal : State → Type 0 = λ opening. IsLegal step Takes opening outcome.past in
      let Seen : List PlantSeat → Type 0 = λ seats. All (λ seat. IsPrefix seat.seen outcome.past) seats in
      let Own : List PlantSeat → Type 0 = λ seats. All (HasOwn outcome.past) seats in
      let Filled : List PlantSeat → Type 0 = λ seats. All (FullByTicket entries) seats in
      let By : ℕ → Type 0 = λ panels. All (λ entry. entry.seat < panels) outcome.past in
      let is_legal = subst Legal opens legal in
      let are_seen = subst Seen are seen in
      let are_own = subst Own are own in
      let by_panels = subst By counted by_seats in
      let done = all_done ask_plant few few_messages outcome.past is_legal entries all short are_seen are_own (subst Filled are full) by_panels in
      let sums = sums_fit load lock workers done few_messages (omega (arith, count, few)) in
      has_drilled ask_plant load lock workers first count placed done few few_messages outcome (omega (arith, goods, sums.0)) (omega (arith, bads, sums.1)) trace is_legal (omega (arith, all, short)) are_seen are_own by_panels
