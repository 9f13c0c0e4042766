-- A session of a drill ends as its link does: it can end in no other way.
use Rattle.std.proofs.Common.{◌≡◌, ◌≢◌, ℕ, ◌+◌, ◌*◌, ◌<◌, ◌≤◌, ◌^◌, ◌==◌, true, List, [], ◌∷◌, ◌++◌, All, length, slice_index_or, filter, map, Some, refl, sym, ap, ◌∙◌, subst, arith, length-append}
use Rattle.std.specs.List.{range_with_len}
use Rattle.std.proofs.lemmas.List.{take_at}
use Rattle.std.proofs.lemmas.List.Elements.{All-filter, All-take}
use Rattle.std.proofs.lemmas.List.FromFn.{length-map-range_with_len, length-range_with_len}
use mathlib.Core.List.{IsPrefix}
use Rattle.ctl_io.specs.Faults.{count_after}
use Rattle.ctl_io.specs.Memory.{SinkState}
use Rattle.ctl_io.specs.ReadHalf.{Reading}
use Rattle.ctl_net.specs.LinkEvents.{bytes_of}
use Rattle.ctl_net.specs.MemLink.{LinkState}
use Rattle.dle_framing.specs.declared.item.Item.{Item}
use Rattle.dle_framing.specs.Items.{items}
use Rattle.history_lock.specs.History.{IsLegal, entries_of}
use Rattle.history_lock.specs.Locks.{LockData}
use Rattle.plant_config.specs.DrillPlant.{drill_plant}
use Rattle.plant_core.specs.Answer.{IsAnswerCount}
use Rattle.plant_core.specs.State.{State, start, Fits as Takes}
use Rattle.plant_core.specs.Step.{step}
use Rattle.panel_session.specs.Asked.{AllAsk}
use Rattle.panel_session.specs.Entry.{PlantEntry}
use Rattle.panel_session.specs.Served.{FitAsEnded, HasCause, PlantSeat, all_read, full_after, own_lines, read_failed_at, read_of, trace_failed_at, write_failed_at}
use Rattle.panel_session.specs.Text.{IsText}
use Rattle.trace_lines.specs.TraceLine.{trace_limit}
use Rattle.panel_session.specs.Turns.{requests}
use Rattle.panel_session.specs.declared.serve.SessionEnd.{SessionEnd}
use Rattle.panel_session.specs.declared.serve.SessionEnd.TheVariants.{Ended, ReadFault, WriteFault, TraceFault, IdleOut, Spent, Full}
use Rattle.drill.specs.Drilled.{is_told, most_messages, stream_tells}
use Rattle.drill.specs.Laws.{MessagesAskThePlant}
use Rattle.drill.specs.Pieces.{piece_count}
use Rattle.drill.specs.Stream.{item_at, items_of}
use Rattle.drill.specs.WorkerInside.{Service, WasServed, bytes_of_panel, pieces_of_panel, link_room, trace_room}
use Rattle.drill.specs.declared.worker.Worker.{Worker}
use Rattle.drill.specs.declared.worker.Workload.{Workload}
use Rattle.drill.proofs.AskedLemmas.{items_tell}
use Rattle.drill.proofs.FewLemmas.{AsksNoDump, entries_no_dump, fits_few, legal_counted, one_answer}
use Rattle.drill.proofs.LineLemmas.{HasShortLine, lines_few, short_line}
use Rattle.drill.proofs.PieceLemmas.{pieces_are_all}
use Rattle.drill.proofs.RoomLemmas.{few_piece_count}
use Rattle.drill.proofs.ServedLemmas.{HasDone, ends_done}
use Rattle.drill.proofs.TextLemmas.{IsShort, few_short, text_few}
use Rattle.drill.proofs.TurnLemmas.{EntryWithin, TellsOf, fits_tell}
use Rattle.drill.proofs.ReadsLemmas.{ReadsFirst, never_idle, reads_few, reads_first, some_reads}

-- what the plant of a drill allows
drill_limit : (panels : ℕ) → (drill_plant panels).server.idle_limit ≡ 1000000
unfolding drill_plant
drill_limit panels = refl

-- A session that ended in none of the other ways ended as its link did.
only_ended : (end : SessionEnd) → end ≢ ReadFault → end ≢ WriteFault → end ≢ TraceFault → end ≢ IdleOut → end ≢ Spent → end ≢ Full → end ≡ Ended
only_ended Ended read write trace idle spent full = refl
only_ended ReadFault read write trace idle spent full = absurd (read refl)
only_ended WriteFault read write trace idle spent full = absurd (write refl)
only_ended TraceFault read write trace idle spent full = absurd (trace refl)
only_ended IdleOut read write trace idle spent full = absurd (idle refl)
only_ended Spent read write trace idle spent full = absurd (spent refl)
only_ended Full read write trace idle spent full = absurd (full refl)

-- a front is no longer
front_few : {X : Type 0} (front all : List X) → IsPrefix front all → length front ≤ length all
front_few {X} front all (rest, is) = omega (arith, length-append front rest, ap (length {A = X}) is)

some_length : {X : Type 0} (xs : List X) → xs ≢ [] → 1 ≤ length xs
some_length [] some = absurd (some refl)
some_length (x ∷ xs) some = omega arith

-- What a worker that has served its session has done.
pub service_of : (load : Workload) (lock : LockData State) (panel : ℕ) (worker : Worker) → WasServed load lock panel worker → Service load lock panel worker
unfolding WasServed
service_of load lock panel worker is = is

module _ (load : Workload) (lock : LockData State) (panel : ℕ) (worker : Worker) (is : Service load lock panel worker) where
  pub lock_of : worker.seat.lock ≡ lock.id
  lock_of = ap (λ (seat : PlantSeat). seat.lock) is.served.seat_same ∙ ap (λ (seat : PlantSeat). seat.lock) is.may.seat

  number_before : is.before.seat.number ≡ panel
  number_before = ap (λ (seat : PlantSeat). seat.number) is.may.seat

  pub number_of : worker.seat.number ≡ panel
  number_of = ap (λ (seat : PlantSeat). seat.number) is.served.seat_same ∙ number_before

  seen_before : is.before.seat.seen ≡ []
  seen_before = ap (λ (seat : PlantSeat). seat.seen) is.may.seat

  all_new : worker.seat.seen ≡ is.served.new
  all_new = is.served.seen ∙ ap (λ (front : List PlantEntry). front ++ is.served.new) seen_before

  own_new : entries_of is.before.seat.number is.served.new ≡ entries_of panel worker.seat.seen
  own_new = ap (λ (number : ℕ). entries_of number is.served.new) number_before ∙ ap (entries_of panel) (sym all_new)

  reads_told : worker.link.input.reads ≡ map read_of is.served.reads
  reads_told =
      let told : Some worker.link.input.reads ≡ Some (is.before.link.input.reads ++ map read_of is.served.reads) = is.served.told in
      let none : is.before.link.input.reads ≡ [] = ap (λ (link : LinkState). link.input.reads) is.may.ready.link in
      let all : worker.link.input.reads ≡ is.before.link.input.reads ++ map read_of is.served.reads = cc in
      all ∙ ap (λ (former : List Reading). former ++ map read_of is.served.reads) none

  bytes_taken : all_read is.served.reads ++ bytes_of worker.link.input.events ≡ bytes_of_panel load panel
  bytes_taken =
      let taken = is.served.taken in
      let left : Some (bytes_of worker.link.input.events) ≡ Some taken.0 = taken.1 in
      let rest : bytes_of worker.link.input.events ≡ taken.0 = cc in
      ap (λ (rest : List ℕ). all_read is.served.reads ++ rest) rest
      ∙ sym taken.2
      ∙ ap (λ (link : LinkState). bytes_of link.input.events) is.may.ready.link
      ∙ pieces_are_all (bytes_of_panel load panel)

  few_reads : length is.served.reads ≤ pieces_of_panel load panel
  few_reads = omega (arith, reads_few worker.link.input is.served.reads is.link_keeps.input reads_told, ap piece_count bytes_taken)

  first_read : ReadsFirst load.number panel load.each (all_read is.served.reads)
  first_read = reads_first load.number panel load.each (all_read is.served.reads) (bytes_of worker.link.input.events) bytes_taken

  fits_more : FitAsEnded is.end panel is.served.reads (entries_of panel worker.seat.seen)
  fits_more = let Fit : List PlantEntry → Type 0 = λ entries. FitAsEnded is.end panel is.served.reads entries in subst Fit own_new is.served.fits

  items_counted : length (items (all_read is.served.reads)) ≡ first_read.count
  items_counted = ap (length {A = Item (List ℕ)}) first_read.are ∙ length-map-range_with_len (item_at load.number panel) 0 first_read.count

  entries_few : length (entries_of panel worker.seat.seen) ≤ first_read.count + 32 * length is.served.reads
  entries_few =
      let more = fits_more.1 in
      let own = entries_of panel worker.seat.seen in
      omega (arith, fits_few panel is.served.reads (own ++ more.0) more.1, length-append own more.0, items_counted)

  -- Its own entries are few.
  pub own_few : length (entries_of panel worker.seat.seen) ≤ load.each + 32 * pieces_of_panel load panel
  own_few = omega (arith, entries_few, few_reads, first_read.few)

  not_read : is.end ≢ ReadFault
  not_read ended =
      let At : SessionEnd → Type 0 = λ end. worker.link.input.calls.faults ≡ count_after (read_failed_at end) is.before.link.input.calls.faults in
      omega (arith, subst At ended is.served.read_count, is.link_keeps.input.no_fault)

  not_idle : is.end ≢ IdleOut
  not_idle ended =
      let limit = (drill_plant load.panels).server.idle_limit in
      let At : SessionEnd → Type 0 = λ end. HasCause end is.turns limit is.served.reads (Some (bytes_of worker.link.input.events)) in
      let Gave : List Reading → Type 0 = λ reads. All (λ (reading : Reading). 0 < length reading.bytes) reads in
      never_idle limit is.served.reads (omega (arith, drill_limit load.panels)) (some_reads is.served.reads (subst Gave reads_told is.link_keeps.input.some)) (subst At ended is.served.cause)

  not_spent : load.each ≤ most_messages → is.end ≢ Spent
  not_spent few ended =
      let At : SessionEnd → Type 0 = λ end. HasCause end is.turns (drill_plant load.panels).server.idle_limit is.served.reads (Some (bytes_of worker.link.input.events)) in
      let spent : length is.served.reads ≡ is.turns = subst At ended is.served.cause in
      omega (arith, spent, few_reads, few_piece_count load.number panel load.each few, is.enough)

  not_full : worker.seat.ticket_full ≢ true → is.end ≢ Full
  not_full not ended =
      let At : SessionEnd → Type 0 = λ end. worker.seat.ticket_full ≡ full_after end is.served.new is.before.seat.ticket_full in
      not (subst At ended is.served.full)

  module _ (ask_plant : MessagesAskThePlant) (few_panels : panel < 16) (few : load.each ≤ most_messages) (past : List PlantEntry) (legal : IsLegal step Takes (start (drill_plant load.panels)) past) (short : length past ≤ 2 ^ 62)
      (seen : IsPrefix worker.seat.seen past) (own : entries_of panel past ≡ entries_of panel worker.seat.seen) where
    abbrev mine : List PlantEntry
    mine = entries_of panel worker.seat.seen

    abbrev more : List PlantEntry
    more = fits_more.1.0

    tells : TellsOf panel is.served.reads (mine ++ more)
    tells = fits_tell panel is.served.reads (mine ++ more) fits_more.1.1

    mine_of : (P : PlantEntry → Type 0) → All P (mine ++ more) → All P mine
    mine_of P all = let Of : List PlantEntry → Type 0 = λ entries. All P entries in subst Of (take_at mine more (length mine) refl) (All-take P (length mine) (mine ++ more) all)

    told_first : filter is_told (requests (mine ++ more)) ≡ stream_tells load.number panel first_read.count
    told_first =
        let AskOf : List (Item (List ℕ)) → Type 0 = λ its. AllAsk its tells.asked in
        tells.told ∙ items_tell ask_plant load.number panel first_read.count tells.asked few_panels (subst AskOf first_read.are tells.ask)

    all_short : All IsShort mine
    all_short =
        let plant = drill_plant load.panels in
        let items_read = length (items (all_read is.served.reads)) in
        let turns = length is.served.reads in
        let no_dump = mine_of (λ (entry : PlantEntry). AsksNoDump entry.request) (entries_no_dump load.number panel first_read.count (mine ++ more) told_first) in
        let within = mine_of (EntryWithin panel items_read turns) tells.within in
        let Counts : PlantEntry → Type 0 = λ entry. IsAnswerCount plant entry.request (length entry.answers) in
        let Of : List PlantEntry → Type 0 = λ entries. All Counts entries in
        let counted : All Counts mine = subst Of own (All-filter (λ (entry : PlantEntry). entry.seat == panel) Counts past (legal_counted plant (start plant) past refl legal)) in
        λ k default below. few_short _ (one_answer plant panel items_read turns _ _ (within k default below) (no_dump k default below) (counted k default below))

    not_write : is.end ≢ WriteFault
    not_write ended =
        let plant = drill_plant load.panels in
        let Count : SessionEnd → Type 0 = λ end. worker.link.output.calls.faults ≡ count_after (write_failed_at end) is.before.link.output.calls.faults in
        let Cause : SessionEnd → Type 0 = λ end. HasCause end is.turns plant.server.idle_limit is.served.reads (Some (bytes_of worker.link.input.events)) in
        let failed : 0 < worker.link.output.calls.faults = omega (arith, subst Count ended is.served.write_count) in
        let some : 1 ≤ length is.served.reads = some_length is.served.reads (subst Cause ended is.served.cause) in
        let room : worker.link.output.room ≡ link_room load panel = is.same_link_room ∙ ap (λ (link : LinkState). link.output.room) is.may.ready.link in
        let written : Some worker.link.output.written ≡ Some (is.before.link.output.written ++ is.served.bytes) = is.served.written in
        let bytes : worker.link.output.written ≡ is.before.link.output.written ++ is.served.bytes = cc in
        let none : is.before.link.output.written ≡ [] = ap (λ (link : LinkState). link.output.written) is.may.ready.link in
        let now : worker.link.output.written ≡ is.served.bytes = bytes ∙ ap (λ (former : List ℕ). former ++ is.served.bytes) none in
        let says = is.served.says in
        let TextOf : List PlantEntry → Type 0 = λ entries. IsText plant (items (all_read is.served.reads)) entries says.0 in
        let ItemsOf : List (Item (List ℕ)) → Type 0 = λ its. IsText plant its mine says.0 in
        let text : IsText plant (items_of load.number panel first_read.count) mine says.0 = subst ItemsOf first_read.are (subst TextOf own_new says.1) in
        omega (
          arith,
          is.link_keeps.output.full failed,
          room,
          ap (length {A = ℕ}) now,
          front_few is.served.bytes says.0 says.2,
          text_few ask_plant plant load.number panel few_panels mine all_short (range_with_len 0 first_read.count) says.0 text,
          length-range_with_len 0 first_read.count,
          entries_few,
          few_reads,
          first_read.few,
          some,
        )

    all_lines : All (HasShortLine (drill_plant load.panels)) mine
    all_lines =
        let items_read = length (items (all_read is.served.reads)) in
        let turns = length is.served.reads in
        let pieces = few_piece_count load.number panel load.each few in
        let within = mine_of (EntryWithin panel items_read turns) tells.within in
        let few_items : items_read ≤ trace_limit = omega (arith, items_counted, first_read.few, few) in
        let few_turns : turns ≤ trace_limit = omega (arith, few_reads, pieces) in
        λ k default below. short_line (drill_plant load.panels) panel items_read turns (slice_index_or mine k default) (omega arith) few_items few_turns (within k default below) (all_short k default below)

    not_trace : is.end ≢ TraceFault
    not_trace ended =
        let plant = drill_plant load.panels in
        let Count : SessionEnd → Type 0 = λ end. worker.trace.calls.faults ≡ count_after (trace_failed_at end) is.before.trace.calls.faults in
        let Cause : SessionEnd → Type 0 = λ end. HasCause end is.turns plant.server.idle_limit is.served.reads (Some (bytes_of worker.link.input.events)) in
        let failed : 0 < worker.trace.calls.faults = omega (arith, subst Count ended is.served.trace_count) in
        let some : 1 ≤ length is.served.reads = some_length is.served.reads (subst Cause ended is.served.cause) in
        let room : worker.trace.room ≡ trace_room load panel = is.same_trace_room ∙ ap (λ (trace : SinkState). trace.room) is.may.ready.trace in
        let written : Some worker.trace.written ≡ Some (is.before.trace.written ++ is.served.lines) = is.served.traced in
        let lines : worker.trace.written ≡ is.before.trace.written ++ is.served.lines = cc in
        let none : is.before.trace.written ≡ [] = ap (λ (trace : SinkState). trace.written) is.may.ready.trace in
        let now : worker.trace.written ≡ is.served.lines = lines ∙ ap (λ (former : List ℕ). former ++ is.served.lines) none in
        let all : own_lines plant is.before.seat.number (length is.before.seat.seen) is.served.new ≡ own_lines plant panel 0 worker.seat.seen =
        ap (λ (number : ℕ). own_lines plant number (length is.before.seat.seen) is.served.new) number_before
        ∙ ap (λ (seen : List PlantEntry). own_lines plant panel (length seen) is.served.new) seen_before
        ∙ ap (own_lines plant panel 0) (sym all_new) in
        omega (
          arith,
          is.trace_keeps.full failed,
          room,
          ap (length {A = ℕ}) now,
          front_few is.served.lines (own_lines plant is.before.seat.number (length is.before.seat.seen) is.served.new) is.served.traces.0,
          ap (length {A = ℕ}) all,
          lines_few plant panel 0 worker.seat.seen (omega (arith, front_few worker.seat.seen past seen, short)) all_lines,
          entries_few,
          few_reads,
          first_read.few,
          some,
        )

    -- So the worker has done its work.
    pub own_done : worker.seat.ticket_full ≢ true → HasDone load lock panel worker
    own_done not = ends_done load lock panel worker is (only_ended is.end not_read not_write not_trace not_idle (not_spent few) (not_full not))
