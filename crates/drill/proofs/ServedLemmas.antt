-- A session that ended as its link did has done a worker's work.
use Rattle.std.proofs.Common.{◌≡◌, ℕ, ◌+◌, ◌≤◌, ◌^◌, List, [], ◌++◌, map, length, Option, Some, None, refl, sym, ap, ◌∙◌, subst, arith}
use Rattle.std.proofs.lemmas.List.{append-nil}
use Rattle.std.proofs.lemmas.List.FromFn.{length-map-range_with_len}
use Rattle.dle_framing.specs.Items.{items}
use Rattle.ctl_io.specs.Memory.{SinkState}
use Rattle.ctl_io.specs.Sink.{appended}
use Rattle.ctl_io.specs.Source.{IsAtEnd}
use Rattle.ctl_net.specs.Acceptor.{LinkEnd}
use Rattle.ctl_net.specs.LinkEvents.{bytes_of as link_bytes}
use Rattle.ctl_net.specs.MemLink.{LinkState}
use Rattle.history_lock.specs.History.{entries_of}
use Rattle.history_lock.specs.Locks.{LockData}
use Rattle.plant_config.specs.DrillPlant.{drill_panel, drill_panels, drill_plant}
use Rattle.plant_config.specs.Plant.{PlantData}
use Rattle.plant_core.specs.State.{State}
use Rattle.panel_session.specs.Counted.{AreCounts, bads_of, goods_of}
use Rattle.panel_session.specs.Entry.{PlantEntry}
use Rattle.panel_session.specs.declared.serve.SessionEnd.{SessionEnd}
use Rattle.panel_session.specs.declared.serve.SessionEnd.TheVariants.{Ended}
use Rattle.panel_session.specs.declared.session.Session.{Session}
use Rattle.panel_session.specs.declared.session.counts.Counts.{Counts}
use Rattle.panel_session.specs.Served.{AreTaken, HasWorked, PlantSeat, Served, TraceData, all_read, own_lines}
use Rattle.panel_session.specs.SoFar.{Progress, read_so_far}
use Rattle.panel_session.specs.Turns.{FitsReads, Turn, bytes_read}
use Rattle.panel_session.proofs.ReadsLemmas.{read-pieces}
use Rattle.drill.specs.declared.worker.Worker.{Worker}
use Rattle.drill.specs.declared.worker.Workload.{Workload}
use Rattle.drill.specs.Stream.{bad_among, good_among, items_of, stream}
use Rattle.drill.specs.WorkerInside.{Service, bytes_of_panel, link_shown, trace_shown}
use Rattle.drill.proofs.CountLemmas.{bads_sent, goods_sent}
use Rattle.drill.proofs.PieceLemmas.{pieces_are_all}
use Rattle.drill.proofs.StreamLemmas.{streams_are_read}

-- What a session did that ended as its link did, on all the bytes that the link had.
pub record ReadAll (plant : PlantData) (panel turns : ℕ) (bytes : List ℕ) (session_then : Session) (seat_then : PlantSeat) (trace_then : TraceData) : Type 0 where
  pub reads : List (List ℕ)
  pub few : length reads ≤ turns
  pub all : all_read reads ≡ bytes
  pub fits : FitsReads panel reads (entries_of panel seat_then.seen)
  pub traced : trace_then.written ≡ Some (own_lines plant panel 0 seat_then.seen)
  pub worked : HasWorked plant panel reads session_then

-- All that was left was read.
taken_all : (read bytes : List ℕ) (left left_then : Option (List ℕ)) → left ≡ Some bytes → AreTaken read left left_then → IsAtEnd left_then → read ≡ bytes
taken_all read bytes None left_then is taken end = absurd cc
taken_all read bytes (Some all) None is taken end = absurd (let found = taken.1 in cc)
taken_all read bytes (Some all) (Some rest) is taken end =
    let same : all ≡ bytes = cc in
    let found : Some rest ≡ Some taken.0 = taken.1 in
    let none : taken.0 ≡ [] = (let at : rest ≡ taken.0 = cc in sym at ∙ end) in
    sym (append-nil read) ∙ ap (λ (more : List ℕ). read ++ more) (sym none) ∙ sym taken.2 ∙ same

appended_none : (written : Option (List ℕ)) (lines : List ℕ) → written ≡ Some [] → appended written lines ≡ Some lines
appended_none written lines is = ap (λ (written : Option (List ℕ)). appended written lines) is

pub read_all : (plant : PlantData) (panel turns : ℕ) (bytes : List ℕ) (session_then : Session) (seat seat_then : PlantSeat) (link link_then : LinkEnd) (trace trace_then : TraceData)
    → Served plant panel turns Ended session_then seat seat_then link link_then trace trace_then → seat.number ≡ panel → seat.seen ≡ [] → link.read_half.left ≡ Some bytes → trace.written ≡ Some []
    → ReadAll plant panel turns bytes session_then seat_then trace_then
read_all plant panel turns bytes session_then seat seat_then link link_then trace trace_then served number seen left untraced =
    let now : seat_then.seen ≡ served.new = served.seen ∙ ap (λ (front : List PlantEntry). front ++ served.new) seen in
    let entries : entries_of seat.number served.new ≡ entries_of panel seat_then.seen =
    ap (λ (number : ℕ). entries_of number served.new) number ∙ ap (entries_of panel) (sym now) in
    let begun : length seat.seen ≡ 0 = ap (length {A = PlantEntry}) seen in
    let lines : served.lines ≡ own_lines plant panel 0 seat_then.seen =
    served.traces.1 refl
    ∙ ap (λ (number : ℕ). own_lines plant number (length seat.seen) served.new) number
    ∙ ap (λ (position : ℕ). own_lines plant panel position served.new) begun
    ∙ ap (own_lines plant panel 0) (sym now) in
    record {
      reads = served.reads;
      few = served.few;
      all = taken_all (all_read served.reads) bytes link.read_half.left link_then.read_half.left left served.taken served.cause.1;
      fits = subst (FitsReads panel served.reads) entries (served.fits.0 refl);
      traced = served.traced ∙ appended_none trace.written served.lines untraced ∙ ap Some lines;
      worked = served.left.0 refl;
    }

-- The counts of a session that read all that a panel sends.
pub counted : (number panel each : ℕ) (reads : List (List ℕ)) (past : Progress) (counts : Counts) → past.now.piece ≡ [] → map (λ (turn : Turn). turn.piece) past.turns ≡ reads → all_read reads ≡ stream number panel each → AreCounts past counts
    → (counts.goods ≡ good_among each) × (counts.bads ≡ bad_among each)
counted number panel each reads past counts begins pieces all are =
    let read : read_so_far past ≡ stream number panel each =
    ap (λ (piece : List ℕ). bytes_read past.turns ++ piece) begins ∙ append-nil (bytes_read past.turns) ∙ read-pieces past.turns ∙ ap all_read pieces ∙ all in
    let its : items (read_so_far past) ≡ items_of number panel each = ap items read ∙ (streams_are_read number panel each).all_items in
    (are.goods ∙ ap goods_of its ∙ goods_sent number panel each, are.bads ∙ ap bads_of its ∙ bads_sent number panel each)

-- The drill's plant has its panels.
pub panels_counted : (panels : ℕ) → length (drill_plant panels).panels ≡ panels
unfolding drill_plant drill_panels
panels_counted panels = length-map-range_with_len drill_panel 0 panels

-- It has done its work: its session read all that the panel sent, asked what fits these reads, and traced each entry.
pub record HasDone (load : Workload) (lock : LockData State) (panel : ℕ) (worker : Worker) : Type 0 where
  pub lock_is : worker.seat.lock ≡ lock.id
  pub number_is : worker.seat.number ≡ panel
  pub reads : List (List ℕ)
  pub few : length reads ≤ 2 ^ 40
  pub all : all_read reads ≡ stream load.number panel load.each
  pub fits : FitsReads panel reads (entries_of panel worker.seat.seen)
  pub goods : worker.goods ≡ good_among load.each
  pub bads : worker.bads ≡ bad_among load.each
  pub traced : worker.trace.written ≡ own_lines (drill_plant load.panels) panel 0 worker.seat.seen

-- So a worker whose session ended as its link did has done its work.
pub ends_done : (load : Workload) (lock : LockData State) (panel : ℕ) (worker : Worker) (is : Service load lock panel worker) → is.end ≡ Ended → HasDone load lock panel worker
ends_done load lock panel worker is ended =
    let plant = drill_plant load.panels in
    let before = is.before in
    let ready = is.may.ready in
    let bytes = bytes_of_panel load panel in
    let number : before.seat.number ≡ panel = ap (λ (seat : PlantSeat). seat.number) is.may.seat in
    let seen : before.seat.seen ≡ [] = ap (λ (seat : PlantSeat). seat.seen) is.may.seat in
    let left : (link_shown before.link).read_half.left ≡ Some bytes = ap (λ (link : LinkState). Some (link_bytes link.input.events)) ready.link ∙ ap Some (pieces_are_all bytes) in
    let untraced : (trace_shown before.trace).written ≡ Some [] = ap (λ (trace : SinkState). Some trace.written) ready.trace in
    let At : SessionEnd → Type 0 = λ end. Served plant panel is.turns end worker.session before.seat worker.seat (link_shown before.link) (link_shown worker.link) (trace_shown before.trace) (trace_shown worker.trace) in
    let served : At Ended = subst At ended is.served in
    let all : ReadAll plant panel is.turns bytes worker.session worker.seat (trace_shown worker.trace) =
    read_all plant panel is.turns bytes worker.session before.seat worker.seat (link_shown before.link) (link_shown worker.link) (trace_shown before.trace) (trace_shown worker.trace) served number seen left untraced in
    let worked = all.worked in
    let count = counted load.number panel load.each all.reads worked.past is.counts (ap (λ (turn : Turn). turn.piece) worked.begins) worked.pieces all.all (is.stood worked.past worked.stands) in
    let lines : Some worker.trace.written ≡ Some (own_lines plant panel 0 worker.seat.seen) = all.traced in
    record {
      lock_is = ap (λ (seat : PlantSeat). seat.lock) served.seat_same ∙ ap (λ (seat : PlantSeat). seat.lock) is.may.seat;
      number_is = ap (λ (seat : PlantSeat). seat.number) served.seat_same ∙ number;
      reads = all.reads;
      few = omega (arith, all.few, is.few);
      all = all.all;
      fits = all.fits;
      goods = is.goods ∙ count.0;
      bads = is.bads ∙ count.1;
      traced = cc;
    }
