-- The workers of a drill, one for each panel.
use Rattle.std.specs.Prelude.{◌≡◌, ℕ, ◌+◌, ◌*◌, ◌<◌, ◌≤◌, ◌^◌, List, [], Some, All, length, slice_index_or, map}
use Rattle.std.specs.List.{flat_map}
use Rattle.line_text.specs.Lines.{lines}
use Rattle.ctl_io.specs.Memory.{SinkState}
use Rattle.ctl_net.specs.Acceptor.{LinkEnd, link_end}
use Rattle.ctl_net.specs.MemLink.{LinkState, new_link, read_half_of}
use Rattle.history_lock.specs.Locks.{LockData, new_seat}
use Rattle.plant_config.specs.DrillPlant.{drill_plant}
use Rattle.plant_core.specs.State.{State, start}
use Rattle.panel_session.specs.Counted.{AreCounts}
use Rattle.panel_session.specs.Served.{PlantSeat, Served, TraceData}
use Rattle.panel_session.specs.Session.{StandsFor}
use Rattle.panel_session.specs.SoFar.{Progress, nothing_yet}
use Rattle.panel_session.specs.declared.serve.SessionEnd.{SessionEnd}
use Rattle.panel_session.specs.declared.session.counts.Counts.{Counts}
use Rattle.trace_audit.specs.Laws.{AreLinesOf, IsTraceable}
use Rattle.drill.specs.declared.outcome.Outcome.{Outcome}
use Rattle.drill.specs.declared.worker.Worker.{Worker}
use Rattle.drill.specs.declared.worker.Workload.{Workload}
use Rattle.drill.specs.Drilled.{FitsItsStream, stream_tells, told_by}
use Rattle.drill.specs.PanelLinkInside.{IsPanelLink}
use Rattle.drill.specs.Pieces.{in_pieces, piece_count}
use Rattle.drill.specs.Stream.{bad_among, good_among, stream}
use Rattle.drill.specs.TapeInside.{IsTape, new_tape}

-- the bytes that a panel sends, and how many pieces they have
abbrev pub bytes_of_panel : Workload → ℕ → List ℕ
bytes_of_panel load panel = stream load.number panel load.each

abbrev pub pieces_of_panel : Workload → ℕ → ℕ
pieces_of_panel load panel = piece_count (bytes_of_panel load panel)

-- the room of a panel's link, and of its trace: so many bytes for each message, and for each piece
abbrev pub link_room : Workload → ℕ → ℕ
link_room load panel = 64 * load.each + 1024 * pieces_of_panel load panel

abbrev pub trace_room : Workload → ℕ → ℕ
trace_room load panel = 256 * load.each + 8192 * pieces_of_panel load panel

-- A worker of a panel has its session and what the panel sends, and nothing was read, written or traced.
pub record IsReady (load : Workload) (panel : ℕ) (worker : Worker) : Type 0 where
  pub stands : StandsFor (drill_plant load.panels) panel worker.session nothing_yet
  pub link : worker.link
      ≡ new_link (in_pieces (bytes_of_panel load panel)) (link_room load panel) [] []
  pub trace : worker.trace ≡ new_tape (trace_room load panel)

-- It may work: it has the panel's seat of the lock, of a new one with the start of the drill's plant.
pub record MayWork (load : Workload) (lock : LockData State) (panel : ℕ) (worker : Worker)
    : Type 0 where
  pub ready : IsReady load panel worker
  pub seat : worker.seat ≡ new_seat lock.id (start (drill_plant load.panels)) panel

-- what a panel's link shows, and its trace
abbrev pub link_shown : LinkState → LinkEnd
link_shown link =
    link_end (Some link.output.written) link.output.calls.faults (read_half_of link.input)

abbrev pub trace_shown : SinkState → TraceData
trace_shown trace = record { written = Some trace.written; faults = trace.calls.faults }

-- the most turns that a panel's session may need are fewer than it has
abbrev pub most_pieces : ℕ
most_pieces = 4800000

-- What a worker that might work has done that served its session until that ended, however it did. The rooms are what they
-- were.
pub record Service (load : Workload) (lock : LockData State) (panel : ℕ) (worker : Worker)
    : Type 0 where
  pub before : Worker
  pub may : MayWork load lock panel before
  pub turns : ℕ
  pub enough : most_pieces < turns
  pub few : turns ≤ 2 ^ 40
  pub end : SessionEnd
  pub served : Served (drill_plant load.panels) panel turns end worker.session before.seat
      worker.seat (link_shown before.link) (link_shown worker.link) (trace_shown before.trace)
      (trace_shown worker.trace)
  pub same_link_room : worker.link.output.room ≡ before.link.output.room
  pub same_trace_room : worker.trace.room ≡ before.trace.room
  pub link_keeps : IsPanelLink worker.link
  pub trace_keeps : IsTape worker.trace
  pub counts : Counts
  pub goods : worker.goods ≡ counts.goods
  pub bads : worker.bads ≡ counts.bads
  pub stood : (past : Progress) → StandsFor (drill_plant load.panels) panel worker.session past
      → AreCounts past counts

-- A worker has served its session.
unfoldable pub WasServed : Workload → LockData State → ℕ → Worker → Type 0
WasServed load lock panel worker = Service load lock panel worker

-- Each worker of a list is so, as that of the panel of its place.
abbrev pub EachWorker : (ℕ → Worker → Type 0) → List Worker → Type 0
EachWorker P workers = (panel : ℕ) (default : Worker) → panel < length workers
    → P panel (slice_index_or workers panel default)

-- the seats of workers, and the traces of all, one behind the other
abbrev pub seats_of : List Worker → List PlantSeat
seats_of workers = map (λ worker. worker.seat) workers

abbrev pub traces_of : List Worker → List ℕ
traces_of workers = flat_map (λ worker. worker.trace.written) workers

-- What a drill left: the good and the bad frames of all panels, the trace of all, and the history that was answered.
pub record HasDrilled (load : Workload) (outcome : Outcome) : Type 0 where
  pub goods : outcome.goods ≡ load.panels * good_among load.each
  pub bads : outcome.bads ≡ load.panels * bad_among load.each
  pub history : IsTraceable (drill_plant load.panels) outcome.past
  pub few : length outcome.past ≤ 2 ^ 62
  pub by_panels : All (λ entry. entry.seat < load.panels) outcome.past
  pub entries : (panel : ℕ) → panel < load.panels
      → FitsItsStream load.number panel load.each outcome.past
  pub told : (panel : ℕ) → panel < load.panels
      → told_by panel outcome.past ≡ stream_tells load.number panel load.each
  pub trace : AreLinesOf (drill_plant load.panels) outcome.past (lines outcome.trace.items)
