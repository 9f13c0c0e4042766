-- The workers that share a plant, as what they have shows.
use Rattle.std.specs.Prelude.{◌≡◌, ℕ, List, Option}
use Rattle.ctl_io.specs.Custody.{SinkEnd}
use Rattle.ctl_net.specs.Acceptor.{AcceptorData}
use Rattle.ctl_net.specs.Net.{AcceptorEnd, PortEnd, TakesAll, acceptor_end, port_end}
use Rattle.ctl_net.specs.declared.opening.Opening.{Opening}
use Rattle.history_lock.specs.Locks.{LockData}
use Rattle.plant_config.specs.Plant.{PlantData}
use Rattle.plant_core.specs.State.{State}
use Rattle.panel_session.specs.declared.session.Session.{Session}
use Rattle.panel_session.specs.Served.{MayServe, PlantSeat, TraceData}
use Rattle.panel_session.specs.Session.{StandsFor}
use Rattle.panel_session.specs.SoFar.{nothing_yet}
use Rattle.panel_server.specs.declared.displays.DriverEnd.{DriverEnd}
use Rattle.panel_server.specs.declared.panel.PanelDone.{PanelDone}
use Rattle.panel_server.specs.declared.worker.Worker.{Worker}
use Rattle.panel_server.specs.declared.worker.Worker.TheVariants.{Panel, Displays}
use Rattle.panel_server.specs.Driven.{Driven}
use Rattle.panel_server.specs.PanelServed.{PanelServed}
use Rattle.panel_server.specs.Seats.{IsSeatOf}

-- what the worker of a panel has, and what it has done
pub record PanelData : Type 0 where
  pub number : ℕ
  pub session : Session
  pub seat : PlantSeat
  pub acceptor : AcceptorEnd
  pub trace : SinkEnd
  pub done : PanelDone

-- what the worker of the displays has, and why it ended
pub record DisplayData (P : Type 0) : Type 0 where
  pub seat : PlantSeat
  pub port : PortEnd P
  pub trace : SinkEnd
  pub end : DriverEnd

pub data WorkerData (P : Type 0) : Type 0 where
  of_panel : PanelData → WorkerData P
  of_displays : DisplayData P → WorkerData P

-- what a sink shows
abbrev pub sink_shows : {K : Type 0} → (K → Option (List ℕ)) → (K → Option (List ℕ)) → (K → ℕ)
    → K → SinkEnd
sink_shows name written faults sink =
    record { name = name sink; written = written sink; faults = faults sink }

-- what is shown of the trace that it is
abbrev pub trace_of : SinkEnd → TraceData
trace_of sink = record { written = sink.written; faults = sink.faults }

-- what a worker has, as it is shown
abbrev pub worker_shows : {A P K : Type 0} → (A → AcceptorData) → (P → Option Opening)
    → (K → Option (List ℕ)) → (K → Option (List ℕ)) → (K → ℕ) → Worker A P K → WorkerData P
worker_shows acceptor_shows port_opening name written faults (Panel panel) =
    of_panel (record {
      number = panel.number;
      session = panel.session;
      seat = panel.seat;
      acceptor = acceptor_end panel.number (acceptor_shows panel.acceptor);
      trace = sink_shows name written faults panel.trace;
      done = panel.done;
    })
worker_shows acceptor_shows port_opening name written faults (Displays displays) =
    of_displays (record {
      seat = displays.seat;
      port = port_end (port_opening displays.port) displays.port;
      trace = sink_shows name written faults displays.trace;
      end = displays.end;
    })

-- its seat, and the sink of its trace
abbrev pub seat_of : {P : Type 0} → WorkerData P → PlantSeat
seat_of (of_panel panel) = panel.seat
seat_of (of_displays displays) = displays.seat

abbrev pub trace_sink_of : {P : Type 0} → WorkerData P → SinkEnd
trace_sink_of (of_panel panel) = panel.trace
trace_sink_of (of_displays displays) = displays.trace

-- A worker may begin: its session is new, its seat is one of the lock, and its port takes every packet.
abbrev pub MayWork : {P : Type 0} → (List ℕ → Type 0) → PlantData → LockData State → WorkerData P
    → Type 0
MayWork takes plant lock (of_panel panel) = MayServe panel.session lock panel.seat
MayWork takes plant lock (of_displays displays) =
    IsSeatOf plant lock displays.seat × TakesAll takes

-- What the worker of a panel, whose session was new, has done.
pub record HasServedPanel (plant : PlantData) (before now : PanelData) : Type 0 where
  pub number : now.number ≡ before.number
  pub named : now.acceptor.panel ≡ now.number
  pub kept : now.acceptor.opening ≡ before.acceptor.opening
  pub name : now.trace.name ≡ before.trace.name
  pub served : StandsFor plant before.number before.session nothing_yet
      → PanelServed plant before.number plant.server.turns now.done now.session before.seat
      now.seat before.acceptor now.acceptor (trace_of before.trace) (trace_of now.trace)

-- What the worker of the displays has done.
pub record HasDriven {P : Type 0} (WasSent : P → List (List ℕ) → Type 0) (faults : P → ℕ)
    (plant : PlantData) (before now : DisplayData P) : Type 0 where
  pub name : now.trace.name ≡ before.trace.name
  pub kept : now.port.opening ≡ before.port.opening
  pub driven : Driven WasSent faults plant now.end before.seat now.seat before.port.port
      now.port.port
      (trace_of before.trace) (trace_of now.trace)

-- What a worker has done.
abbrev pub HasDoneWork : {P : Type 0} → (P → List (List ℕ) → Type 0) → (P → ℕ) → PlantData
    → WorkerData P → WorkerData P → Type 0
HasDoneWork WasSent faults plant (of_panel before) (of_panel now) = HasServedPanel plant before now
HasDoneWork WasSent faults plant (of_displays before) (of_displays now) =
    HasDriven WasSent faults plant before now
HasDoneWork WasSent faults plant (of_panel before) (of_displays now) = ⊥
HasDoneWork WasSent faults plant (of_displays before) (of_panel now) = ⊥
