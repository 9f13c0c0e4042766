-- What was done where a plant was served: what its net opened and got back, what the workers of its panels and of its displays
-- did in one closed history, and how that is counted.
use Rattle.std.specs.Prelude.{◌≡◌, ◌⊎◌, ℕ, ◌+◌, ◌<◌, ◌≤◌, ◌^◌, Bool, true, false, if◌then◌else◌, List, [], ◌∷◌, ◌++◌, length, map, filter, take, sum_by, slice_get, Option, Some, None, Result, Ok, Err, All}
use Rattle.std.specs.List.{flat_map}
use Rattle.std.specs.List.Sorted.{IsPermutation}
use Rattle.std.specs.Option.{option_map}
use mathlib.Core.List.{IsPrefix}
use Rattle.ctl_io.specs.Faults.{Rose, count_after, is_faulty, one_more}
use Rattle.ctl_io.specs.Sink.{appended}
use Rattle.ctl_net.specs.Net.{AcceptorEnd, IsFreshAcceptor, IsFreshPort, ends_faulty, port_end}
pub use Rattle.ctl_net.specs.Net.{NetData}
use Rattle.ctl_net.specs.declared.opening.Opening.{Opening}
use Rattle.ctl_net.specs.declared.opening.Opening.TheVariants.{Acceptor, Display}
use Rattle.history_lock.specs.Calls.{HasOwn}
use Rattle.history_lock.specs.Closing.{FullByTicket}
use Rattle.history_lock.specs.History.{IsLegal}
use Rattle.history_lock.specs.Locks.{LockData, new_seat}
use Rattle.plant_config.specs.Plant.{PlantData}
use Rattle.plant_config.specs.declared.records.Panel.{Panel}
use Rattle.plant_core.specs.State.{State, start, Fits as Takes}
use Rattle.plant_core.specs.Step.{step}
use Rattle.plant_file.specs.declared.entries.Server.{Server}
use Rattle.panel_session.specs.declared.session.Session.{Session}
use Rattle.panel_session.specs.Entry.{PlantEntry}
use Rattle.panel_session.specs.Served.{PlantSeat, TraceData}
use Rattle.panel_session.specs.Reply.{trace_line}
use Rattle.panel_server.specs.declared.displays.DriverEnd.{DriverEnd}
use Rattle.panel_server.specs.declared.displays.DriverEnd.TheVariants as ends
use Rattle.panel_server.specs.declared.panel.PanelDone.{PanelDone}
use Rattle.panel_server.specs.declared.plant.PlantDone.{PlantDone}
use Rattle.panel_server.specs.declared.plant.ServeFault.{ServeFault}
use Rattle.panel_server.specs.declared.plant.ServeFault.TheVariants.{NoMemory, NetFault}
use Rattle.panel_server.specs.Driven.{Driven, ends_by_trace}
use Rattle.panel_server.specs.PanelServed.{PanelServed, all_returned}

-- what is opened for panels, of which the first has this number: the acceptor of each, at its own port
abbrev pub acceptor_openings : Server → ℕ → List Panel → List Opening
acceptor_openings server number [] = []
acceptor_openings server number (panel ∷ later) =
    Acceptor number server.listen panel.port server.sessions server.idle_ms
    ∷ acceptor_openings server (number + 1) later

-- what is opened to serve a plant: the acceptors in the order of the panels, and then the port to its displays
abbrev pub openings_of : PlantData → List Opening
openings_of plant =
    acceptor_openings plant.server 0 plant.panels ++ Display plant.server.display ∷ []

-- these openings were made behind the former ones, where they are shown
abbrev pub opened_all : List Opening → Option (List Opening) → Option (List Opening)
opened_all openings shown = option_map (λ former. former ++ openings) shown

-- a net's count of objects that came back with faults, once these acceptors came back
abbrev pub faulty_back : List AcceptorEnd → ℕ → ℕ
faulty_back [] count = count
faulty_back (one ∷ later) count =
    faulty_back later (count_after (ends_faulty one.next_faults one.done_faults) count)

-- A seat is one of those of a closed history: what it has seen is a front of that, the history has no entries of its number
-- but those, and if it last found that the history has no place there are 2^62 entries.
pub record IsSeatIn (past : List PlantEntry) (seat : PlantSeat) : Type 0 where
  pub seen : IsPrefix seat.seen past
  pub own : HasOwn past seat
  pub full : FullByTicket (length past) seat

-- What the worker of one panel did in the history of this lock, from a new seat and a new acceptor of at most as many sessions
-- as the plant says: the acceptor and the trace that were handed back show it. The acceptor is the panel's own: it was made by
-- the opening that is listed for the panel, and that same one was given back, with the panel's number.
pub record PanelRun (plant : PlantData) (lock : LockData State) (past : List PlantEntry)
    : Type 0 where
  pub panel : ℕ
  pub done : PanelDone
  pub session_then : Session
  pub seat_then : PlantSeat
  pub acceptor : AcceptorEnd
  pub acceptor_then : AcceptorEnd
  pub trace : TraceData
  pub trace_then : TraceData
  pub new : IsFreshAcceptor acceptor.links acceptor.next_faults acceptor.done_faults
  pub most : acceptor.sessions ≤ plant.server.sessions
  pub own : acceptor.opening ≡ slice_get (acceptor_openings plant.server 0 plant.panels) panel
  pub kept : acceptor_then.opening ≡ acceptor.opening
  pub named : acceptor_then.panel ≡ panel
  pub served : PanelServed plant panel plant.server.turns done session_then
      (new_seat lock.id (start plant) panel) seat_then acceptor acceptor_then trace
      trace_then
  pub seat_in : IsSeatIn past seat_then

-- What the worker of the displays did in it, from the seat behind those of the panels and a new port, which shows the opening
-- to the address of the plant's displays.
pub record DisplayRun {P : Type 0} (WasSent : P → List (List ℕ) → Type 0) (faults : P → ℕ)
    (plant : PlantData) (lock : LockData State) (past : List PlantEntry) : Type 0 where
  pub end : DriverEnd
  pub seat_then : PlantSeat
  pub opening : Option Opening
  pub port : P
  pub port_then : P
  pub trace : TraceData
  pub trace_then : TraceData
  pub new : IsFreshPort (WasSent port) (faults port)
  pub own : opening ≡ Some (Display plant.server.display)
  pub driven : Driven WasSent faults plant end
      (new_seat lock.id (start plant) (length plant.panels)) seat_then port port_then trace
      trace_then
  pub seat_in : IsSeatIn past seat_then

-- A plant was served, from what a net and the traces showed to what they show now, and this is the closed history.
pub record PlantServed {P : Type 0} (WasSent : P → List (List ℕ) → Type 0) (faults : P → ℕ)
    (plant : PlantData) (past : List PlantEntry) (net net_then : NetData P)
    (traces traces_then : List TraceData) : Type 0 where
  pub lock : LockData State
  -- Each panel had a worker, in the order of their numbers, and the displays had one.
  pub panels : List (PanelRun plant lock past)
  pub displays : DisplayRun WasSent faults plant lock past
  pub counted : length panels ≡ length plant.panels
  pub numbered : (k : ℕ) (run : PanelRun plant lock past)
      → slice_get panels k ≡ Some run → run.panel ≡ k
  -- The history is legal from the start of the plant, and its entries are those of their seats.
  pub legal : IsLegal step Takes (start plant) past
  pub few : length past ≤ 2 ^ 62
  pub by_seats : All (λ entry. entry.seat < length plant.panels + 1) past
  -- All was opened, and each acceptor and the port came back, with what they show of their worker.
  pub openings : net_then.openings ≡ opened_all (openings_of plant) net.openings
  pub acceptors : net_then.acceptors
      ≡ all_returned (map (λ run. run.acceptor_then) panels) net.acceptors
  pub port : net_then.ports
      ≡ all_returned (port_end displays.opening displays.port_then ∷ []) net.ports
  pub open_count : net_then.open_faults ≡ net.open_faults
  pub close_count : net_then.close_faults
      ≡ count_after (is_faulty (faults displays.port_then))
      (faulty_back (map (λ run. run.acceptor_then) panels) net.close_faults)
  -- The traces are those of the panels, in their order, and last that of the displays.
  pub traces_were : traces ≡ map (λ run. run.trace) panels ++ displays.trace ∷ []
  pub traces_are : traces_then ≡ map (λ run. run.trace_then) panels ++ displays.trace_then ∷ []

-- how many packets the worker of the displays lost, where it ended so
abbrev pub lost_at : DriverEnd → ℕ
lost_at (ends.Finished sent failed) = failed
lost_at other = 0

-- whether it ended by the limit of the history, and whether it had no memory
abbrev pub ends_full : DriverEnd → Bool
ends_full ends.Full = true
ends_full other = false

abbrev pub ends_unborn : DriverEnd → Bool
ends_unborn ends.NoMemory = true
ends_unborn other = false

-- the place of the first that is true, counted on from this one
abbrev pub first_true : ℕ → List Bool → Option ℕ
first_true place [] = None
first_true place (true ∷ later) = Some place
first_true place (false ∷ later) = first_true (place + 1) later

-- of each trace, in their order, whether a write of it failed
abbrev pub trace_failures : {P : Type 0} {WasSent : P → List (List ℕ) → Type 0} {faults : P → ℕ}
    {plant : PlantData} {lock : LockData State} {past : List PlantEntry}
    → List (PanelRun plant lock past) → DisplayRun WasSent faults plant lock past → List Bool
trace_failures panels displays =
    map (λ run. run.done.trace_failed) panels ++ ends_by_trace displays.end ∷ []

-- What the workers did is counted so: the sessions; the entries of the history; the ends by a limit; the faults of the net,
-- which are the sessions that ended by a fault of their link, the acceptors that refused one and the packets that were lost;
-- and the traces of which a write failed, with the first of them.
pub record AreCounted {P : Type 0} {WasSent : P → List (List ℕ) → Type 0} {faults : P → ℕ}
    {plant : PlantData} {lock : LockData State} {past : List PlantEntry}
    (panels : List (PanelRun plant lock past))
    (displays : DisplayRun WasSent faults plant lock past) (done : PlantDone) : Type 0 where
  pub sessions : done.sessions ≡ sum_by (λ run. run.done.sessions) panels
  pub entries : done.entries ≡ length past
  pub past_is : done.past ≡ past
  pub limits : done.limits ≡ sum_by (λ run. run.done.limits) panels
      + (if ends_full displays.end then 1 else 0)
  pub net_faults : done.net_faults
      ≡ sum_by (λ run. run.done.link_faults) panels
      + length (filter (λ run. run.done.refused) panels) + lost_at displays.end
  pub trace_faults : done.trace_faults
      ≡ length (filter (λ failed. failed) (trace_failures panels displays))
  pub failed_trace : done.failed_trace ≡ first_true 0 (trace_failures panels displays)

-- An opening was refused: those before it were made, and the acceptors that they opened came back as they were, the last one
-- first, each with the number of its panel.
pub record RefusesOpening {P : Type 0} (plant : PlantData) (net net_then : NetData P) : Type 0 where
  pub count : ℕ
  pub back : List AcceptorEnd
  pub fewer : count < length (openings_of plant)
  pub openings : net_then.openings ≡ opened_all (take count (openings_of plant)) net.openings
  pub acceptors : net_then.acceptors ≡ all_returned back net.acceptors
  pub counted : length back ≡ count
  pub fresh : (k : ℕ) (one : AcceptorEnd) → slice_get back k ≡ Some one
      → (one.panel + (k + 1) ≡ count)
      × IsFreshAcceptor one.links one.next_faults one.done_faults
      × (one.opening ≡ slice_get (acceptor_openings plant.server 0 plant.panels) one.panel)
  pub ports : net_then.ports ≡ net.ports
  pub open_count : net_then.open_faults ≡ one_more net.open_faults
  pub close_count : net_then.close_faults ≡ net.close_faults

-- The plant was served, the worker of its displays had memory, and the answer counts what was done.
pub record IsServed {P : Type 0} (WasSent : P → List (List ℕ) → Type 0) (faults : P → ℕ)
    (plant : PlantData) (net net_then : NetData P) (traces traces_then : List TraceData)
    (done : PlantDone) : Type 0 where
  pub served : PlantServed WasSent faults plant done.past net net_then traces traces_then
  pub driven : ends_unborn served.displays.end ≡ false
  pub counted : AreCounted served.panels served.displays done
  pub cause : 0 < done.net_faults → Rose net.close_faults net_then.close_faults

-- Nothing was done.
abbrev pub IsUntouched : {P : Type 0} → NetData P → NetData P → List TraceData → List TraceData
    → Type 0
IsUntouched net net_then traces traces_then = (net_then ≡ net) × (traces_then ≡ traces)

-- All was done but what the worker of the displays does, which had no memory.
pub record IsUndriven {P : Type 0} (WasSent : P → List (List ℕ) → Type 0) (faults : P → ℕ)
    (plant : PlantData) (net net_then : NetData P) (traces traces_then : List TraceData)
    : Type 0 where
  pub past : List PlantEntry
  pub served : PlantServed WasSent faults plant past net net_then traces traces_then
  pub undriven : ends_unborn served.displays.end ≡ true

-- How a plant was served, by the answer. There was no memory to begin with, or none for the displays; or an opening was
-- refused, and nothing was served.
abbrev pub ServedSo : {P : Type 0} → (P → List (List ℕ) → Type 0) → (P → ℕ) → PlantData
    → NetData P → NetData P → List TraceData → List TraceData → Result PlantDone ServeFault
    → Type 0
ServedSo WasSent faults plant net net_then traces traces_then (Ok done) =
    IsServed WasSent faults plant net net_then traces traces_then done
ServedSo WasSent faults plant net net_then traces traces_then (Err NoMemory) =
    IsUntouched net net_then traces traces_then
    ⊎ IsUndriven WasSent faults plant net net_then traces traces_then
ServedSo WasSent faults plant net net_then traces traces_then (Err NetFault) =
    RefusesOpening plant net net_then × (traces_then ≡ traces)

-- the lines of entries, of which the first stands at this position
abbrev pub lines_of : PlantData → ℕ → List PlantEntry → List (List ℕ)
lines_of plant position [] = []
lines_of plant position (entry ∷ later) =
    trace_line plant position entry.request entry.answers ∷ lines_of plant (position + 1) later

-- what a trace shows, with these lines behind it
abbrev pub with_lines : TraceData → List (List ℕ) → Option (List ℕ)
with_lines trace lines = appended trace.written (flat_map (λ line. line) lines)

-- Traces share the lines of a history: each has some of them more, and together these are those of all entries, each once.
pub record ShareLines (plant : PlantData) (past : List PlantEntry)
    (traces traces_then : List TraceData) : Type 0 where
  pub lines : List (List (List ℕ))
  pub counted : length lines ≡ length traces
  pub each : (k : ℕ) (trace trace_then : TraceData) (some : List (List ℕ))
      → slice_get traces k ≡ Some trace → slice_get traces_then k ≡ Some trace_then
      → slice_get lines k ≡ Some some → trace_then.written ≡ with_lines trace some
  pub once : IsPermutation (lines_of plant 0 past) (flat_map (λ some. some) lines)
