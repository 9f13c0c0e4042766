-- How a plant is served, step by step: what is taken and opened first, how the workers are made of it, and what becomes of it.
use Rattle.std.specs.Prelude.{◌≡◌, ℕ, ◌+◌, ◌-◌, ◌*◌, ◌<◌, ◌≤◌, ◌^◌, Bool, true, false, if◌then◌else◌, List, [], ◌∷◌, length, take, slice_get, vec_capacity, Option, Some, None, Result, Ok, Err, All}
use Rattle.ctl_io.specs.Custody.{Custody, SinkEnd, lent, returned}
use Rattle.ctl_io.specs.Faults.{count_after, is_faulty, one_more}
use Rattle.ctl_net.specs.Acceptor.{AcceptorData}
use Rattle.ctl_net.specs.Net.{AcceptorEnd, IsFreshAcceptor, PortEnd, acceptor_end, ends_faulty}
use Rattle.ctl_net.specs.declared.opening.Opening.TheVariants.{Acceptor, Display}
use Rattle.history_lock.specs.Locks.{AreNew, IsLockOf}
use Rattle.plant_config.specs.IsPlant.{IsPlant}
use Rattle.plant_config.specs.Plant.{PlantData}
use Rattle.plant_core.specs.State.{start}
use Rattle.plant_file.specs.declared.entries.Server.{Server}
use Rattle.panel_session.specs.declared.session.Session.{Session}
use Rattle.panel_session.specs.Entry.{PlantEntry}
use Rattle.panel_session.specs.Served.{PlantSeat}
use Rattle.panel_session.specs.Session.{StandsFor}
use Rattle.panel_session.specs.SoFar.{nothing_yet}
use Rattle.panel_server.specs.declared.displays.DriverEnd.{DriverEnd}
use Rattle.panel_server.specs.declared.displays.DriverEnd.TheVariants.{NoMemory}
use Rattle.panel_server.specs.declared.panel.PanelDone.{PanelDone}
use Rattle.panel_server.specs.declared.room.Lists.{Lists}
use Rattle.panel_server.specs.declared.room.ServeRoom.{ServeRoom}
use Rattle.panel_server.specs.declared.plant.PlantDone.{PlantDone}
use Rattle.panel_server.specs.declared.plant.ServeFault.{ServeFault}
use Rattle.panel_server.specs.declared.plant.ServeFault.TheVariants as faults
use Rattle.panel_server.specs.declared.sums.Sums.{Sums}
use Rattle.panel_server.specs.Driven.{ends_by_trace}
use Rattle.panel_server.specs.PanelServed.{all_returned}
use Rattle.panel_server.specs.PlantServed.{NetData, acceptor_openings, ends_full, ends_unborn, lost_at, opened_all}
use Rattle.panel_server.specs.Workers.{WorkerData, of_panel, of_displays}

-- The sessions are new, one of each panel from this number on.
abbrev pub AreSessions : PlantData → ℕ → List Session → Type 0
AreSessions plant number [] = Unit {0}
AreSessions plant number (session ∷ later) =
    StandsFor plant number session nothing_yet × AreSessions plant (number + 1) later

-- The lists are empty, and have places for so many panels and the displays.
pub record HasPlaces {A P K : Type 0} (panels : ℕ) (lists : Lists A P K) : Type 0 where
  pub no_acceptors : lists.acceptors.items ≡ []
  pub no_workers : lists.workers.items ≡ []
  pub no_seats : lists.seats.items ≡ []
  pub no_traces : lists.traces.items ≡ []
  pub acceptors : panels ≤ vec_capacity lists.acceptors
  pub workers : panels + 1 ≤ vec_capacity lists.workers
  pub seats : panels + 1 ≤ vec_capacity lists.seats
  pub traces : panels + 1 ≤ vec_capacity lists.traces

-- The lock has the start of the plant, and a new seat for each panel and one for the displays. Each panel has a new session.
pub record IsRoomFor {A P K : Type 0} (plant : PlantData) (room : ServeRoom A P K) : Type 0 where
  pub is_plant : IsPlant plant
  pub lock : IsLockOf (start plant) (length plant.panels + 1) room.lock
  pub seats : AreNew room.lock.id (start plant) (length plant.panels + 1) room.seats.items
  pub seat_count : length room.seats.items ≡ length plant.panels + 1
  pub sessions : AreSessions plant 0 room.sessions.items
  pub session_count : length room.sessions.items ≡ length plant.panels
  pub places : HasPlaces (length plant.panels) room.lists

-- Nothing is in the lists that must be given back.
pub record IsEmptied {A P K : Type 0} (room : ServeRoom A P K) : Type 0 where
  pub no_acceptors : room.lists.acceptors.items ≡ []
  pub no_workers : room.lists.workers.items ≡ []
  pub no_traces : room.lists.traces.items ≡ []

-- so many more were handed out
abbrev pub lent_times : {Shown : Type 0} → ℕ → Custody Shown → Custody Shown
lent_times count custody = record custody { out = custody.out + count }

-- a net once it opened the acceptor of a panel, and once it refused an opening
abbrev pub with_acceptor : {P : Type 0} → Server → ℕ → ℕ → NetData P → NetData P
with_acceptor server number port net = record net {
  openings = opened_all
      (Acceptor number server.listen port server.sessions server.idle_ms ∷ []) net.openings;
  acceptors = lent net.acceptors;
}

abbrev pub with_refusal : {P : Type 0} → NetData P → NetData P
with_refusal net = record net { open_faults = one_more net.open_faults }

-- a net once it opened the acceptors of the panels below this number
abbrev pub opened_acceptors : {P : Type 0} → PlantData → ℕ → NetData P → NetData P
opened_acceptors plant count net = record net {
  openings = opened_all (take count (acceptor_openings plant.server 0 plant.panels)) net.openings;
  acceptors = lent_times count net.acceptors;
}

-- the same once it then opened the port to the displays
abbrev pub with_port : {P : Type 0} → Server → NetData P → NetData P
with_port server net = record net {
  openings = opened_all (Display server.display ∷ []) net.openings;
  ports = lent net.ports;
}

-- a net once an acceptor, or a port, was given back that shows this
abbrev pub with_closed : {P : Type 0} → AcceptorEnd → NetData P → NetData P
with_closed end net = record net {
  acceptors = returned end net.acceptors;
  close_faults = count_after (ends_faulty end.next_faults end.done_faults) net.close_faults;
}

abbrev pub with_closed_port : {P : Type 0} → (P → ℕ) → PortEnd P → NetData P → NetData P
with_closed_port faults port net = record net {
  ports = returned port net.ports;
  close_faults = count_after (is_faulty (faults port.port)) net.close_faults;
}

-- So many acceptors were opened, and the next opening was refused.
abbrev pub WasRefused : {P : Type 0} → PlantData → ℕ → NetData P → NetData P → Type 0
WasRefused plant count net net_then = net_then ≡ with_refusal (opened_acceptors plant count net)

-- An acceptor is new, and has at most as many sessions as the plant says.
pub record IsFreshFor {A : Type 0} (shows : A → AcceptorData) (server : Server) (acceptor : A)
    : Type 0 where
  pub fresh : IsFreshAcceptor (shows acceptor).links (shows acceptor).next_faults
      (shows acceptor).done_faults
  pub most : (shows acceptor).sessions ≤ server.sessions

-- The acceptors are those of the first panels, in their order: each was made by the opening that is listed for its panel.
abbrev pub AreOwn : {A : Type 0} → (A → AcceptorData) → PlantData → List A → Type 0
AreOwn {A} shows plant acceptors = (k : ℕ) (acceptor : A) → slice_get acceptors k ≡ Some acceptor
    → (shows acceptor).opening ≡ slice_get (acceptor_openings plant.server 0 plant.panels) k

-- It is room for a plant whose acceptors were opened.
pub record IsOpenedFor {A P K : Type 0} (shows : A → AcceptorData) (plant : PlantData)
    (room : ServeRoom A P K) : Type 0 where
  pub is_plant : IsPlant plant
  pub lock : IsLockOf (start plant) (length plant.panels + 1) room.lock
  pub seats : AreNew room.lock.id (start plant) (length plant.panels + 1) room.seats.items
  pub seat_count : length room.seats.items ≡ length plant.panels + 1
  pub new_sessions : AreSessions plant 0 room.sessions.items
  pub session_count : length room.sessions.items ≡ length plant.panels
  pub acceptors : All (IsFreshFor shows plant.server) room.lists.acceptors.items
  pub acceptor_count : length room.lists.acceptors.items ≡ length plant.panels
  pub own : AreOwn shows plant room.lists.acceptors.items
  pub no_workers : room.lists.workers.items ≡ []
  pub no_seats : room.lists.seats.items ≡ []
  pub no_traces : room.lists.traces.items ≡ []
  pub workers : length plant.panels + 1 ≤ vec_capacity room.lists.workers
  pub seat_places : length plant.panels + 1 ≤ vec_capacity room.lists.seats
  pub traces : length plant.panels + 1 ≤ vec_capacity room.lists.traces

-- Of the acceptors of the panels below a count, so many came back as they were, the last one first.
pub record ComeBackFresh {P : Type 0} (plant : PlantData) (count some : ℕ)
    (net net_then : NetData P) : Type 0 where
  pub back : List AcceptorEnd
  pub counted : length back ≡ some
  pub each : (k : ℕ) (one : AcceptorEnd) → slice_get back k ≡ Some one
      → (one.panel + (k + 1) ≡ count)
      × IsFreshAcceptor one.links one.next_faults one.done_faults
      × (one.opening ≡ slice_get (acceptor_openings plant.server 0 plant.panels) one.panel)
  pub net_is : net_then ≡ record net {
    acceptors = record (all_returned back net.acceptors) { out = net.acceptors.out - some };
  }

-- what acceptors show, of which the first is of the panel of this number
abbrev pub ends_from : {A : Type 0} → (A → AcceptorData) → ℕ → List A → List AcceptorEnd
ends_from shows number [] = []
ends_from shows number (acceptor ∷ later) =
    acceptor_end number (shows acceptor) ∷ ends_from shows (number + 1) later

-- what a worker of a panel has done that did nothing yet
abbrev pub nothing_done : PanelDone
nothing_done = record {
  sessions = 0;
  link_faults = 0;
  limits = 0;
  refused = false;
  trace_failed = false;
}

-- the workers of the panels from this number on, each with the next session, seat, acceptor and trace, and last that of the
-- displays with the last seat and trace and the port
abbrev pub crew : {P : Type 0} → ℕ → List Session → List PlantSeat → List AcceptorEnd
    → List SinkEnd → PortEnd P → List (WorkerData P)
crew number (session ∷ sessions) (seat ∷ seats) (acceptor ∷ acceptors) (trace ∷ traces) port =
    of_panel (record {
      number = number;
      session = session;
      seat = seat;
      acceptor = acceptor;
      trace = trace;
      done = nothing_done;
    }) ∷ crew (number + 1) sessions seats acceptors traces port
crew number [] (seat ∷ seats) [] (trace ∷ traces) port =
    of_displays (record { seat = seat; port = port; trace = trace; end = NoMemory }) ∷ []
crew number [] [] acceptors traces port = []
crew number [] (seat ∷ seats) [] [] port = []
crew number [] (seat ∷ seats) (acceptor ∷ acceptors) traces port = []
crew number (session ∷ sessions) [] acceptors traces port = []
crew number (session ∷ sessions) (seat ∷ seats) [] traces port = []
crew number (session ∷ sessions) (seat ∷ seats) (acceptor ∷ acceptors) [] port = []

-- An acceptor, or a port, is out that a worker may give back.
abbrev pub MayGiveBack : {P : Type 0} → WorkerData P → NetData P → Type 0
MayGiveBack (of_panel panel) net = 0 < net.acceptors.out
MayGiveBack (of_displays displays) net = 0 < net.ports.out

-- a net once a worker gave it back what it had
abbrev pub given_back : {P : Type 0} → (P → ℕ) → WorkerData P → NetData P → NetData P
given_back faults (of_panel panel) net = with_closed panel.acceptor net
given_back faults (of_displays displays) net = with_closed_port faults displays.port net

-- the same of all workers, one after another
abbrev pub after_all : {P : Type 0} → (P → ℕ) → List (WorkerData P) → NetData P → NetData P
after_all faults [] net = net
after_all faults (worker ∷ later) net = after_all faults later (given_back faults worker net)

-- Each may give back what it has, once those before it did.
abbrev pub MayGiveAll : {P : Type 0} → (P → ℕ) → List (WorkerData P) → NetData P → Type 0
MayGiveAll faults [] net = Unit {0}
MayGiveAll faults (worker ∷ later) net =
    MayGiveBack worker net × MayGiveAll faults later (given_back faults worker net)

abbrev pub no_sums : Sums
no_sums = record {
  sessions = 0;
  limits = 0;
  net_faults = 0;
  trace_faults = 0;
  failed_trace = None;
  end = NoMemory;
}

-- one more where it is so
abbrev pub one_if : Bool → ℕ
one_if so = if so then 1 else 0

-- the first place at which a write of the trace failed, once one more was looked at
abbrev pub first_failure : Option ℕ → ℕ → Bool → Option ℕ
first_failure (Some first) place failed = Some first
first_failure None place true = Some place
first_failure None place false = None

-- the sums with a trace at this place, with the worker of a panel, and with that of the displays
abbrev pub with_failure : ℕ → Bool → Sums → Sums
with_failure place failed sums = record sums {
  trace_faults = sums.trace_faults + one_if failed;
  failed_trace = first_failure sums.failed_trace place failed;
}

abbrev pub with_panel : ℕ → PanelDone → Sums → Sums
with_panel place done sums = with_failure place done.trace_failed (record sums {
  sessions = sums.sessions + done.sessions;
  limits = sums.limits + done.limits;
  net_faults = sums.net_faults + (done.link_faults + one_if done.refused);
})

abbrev pub with_end : ℕ → DriverEnd → Sums → Sums
with_end place end sums = with_failure place (ends_by_trace end) (record sums {
  limits = sums.limits + one_if (ends_full end);
  end = end;
})

abbrev pub with_worker : {P : Type 0} → ℕ → WorkerData P → Sums → Sums
with_worker place (of_panel panel) sums = with_panel place panel.done sums
with_worker place (of_displays displays) sums = with_end place displays.end sums

-- the sums with workers of which the first has this place
abbrev pub sums_from : {P : Type 0} → ℕ → List (WorkerData P) → Sums → Sums
sums_from place [] sums = sums
sums_from place (worker ∷ later) sums =
    sums_from (place + 1) later (with_worker place worker sums)

-- the most sessions of a panel, of which sums are made
abbrev pub sum_limit : ℕ
sum_limit = 2 ^ 32

-- There is room for the sums of workers up to this place.
pub record AreFew (place : ℕ) (sums : Sums) : Type 0 where
  pub sessions : sums.sessions ≤ place * sum_limit
  pub limits : sums.limits ≤ place * sum_limit
  pub net_faults : sums.net_faults ≤ place * sum_limit
  pub trace_faults : sums.trace_faults ≤ place

-- The worker of a panel counted no more than its most sessions.
pub record IsFewDone (done : PanelDone) : Type 0 where
  pub sessions : done.sessions < sum_limit
  pub limits : done.limits < sum_limit
  pub link_faults : done.link_faults < sum_limit

-- So it is with a worker, if it is that of a panel.
abbrev pub CountsFew : {P : Type 0} → WorkerData P → Type 0
CountsFew (of_panel panel) = IsFewDone panel.done
CountsFew (of_displays displays) = Unit {0}

-- what the answer says of the sums, once the history is closed
abbrev pub sums_answer : Sums → ℕ → List PlantEntry → Result PlantDone ServeFault
sums_answer sums entries past = if ends_unborn sums.end then Err faults.NoMemory else Ok (record {
  sessions = sums.sessions;
  entries = entries;
  limits = sums.limits;
  net_faults = sums.net_faults + lost_at sums.end;
  trace_faults = sums.trace_faults;
  failed_trace = sums.failed_trace;
  past = past;
})
