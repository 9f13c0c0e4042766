-- What a net in memory holds, and what it answers.
use Rattle.std.specs.Prelude.{ℕ, ◌+◌, ◌-◌, ◌==◌, Bool, ◌||◌, List, [], ◌∷◌, ◌++◌, map, drop, min, slice_get, Option, Some, None, if◌then◌else◌}
use Rattle.std.specs.List.{AllByRecursion}
use Rattle.std.specs.Option.{option_map, option_map_or}
use Rattle.ctl_io.specs.Calls.{Calls, next_fails, called, uncalled}
use Rattle.ctl_io.specs.Custody.{Custody}
use Rattle.ctl_io.specs.Faults.{count_after, is_faulty}
use Rattle.ctl_net.specs.MemAcceptor.{AcceptorState, IsNewAcceptor, opened_as, shown_acceptor}
use Rattle.ctl_net.specs.MemPort.{PortState, IsNewPort, opened_to}
use Rattle.ctl_net.specs.Net.{AcceptorEnd, NetData, PortEnd, acceptor_end, port_end, is_refused, ends_faulty}
use Rattle.ctl_net.specs.declared.memory.closed_acceptor.ClosedAcceptor.{ClosedAcceptor}
use Rattle.ctl_net.specs.declared.opening.Opening.{Opening}

-- A net in memory: the acceptors and the ports that weren't handed out yet, the openings that handed one out, how many
-- objects may still be handed out, how many are out, those that were given back, for how many it has taken the memory, the
-- calls that open, and the count of objects that were given back with faults.
pub record NetState : Type 0 where
  pub acceptors : List AcceptorState
  pub ports : List PortState
  pub openings : List Opening
  pub objects : ℕ
  pub acceptors_out : ℕ
  pub ports_out : ℕ
  pub acceptors_back : List ClosedAcceptor
  pub ports_back : List PortState
  pub openings_room : ℕ
  pub acceptors_room : ℕ
  pub ports_room : ℕ
  pub calls : Calls
  pub close_faults : ℕ

-- a net of these acceptors and ports that was asked to open nothing yet
abbrev pub unopened : List AcceptorState → List PortState → ℕ → List ℕ → NetState
unopened acceptors ports objects failing = record {
  acceptors = acceptors;
  ports = ports;
  openings = [];
  objects = objects;
  acceptors_out = 0;
  ports_out = 0;
  acceptors_back = [];
  ports_back = [];
  openings_room = objects;
  acceptors_room = objects;
  ports_room = objects;
  calls = uncalled failing;
  close_faults = 0;
}

-- whether the next opening is refused, whatever it asks for: its number is listed, or no object may be handed out any more
abbrev pub opens_none : NetState → Bool
opens_none net = next_fails net.calls || (net.objects == 0)

-- what an opening of a kind finds: the first object of that kind that waits
abbrev pub found : {A : Type 0} → NetState → List A → Option A
found net waiting = if opens_none net then None else slice_get waiting 0

-- what the opening of an acceptor for so many sessions answers: it has no more left, and the opening is its own
abbrev pub acceptor_answer : NetState → Opening → ℕ → Option AcceptorState
acceptor_answer net opening sessions =
    option_map (opened_as opening sessions) (found net net.acceptors)

-- what the opening of a port answers: the opening is its own
abbrev pub port_answer : NetState → Opening → Option PortState
port_answer net opening = option_map (opened_to opening) (found net net.ports)

-- how many sessions the next acceptor has that is opened for so many: of the first that waits as many as it has left, and no
-- more than these
abbrev pub sessions_for : NetState → ℕ → ℕ
sessions_for net sessions =
    option_map_or (λ (acceptor : AcceptorState). min acceptor.sessions sessions)
    (slice_get net.acceptors 0) sessions

-- the net without the acceptor, or the port, that is handed out, with its opening
abbrev pub without_acceptor : Option AcceptorState → Opening → NetState → NetState
without_acceptor (Some acceptor) opening net = record net {
  acceptors = drop 1 net.acceptors;
  openings = net.openings ++ opening ∷ [];
  objects = net.objects - 1;
  acceptors_out = net.acceptors_out + 1;
}
without_acceptor None opening net = net

abbrev pub without_port : Option PortState → Opening → NetState → NetState
without_port (Some port) opening net = record net {
  ports = drop 1 net.ports;
  openings = net.openings ++ opening ∷ [];
  objects = net.objects - 1;
  ports_out = net.ports_out + 1;
}
without_port None opening net = net

-- the net after such an answer
abbrev pub after_acceptor : Option AcceptorState → Opening → NetState → NetState
after_acceptor answer opening net =
    record (without_acceptor answer opening net) { calls = called (is_refused answer) net.calls }

abbrev pub after_port : Option PortState → Opening → NetState → NetState
after_port answer opening net =
    record (without_port answer opening net) { calls = called (is_refused answer) net.calls }

-- the net after the acceptor of a panel was given back
abbrev pub after_close_acceptor : ClosedAcceptor → NetState → NetState
after_close_acceptor closed net = record net {
  acceptors_out = net.acceptors_out - 1;
  acceptors_back = net.acceptors_back ++ closed ∷ [];
  close_faults = count_after
      (ends_faulty closed.acceptor.calls.faults closed.acceptor.done_faults) net.close_faults;
}

-- the net after a port was given back
abbrev pub after_close_port : PortState → NetState → NetState
after_close_port port net = record net {
  ports_out = net.ports_out - 1;
  ports_back = net.ports_back ++ port ∷ [];
  close_faults = count_after (is_faulty port.calls.faults) net.close_faults;
}

-- what an acceptor that was given back showed
abbrev pub closed_end : ClosedAcceptor → AcceptorEnd
closed_end closed = acceptor_end closed.panel (shown_acceptor closed.acceptor)

-- what a port that was given back showed
abbrev pub closed_port : PortState → PortEnd PortState
closed_port port = port_end port.opening port

-- the custody of its acceptors, and of its ports
abbrev pub acceptors_of : NetState → Custody AcceptorEnd
acceptors_of net =
    record { out = net.acceptors_out; back = Some (map closed_end net.acceptors_back) }

abbrev pub ports_of : NetState → Custody (PortEnd PortState)
ports_of net = record { out = net.ports_out; back = Some (map closed_port net.ports_back) }

-- what it shows
abbrev pub shown_net : NetState → NetData PortState
shown_net net = record {
  openings = Some net.openings;
  acceptors = acceptors_of net;
  ports = ports_of net;
  open_faults = net.calls.faults;
  close_faults = net.close_faults;
}

-- No call was made of the acceptors.
abbrev pub AreNewAcceptors : List AcceptorState → Type 0
AreNewAcceptors acceptors = AllByRecursion IsNewAcceptor acceptors

-- No call was made of the ports.
abbrev pub AreNewPorts : List PortState → Type 0
AreNewPorts ports = AllByRecursion IsNewPort ports
