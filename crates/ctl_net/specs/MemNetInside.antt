-- The fields of a net in memory.
use Rattle.std.specs.Prelude.{◌+◌, ◌≤◌, length, vec_capacity}
use Rattle.ctl_net.specs.MemNet.{NetState, AreNewAcceptors, AreNewPorts}
use Rattle.ctl_net.specs.declared.memory.mem_net.MemNet.TheInside.{Inside}

-- the net, without where it lies in memory
abbrev pub net_state : Inside → NetState
net_state net = record {
  acceptors = net.acceptors.items;
  ports = net.ports.items;
  openings = net.openings.items;
  objects = net.objects;
  acceptors_out = net.acceptors_out;
  ports_out = net.ports_out;
  acceptors_back = net.acceptors_back.items;
  ports_back = net.ports_back.items;
  openings_room = vec_capacity net.openings;
  acceptors_room = vec_capacity net.acceptors_back;
  ports_room = vec_capacity net.ports_back;
  calls = net.calls;
  close_faults = net.close_faults;
}

-- There is room for the openings, the acceptors and the ports of all objects that were handed out or may still be.
abbrev pub OpeningsHaveRoom : Inside → Type 0
OpeningsHaveRoom net = net.objects + length net.openings.items ≤ vec_capacity net.openings

abbrev pub AcceptorsHaveRoom : Inside → Type 0
AcceptorsHaveRoom net = net.objects + net.acceptors_out + length net.acceptors_back.items
    ≤ vec_capacity net.acceptors_back

abbrev pub PortsHaveRoom : Inside → Type 0
PortsHaveRoom net = net.objects + net.ports_out + length net.ports_back.items
    ≤ vec_capacity net.ports_back

-- What is still to be handed out is new, and there is room for all that may still be told and given back.
pub record NetHasRoom (net : Inside) : Type 0 where
  pub new_acceptors : AreNewAcceptors net.acceptors.items
  pub new_ports : AreNewPorts net.ports.items
  pub openings : OpeningsHaveRoom net
  pub acceptors : AcceptorsHaveRoom net
  pub ports : PortsHaveRoom net
