-- The fields of an acceptor in memory.
use Rattle.std.specs.Prelude.{◌+◌, ◌^◌, ◌≤◌, length, vec_capacity}
use Rattle.ctl_net.specs.MemAcceptor.{AcceptorState, AreNewLinks}
use Rattle.ctl_net.specs.declared.memory.mem_acceptor.MemAcceptor.TheInside.{Inside}

-- the acceptor, without where it lies in memory
abbrev pub acceptor_state : Inside → AcceptorState
acceptor_state acceptor = record {
  opening = acceptor.opening;
  waiting = acceptor.waiting.items;
  sessions = acceptor.sessions;
  objects = acceptor.objects;
  out = acceptor.out;
  back = acceptor.back.items;
  room = vec_capacity acceptor.back;
  calls = acceptor.calls;
  done_faults = acceptor.done_faults;
}

-- There is room for all links that were given back, are out, or may still be handed out.
abbrev pub RoomForBack : Inside → Type 0
RoomForBack acceptor =
    acceptor.objects + acceptor.out + length acceptor.back.items ≤ vec_capacity acceptor.back

-- What is still to be handed out is new, there is room for all that may still be given back, and there aren't too many
-- sessions.
pub record BackHasRoom (acceptor : Inside) : Type 0 where
  pub new_links : AreNewLinks acceptor.waiting.items
  pub room : RoomForBack acceptor
  pub few : acceptor.sessions ≤ 2 ^ 63
