use Rattle.std.proofs.Common.{◌≡◌, ◌≤◌, length, vec_capacity}
use Rattle.panel_server.specs.ServeInside.{AreSessions}
use Rattle.panel_server.proofs.room.start_sessions.Given as goal

-- The sessions so far are new.
abbrev pub invariant-loop-number : goal.invariant-loop-number
invariant-loop-number l = record {
  new : AreSessions l.fn.plant 0 l.sessions.items;
  count : length l.sessions.items ≡ l.number;
  places : l.fn.panels ≤ vec_capacity l.sessions;
}
