use Rattle.std.proofs.Common.{◌≡◌, ◌≤◌, All, length, vec_capacity}
use Rattle.panel_server.specs.ServeInside.{AreOwn, IsFreshFor, opened_acceptors}
use Rattle.panel_server.proofs.open.open_acceptors.Given as goal

-- The acceptors of the panels so far were opened, and they are new.
abbrev pub invariant-loop-number : goal.invariant-loop-number
invariant-loop-number g l = record {
  net : g.N.Net.shows l.net
      ≡ opened_acceptors l.fn.plant l.number
      (g.N.Net.shows l.fn.net);
  count : length l.acceptors.items ≡ l.number;
  fresh : All (IsFreshFor g.N.A.Acceptor.shows l.fn.plant.server)
      l.acceptors.items;
  own : AreOwn g.N.A.Acceptor.shows l.fn.plant l.acceptors.items;
  places : length l.fn.plant.panels ≤ vec_capacity l.acceptors;
}
