use Rattle.std.proofs.Common.{◌-◌, ◌≤◌, All, length}
use Rattle.ctl_net.specs.Net.{IsFreshAcceptor}
use Rattle.plant_config.specs.Plant.{PlantData}
use Rattle.panel_server.specs.ServeInside.{AreOwn, ComeBackFresh}
use Rattle.panel_server.proofs.open.close_acceptors.Given as goal

-- Those behind the ones that are left came back.
abbrev pub invariant-loop-acceptor : goal.invariant-loop-acceptor
invariant-loop-acceptor g l = record {
  out : length l.acceptors.items ≤ (g.N.Net.shows l.net).acceptors.out;
  fewer : length l.acceptors.items ≤ length l.fn.acceptors.items;
  fresh : All (λ acceptor. IsFreshAcceptor (g.N.A.Acceptor.shows acceptor).links (g.N.A.Acceptor.shows acceptor).next_faults (g.N.A.Acceptor.shows acceptor).done_faults)
      l.acceptors.items;
  own : (plant : PlantData) → AreOwn g.N.A.Acceptor.shows plant l.fn.acceptors.items → AreOwn g.N.A.Acceptor.shows plant l.acceptors.items;
  back : (plant : PlantData) → AreOwn g.N.A.Acceptor.shows plant l.fn.acceptors.items
      → ComeBackFresh plant (length l.fn.acceptors.items) (length l.fn.acceptors.items - length l.acceptors.items)
      (g.N.Net.shows l.fn.net)
      (g.N.Net.shows l.net);
}

abbrev pub decreases-loop-acceptor : goal.decreases-loop-acceptor
decreases-loop-acceptor g l = length l.acceptors.items
