use Rattle.ctl_net.specs.MemNet.{AreNewAcceptors}
use Rattle.panel_tests.proofs.of_panel_server.stadium.day_of.Given as goal

abbrev pub invariant-loop-panel : goal.invariant-loop-panel
invariant-loop-panel l = AreNewAcceptors l.acceptors.items
