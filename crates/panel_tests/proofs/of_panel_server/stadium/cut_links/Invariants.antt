use Rattle.ctl_net.specs.MemAcceptor.{AreNewLinks}
use Rattle.panel_tests.proofs.of_panel_server.stadium.cut_links.Given as goal

abbrev pub invariant-loop-third : goal.invariant-loop-third
invariant-loop-third l = AreNewLinks l.links.items
