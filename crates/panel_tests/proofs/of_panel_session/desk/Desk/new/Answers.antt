use Rattle.panel_tests.proofs.BetweenLemmas.{between_new}
use Rattle.panel_tests.proofs.of_panel_session.desk.Desk.new.Goals as goal

pub invariant_of-result : goal.invariant_of-result
invariant_of-result c = between_new c.args.plant.now c.of.result c.in_ok-session.session c.is_one.ensures c.in_ok-session.ensures.new
