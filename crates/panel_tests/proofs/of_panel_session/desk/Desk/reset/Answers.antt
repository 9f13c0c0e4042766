use Rattle.panel_tests.proofs.BetweenLemmas.{between_anew}
use Rattle.panel_tests.proofs.of_panel_session.desk.Desk.reset.Goals as goal

pub invariant_of-self : goal.invariant_of-self
invariant_of-self c = between_anew c.self.inside.session c.reset.new.self c.self.inside.turns c.reset.ensures.stood c.self.invariant
