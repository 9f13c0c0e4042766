use Rattle.standby.proofs.CodeLemmas.{stepped}
use Rattle.standby.proofs.standby.Standby.step.Goals as goal

pub invariant_of-self : goal.invariant_of-self
invariant_of-self c = stepped (record { state = c.self.inside.replica.state; applied = c.self.inside.applied; window = c.self.inside.window }) c.step.new.self.state c.self.invariant c.step.ensures.plant
