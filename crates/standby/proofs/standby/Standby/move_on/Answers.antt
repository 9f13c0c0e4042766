use Rattle.standby.proofs.CodeLemmas.{moved-is, moves_on}
use Rattle.standby.proofs.standby.Standby.move_on.Goals as goal

pub invariant_of-self : goal.invariant_of-self
invariant_of-self c =
    moved-is (record { state = c.self.inside.replica.state; applied = c.self.inside.applied; window = c.self.inside.window }) c.move_on.new.self c.self.invariant (rw (← c.self.view_is) at c.requires) c.move_on.ensures.window

pub returns : goal.returns
returns c =
    rw (← c.self.view_is) (moves_on (record { state = c.self.inside.replica.state; applied = c.self.inside.applied; window = c.self.inside.window }) c.move_on.result c.move_on.new.self c.self.invariant c.move_on.ensures.request c.move_on.ensures.window c.move_on.ensures.count)
