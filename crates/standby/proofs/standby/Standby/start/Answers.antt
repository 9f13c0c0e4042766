use Rattle.standby.proofs.CodeLemmas.{started}
use Rattle.standby.proofs.standby.Standby.start.Goals as goal

pub invariant_of-result : goal.invariant_of-result
invariant_of-result c =
    started c.args.plant.now c.args.window c.in_ok-start.field-0.state c.in_ok-window.window c.requires.some c.requires.most c.in_ok-start.ensures c.in_ok-window.ensures
