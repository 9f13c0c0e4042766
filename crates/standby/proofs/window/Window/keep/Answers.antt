use Rattle.standby.proofs.CodeLemmas.{IsWindow-keeps}
use Rattle.standby.proofs.window.Window.keep.Goals as goal

pub invariant_of-self : goal.invariant_of-self
invariant_of-self c =
    IsWindow-keeps c.self.inside.kept c.self.inside.places.items c.args.offset c.args.request.now c.self.invariant (rw (← c.self.view_is) at c.requires)
