use Rattle.salvo_groups.proofs.AllGroups.{AreGroups-clear}
use Rattle.salvo_groups.proofs.groups.Groups.clear.Goals as goal

pub invariant_of-self : goal.invariant_of-self
invariant_of-self c = rw c.clear.ensures (AreGroups-clear c.self.inside.groups.items c.from.result c.self.invariant)
