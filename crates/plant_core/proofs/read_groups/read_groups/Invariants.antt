use Rattle.plant_core.proofs.GroupPartLemmas.{AreGroupsTo}
use Rattle.plant_core.proofs.read_groups.read_groups.Given as goal

abbrev pub invariant-loop-group : goal.invariant-loop-group
invariant-loop-group l = AreGroupsTo l.plant l.bytes l.groups l.group
