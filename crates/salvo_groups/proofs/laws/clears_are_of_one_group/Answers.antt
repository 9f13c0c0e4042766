use Rattle.salvo_groups.proofs.AllGroups.{clears}
use Rattle.salvo_groups.proofs.laws.clears_are_of_one_group.Goals as goal

pub returns : goal.returns
returns c groups number = clears groups number
