use Rattle.salvo_groups.proofs.AllGroups.{AreGroups-start, stay_groups}
use Rattle.salvo_groups.proofs.laws.groups_stay_groups.Goals as goal

pub returns-clause-start : goal.returns-clause-start
returns-clause-start c = AreGroups-start

pub returns-clause-stay : goal.returns-clause-stay
returns-clause-stay c groups are = stay_groups groups are
