use Rattle.salvo_groups.proofs.AllGroups.{stores_are_read}
use Rattle.salvo_groups.proofs.laws.stores_are_read.Goals as goal

pub returns : goal.returns
returns c groups are = stores_are_read groups are
