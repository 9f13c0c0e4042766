use Rattle.salvo_groups.proofs.Collected.{stores_collect}
use Rattle.salvo_groups.proofs.laws.stores_collect.Goals as goal

pub returns : goal.returns
returns c groups number changes are within empty room = stores_collect groups number changes are within empty room
