use Rattle.standby.proofs.ArrivalLemmas.{nothing_is_lost as proved}
use Rattle.standby.proofs.laws.nothing_is_lost.Goals as goal

pub returns : goal.returns
returns c = proved
