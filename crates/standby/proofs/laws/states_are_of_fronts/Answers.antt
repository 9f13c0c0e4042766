use Rattle.standby.proofs.ArrivalLemmas.{states_are_of_fronts as proved}
use Rattle.standby.proofs.laws.states_are_of_fronts.Goals as goal

pub returns : goal.returns
returns c = proved
