use Rattle.standby.proofs.ArrivalLemmas.{fronts_are_exact as proved}
use Rattle.standby.proofs.laws.fronts_are_exact.Goals as goal

pub returns : goal.returns
returns c = proved
