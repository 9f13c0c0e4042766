use Rattle.plant_config.proofs.OriginLemmas.{origins_are_local}
use Rattle.plant_config.proofs.laws.origins_are_local.Goals as goal

pub returns : goal.returns
returns c = origins_are_local
