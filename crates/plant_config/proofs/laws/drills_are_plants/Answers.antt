use Rattle.plant_config.proofs.DrillLemmas.{drill_is_plant}
use Rattle.plant_config.proofs.laws.drills_are_plants.Goals as goal

pub returns : goal.returns
returns c panels some most = drill_is_plant panels some most
