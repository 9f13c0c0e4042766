use Rattle.plant_config.proofs.OriginLemmas.{buses_differ}
use Rattle.plant_config.proofs.laws.buses_differ.Goals as goal

pub returns : goal.returns
returns c = buses_differ
