use Rattle.plant_config.proofs.OriginLemmas.{pools_lead_across}
use Rattle.plant_config.proofs.laws.pools_lead_across.Goals as goal

pub returns : goal.returns
returns c = pools_lead_across
