use Rattle.plant_config.specs.Plant.{source_numbers}
use Rattle.plant_config.proofs.SiteLemmas.{sources_are, lead_both_ways}
use Rattle.plant_config.proofs.laws.sources_are_numbered.Goals as goal

pub returns : goal.returns
returns c plant is = lead_both_ways source_numbers plant (sources_are plant is)
