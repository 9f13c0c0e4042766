use Rattle.plant_config.specs.Plant.{dest_numbers}
use Rattle.plant_config.proofs.SiteLemmas.{dests_are, lead_both_ways}
use Rattle.plant_config.proofs.laws.dests_are_numbered.Goals as goal

pub returns : goal.returns
returns c plant is = lead_both_ways dest_numbers plant (dests_are plant is)
