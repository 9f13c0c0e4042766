use Rattle.std.proofs.Common.{sym, arith}
use Rattle.plant_config.specs.Plant.{dest_numbers}
use Rattle.plant_config.proofs.SiteLemmas.{dests_are, numbers_within}
use Rattle.plant_config.proofs.plant.Plant.dest.Goals as goal

pub overflow_add-at : goal.overflow_add-at
overflow_add-at c =
    let within = numbers_within dest_numbers c.args.self.now (dests_are _ c.level_at.ensures.plant) _ c.in_ok-at.at (sym c.in_ok-at.ensures.at) in
    omega (arith, within, c.level_at.ensures.plant.destinations)
