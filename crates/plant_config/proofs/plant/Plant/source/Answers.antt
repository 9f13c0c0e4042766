use Rattle.std.proofs.Common.{sym, arith}
use Rattle.plant_config.specs.Plant.{source_numbers}
use Rattle.plant_config.proofs.SiteLemmas.{sources_are, numbers_within}
use Rattle.plant_config.proofs.plant.Plant.source.Goals as goal

pub overflow_add-at : goal.overflow_add-at
overflow_add-at c =
    let within = numbers_within source_numbers c.args.self.now (sources_are _ c.level_at.ensures.plant) _ c.in_ok-at.at (sym c.in_ok-at.ensures.at) in
    omega (arith, within, c.level_at.ensures.plant.sources)
