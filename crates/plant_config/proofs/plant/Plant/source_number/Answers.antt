use Rattle.std.proofs.Common.{arith, sym, ◌∙◌}
use Rattle.plant_config.specs.Plant.{source_numbers}
use Rattle.plant_config.proofs.SiteLemmas.{sources_are, IsSome-level_of, level_of-is}
use Rattle.plant_config.proofs.plant.Plant.source_number.Goals as goal

pub unwrap-at-requires : goal.unwrap-at-requires
unwrap-at-requires c =
    rw c.level_of_source.ensures.found (IsSome-level_of source_numbers c.args.self.now (sources_are _ c.level_of_source.ensures.plant) c.args.source c.requires)

pub overflow_sub-result : goal.overflow_sub-result
overflow_sub-result c =
    let found = sym c.level_of_source.ensures.found ∙ c.unwrap-at.ensures in
    let is = level_of-is source_numbers c.args.self.now (sources_are _ c.level_of_source.ensures.plant) c.args.source c.unwrap-at.result found in
    omega (arith, is.low)

pub returns-clause-below : goal.returns-clause-below
returns-clause-below c =
    let found = sym c.level_of_source.ensures.found ∙ c.unwrap-at.ensures in
    let is = level_of-is source_numbers c.args.self.now (sources_are _ c.level_of_source.ensures.plant) c.args.source c.unwrap-at.result found in
    omega (arith, is.low, is.high, is.most)
