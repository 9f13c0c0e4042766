use Rattle.std.proofs.Common.{arith, sym, ◌∙◌}
use Rattle.plant_config.specs.Plant.{dest_numbers}
use Rattle.plant_config.proofs.SiteLemmas.{dests_are, IsSome-level_of, level_of-is}
use Rattle.plant_config.proofs.plant.Plant.point.Goals as goal

pub unwrap-at-requires : goal.unwrap-at-requires
unwrap-at-requires c =
    rw c.level_of_dest.ensures.found (IsSome-level_of dest_numbers c.args.self.now (dests_are _ c.level_of_dest.ensures.plant) c.args.dest c.requires)

pub overflow_sub-result : goal.overflow_sub-result
overflow_sub-result c =
    let found = sym c.level_of_dest.ensures.found ∙ c.unwrap-at.ensures in
    let is = level_of-is dest_numbers c.args.self.now (dests_are _ c.level_of_dest.ensures.plant) c.args.dest c.unwrap-at.result found in
    omega (arith, is.low)
