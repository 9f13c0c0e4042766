use Rattle.std.proofs.Common.{length, List, ap, ◌∙◌}
use Rattle.plant_config.specs.declared.records.Pool.{Pool}
use Rattle.tie_pools.proofs.KeptOver.{none_over}
use Rattle.tie_pools.proofs.in_use.InUse.new.Goals as goal

pub invariant_of-result : goal.invariant_of-result
invariant_of-result c =
    none_over c.args.plant.now c.in_ok-used.used c.in_ok-sizes.sizes.items c.new-over.result c.pools.ensures.plant c.in_ok-used.ensures.empty
    (c.in_ok-used.ensures.room ∙ ap (λ (pools : List Pool). length pools) c.pools.ensures.pools)
    c.in_ok-sizes.ensures c.new-over.ensures
