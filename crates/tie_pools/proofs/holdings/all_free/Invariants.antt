use Rattle.std.proofs.Common.{◌≡◌, map, take}
use Rattle.plant_config.specs.declared.records.Pool.{Pool}
use Rattle.tie_pools.specs.HoldingsInside.{ties_below}
use Rattle.tie_pools.proofs.holdings.all_free.Given as goal

abbrev pub invariant-loop-pool : goal.invariant-loop-pool
invariant-loop-pool l = l.free.items ≡ map (λ (pool : Pool). ties_below pool.ties) (take l.pool-index l.pools)
