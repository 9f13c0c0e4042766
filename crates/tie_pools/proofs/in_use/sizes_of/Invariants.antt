use Rattle.std.proofs.Common.{◌≡◌, map, take}
use Rattle.plant_config.specs.declared.records.Pool.{Pool}
use Rattle.tie_pools.proofs.in_use.sizes_of.Given as goal

abbrev pub invariant-loop-pool : goal.invariant-loop-pool
invariant-loop-pool l = l.sizes.items ≡ map (λ (pool : Pool). pool.ties) (take l.pool-index l.pools)
