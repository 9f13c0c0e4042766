use Rattle.std.proofs.Common.{◌≡◌, length, take}
use Rattle.tie_pools.specs.ReserveInside.{AreLimited}
use Rattle.tie_pools.proofs.reserve.limits_of.Given as goal

abbrev pub invariant-loop-change : goal.invariant-loop-change
invariant-loop-change l = (length l.limits ≡ 256) × AreLimited l.plant l.demand l.limits (take l.change-index l.changes)
