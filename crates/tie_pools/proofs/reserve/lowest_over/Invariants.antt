use Rattle.std.proofs.Common.{◌≡◌, None, drop}
use Rattle.tie_pools.specs.ReserveInside.{lowest_over}
use Rattle.tie_pools.proofs.reserve.lowest_over.Given as goal

abbrev pub invariant-loop-change : goal.invariant-loop-change
invariant-loop-change l = lowest_over l.plant l.demand l.limits l.lowest (drop l.change-index l.changes) ≡ lowest_over l.plant l.demand l.limits None l.changes
