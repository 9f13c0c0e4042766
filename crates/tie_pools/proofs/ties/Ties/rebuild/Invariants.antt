use Rattle.tie_pools.specs.Counts.{AreCountsOf}
use Rattle.tie_pools.specs.RebuiltInside.{carried_below}
use Rattle.tie_pools.proofs.ties.Ties.rebuild.Given as goal

abbrev pub invariant-loop-number : goal.invariant-loop-number
invariant-loop-number l = AreCountsOf l.plant (carried_below l.points.entries l.number) l.self
