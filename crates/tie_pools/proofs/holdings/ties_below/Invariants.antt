use Rattle.std.proofs.Common.{◌≡◌}
use Rattle.tie_pools.specs.HoldingsInside.{ties_below}
use Rattle.tie_pools.proofs.holdings.ties_below.Given as goal

abbrev pub invariant-loop-tie : goal.invariant-loop-tie
invariant-loop-tie l = l.ties ≡ ties_below l.tie
