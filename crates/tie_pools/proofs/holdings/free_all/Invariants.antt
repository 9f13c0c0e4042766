use Rattle.std.proofs.Common.{◌≡◌, length}
use Rattle.tie_pools.specs.RebuiltInside.{AreFreeBelow}
use Rattle.tie_pools.proofs.holdings.free_all.Given as goal

abbrev pub invariant-loop-number : goal.invariant-loop-number
invariant-loop-number l = record {
  pools : length l.free ≡ length l.plant.pools;
  free : AreFreeBelow l.plant l.free l.number;
}
