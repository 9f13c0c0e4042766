use Rattle.std.proofs.Common.{◌≡◌}
use Rattle.tie_pools.specs.RebuiltInside.{AreCleared}
use Rattle.tie_pools.proofs.counts.clear.Given as goal

abbrev pub invariant-loop-number : goal.invariant-loop-number
invariant-loop-number g l = record {
  entries : AreCleared l.initial.table.entries l.table.entries l.number;
  room : l.table.room ≡ l.initial.table.room;
}
