use Rattle.std.proofs.Common.{◌≡◌, drop}
use Rattle.crosspoint_state.specs.Taps.{ArePointsOf}
use Rattle.crosspoint_state.specs.Ties.{HaveValidTies}
use Rattle.tie_pools.specs.Counts.{AreCountsOf}
use Rattle.tie_pools.specs.CommitInside.{released_each}
use Rattle.tie_pools.proofs.ties.Ties.release_all.Given as goal

abbrev pub invariant-loop-index : goal.invariant-loop-index
invariant-loop-index l = record {
  points : released_each l.points.entries (drop l.index l.changes) ≡ released_each l.initial.points.entries l.changes;
  kept : ArePointsOf l.plant l.points;
  counts : AreCountsOf l.plant l.points.entries l.self;
  valid : HaveValidTies l.plant l.points.entries;
}
