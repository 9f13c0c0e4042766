use Rattle.std.proofs.Common.{◌≡◌, drop}
use Rattle.crosspoint_state.specs.Taps.{ArePointsOf}
use Rattle.tie_pools.specs.Counts.{AreCountsOf}
use Rattle.tie_pools.specs.CommitInside.{given_each, AreReady}
use Rattle.tie_pools.proofs.ties.Ties.give_all.Given as goal

abbrev pub invariant-loop-index : goal.invariant-loop-index
invariant-loop-index l = record {
  points : given_each l.plant l.points.entries (drop l.index l.changes) ≡ given_each l.plant l.initial.points.entries l.changes;
  kept : ArePointsOf l.plant l.points;
  counts : AreCountsOf l.plant l.points.entries l.self;
  ready : AreReady l.points.entries (drop l.index l.changes);
}
