use Rattle.std.proofs.Common.{◌≡◌, drop}
use Rattle.crosspoint_state.specs.Applied.{put_all}
use Rattle.crosspoint_state.specs.Taps.{ArePointsOf}
use Rattle.tie_pools.proofs.commit.put_all.Given as goal

abbrev pub invariant-loop-change : goal.invariant-loop-change
invariant-loop-change l = record {
  made : put_all l.points.entries (drop l.change-index l.changes) ≡ put_all l.initial.points.entries l.changes;
  kept : ArePointsOf l.plant l.points;
}
