use Rattle.crosspoint_state.specs.Taps.{ArePointsOf}
use Rattle.crosspoint_state.specs.Ties.{HaveValidTies}
use Rattle.tie_pools.specs.Counts.{AreCountsOf}
use Rattle.plant_tests.proofs.examples.of_tie_pools.are_answered.Given as goal

abbrev pub invariant-loop-row : goal.invariant-loop-row
invariant-loop-row g l = record {
  kept : ArePointsOf l.plant l.points;
  counts : AreCountsOf l.plant l.points.entries l.ties;
  valid : HaveValidTies l.plant l.points.entries;
}
