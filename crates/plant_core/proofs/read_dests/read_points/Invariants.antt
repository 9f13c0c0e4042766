use Rattle.crosspoint_state.specs.Taps.{ArePointsOf}
use Rattle.plant_core.specs.ReadInside.{spot_in, HaveBelow}
use Rattle.plant_core.proofs.read_dests.read_points.Given as goal

abbrev pub invariant-loop-number : goal.invariant-loop-number
invariant-loop-number l = record {
  each : HaveBelow l.number (spot_in l.bytes) l.points.entries;
  kept : ArePointsOf l.plant l.points;
}
