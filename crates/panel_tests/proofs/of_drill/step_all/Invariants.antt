use Rattle.std.proofs.Common.{◌≤◌}
use Rattle.plant_core.specs.Answer.{room_of}
use Rattle.panel_tests.proofs.of_drill.step_all.Given as goal

abbrev pub invariant-loop-position : goal.invariant-loop-position
invariant-loop-position g l = room_of l.state.plant ≤ l.out.places
