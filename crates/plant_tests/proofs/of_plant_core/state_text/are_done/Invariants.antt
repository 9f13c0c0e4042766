use Rattle.std.proofs.Common.{◌≡◌}
use Rattle.plant_tests.proofs.of_plant_core.state_text.are_done.Given as goal

-- the plant stays
abbrev pub invariant-loop-panel : goal.invariant-loop-panel
invariant-loop-panel g l = l.rig.state.plant ≡ l.initial.rig.state.plant
