use Rattle.std.proofs.Common.{◌≡◌, false}
use Rattle.std.specs.List.{list_any, range_with_len}
use Rattle.plant_core.specs.Displays.{differs}
use Rattle.plant_core.proofs.state.PlantState.some_differs.Given as goal

-- None of the displays so far differs.
abbrev pub invariant-loop-number : goal.invariant-loop-number
invariant-loop-number l = list_any (differs l.self) (range_with_len 0 l.number) ≡ false
