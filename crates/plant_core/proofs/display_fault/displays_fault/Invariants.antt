use Rattle.std.proofs.Common.{◌≡◌, None}
use Rattle.plant_core.specs.StateFault.{first_broken, fields_of_each, display_fields}
use Rattle.plant_core.proofs.display_fault.displays_fault.Given as goal

abbrev pub invariant-loop-display : goal.invariant-loop-display
invariant-loop-display l = first_broken (fields_of_each l.display (display_fields l.plant l.bytes)) ≡ None
