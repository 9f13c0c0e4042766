use Rattle.std.proofs.Common.{◌≡◌, None}
use Rattle.plant_core.specs.StateFault.{first_broken, fields_of_each, panel_fields}
use Rattle.plant_core.proofs.state_fault.panels_fault.Given as goal

abbrev pub invariant-loop-panel : goal.invariant-loop-panel
invariant-loop-panel l = first_broken (fields_of_each l.panel (panel_fields l.plant l.bytes)) ≡ None
