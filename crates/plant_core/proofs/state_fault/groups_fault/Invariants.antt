use Rattle.std.proofs.Common.{◌≡◌, None}
use Rattle.plant_core.specs.StateFault.{first_broken, fields_of_each, group_fields}
use Rattle.plant_core.proofs.state_fault.groups_fault.Given as goal

abbrev pub invariant-loop-group : goal.invariant-loop-group
invariant-loop-group l = first_broken (fields_of_each l.group (group_fields l.plant l.bytes)) ≡ None
