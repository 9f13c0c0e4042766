use Rattle.std.proofs.Common.{◌≡◌, None}
use Rattle.plant_core.specs.StateFault.{first_broken, fields_of_each, entry_fields}
use Rattle.plant_core.proofs.state_fault.entries_fault.Given as goal

abbrev pub invariant-loop-index : goal.invariant-loop-index
invariant-loop-index l = first_broken (fields_of_each l.index (entry_fields l.plant l.bytes l.group)) ≡ None
