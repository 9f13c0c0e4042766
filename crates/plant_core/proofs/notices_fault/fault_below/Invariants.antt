use Rattle.std.proofs.Common.{◌≡◌, None}
use Rattle.plant_core.specs.StateFault.{first_broken, fields_of_each, notices_fields}
use Rattle.plant_core.proofs.notices_fault.fault_below.Given as goal

abbrev pub invariant-loop-number : goal.invariant-loop-number
invariant-loop-number l = first_broken (fields_of_each l.number (notices_fields l.plant l.bytes l.panel)) ≡ None
