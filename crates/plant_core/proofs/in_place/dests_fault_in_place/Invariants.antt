use Rattle.std.proofs.Common.{◌≡◌, None}
use Rattle.plant_core.specs.StateFault.{first_broken, fields_of_each, dest_fields}
use Rattle.plant_core.proofs.in_place.dests_fault_in_place.Given as goal

abbrev pub invariant-loop-number : goal.invariant-loop-number
invariant-loop-number l = first_broken (fields_of_each l.number (dest_fields l.plant l.bytes)) ≡ None
