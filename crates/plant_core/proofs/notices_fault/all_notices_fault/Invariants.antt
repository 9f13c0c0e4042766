use Rattle.std.proofs.Common.{◌≡◌, ◌*◌, None}
use Rattle.plant_core.specs.StateFault.{first_broken, fields_of_each, notices_fields}
use Rattle.plant_core.proofs.notices_fault.all_notices_fault.Given as goal

abbrev pub invariant-loop-place : goal.invariant-loop-place
invariant-loop-place l = first_broken (fields_of_each (64 * l.place) (notices_fields l.plant l.bytes l.panel)) ≡ None
