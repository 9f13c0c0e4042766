use Rattle.std.proofs.Common.{◌≡◌, None}
use Rattle.plant_core.specs.StateFault.{first_broken, fields_of_each, dest_fields}
use Rattle.plant_core.specs.FirstTies.{AreFirstsOf}
use Rattle.plant_core.proofs.state_fault.tabled_fault.Given as goal

abbrev pub invariant-loop-number : goal.invariant-loop-number
invariant-loop-number l = record {
  none : first_broken (fields_of_each l.number (dest_fields l.plant l.bytes)) ≡ None;
  firsts : AreFirstsOf l.plant l.bytes l.number l.by_tie l.by_origin;
}
