use Rattle.std.proofs.Common.{◌≡◌, ◌==◌, false}
use Rattle.std.specs.List.{range_with_len, list_any}
use Rattle.plant_core.specs.StateFault.{entry_dest_in}
use Rattle.plant_core.proofs.group_fields.is_before.Given as goal

abbrev pub invariant-loop-earlier : goal.invariant-loop-earlier
invariant-loop-earlier l = list_any (λ earlier. entry_dest_in l.plant l.bytes l.group earlier == l.dest) (range_with_len 0 l.earlier) ≡ false
