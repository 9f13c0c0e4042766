use Rattle.std.proofs.Common.{◌≡◌, ◌+◌, ◌*◌, ◌++◌, vec_len, vec_capacity}
use Rattle.plant_core.specs.StateText.{texts_of, dest_text}
use Rattle.plant_core.proofs.write_state.write_destinations.Given as goal

abbrev pub invariant-loop-number : goal.invariant-loop-number
invariant-loop-number l = record {
  text : l.out.items ≡ l.initial.out.items ++ texts_of l.number (dest_text l.points.entries l.protects.entries);
  len : vec_len l.out ≡ vec_len l.initial.out + 10 * l.number;
  room : vec_capacity l.out ≡ vec_capacity l.initial.out;
}
