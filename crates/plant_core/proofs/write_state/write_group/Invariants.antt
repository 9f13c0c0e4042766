use Rattle.std.proofs.Common.{◌≡◌, ◌+◌, ◌*◌, ◌++◌, slice_get, vec_len, vec_capacity}
use Rattle.plant_core.specs.StateText.{texts_of, entry_text}
use Rattle.plant_core.proofs.write_state.write_group.Given as goal

abbrev pub invariant-loop-index : goal.invariant-loop-index
invariant-loop-index l = record {
  text : l.out.items ≡ l.initial.out.items ++ texts_of l.index (λ index. entry_text (slice_get l.entries index));
  len : vec_len l.out ≡ vec_len l.initial.out + 8 * l.index;
  room : vec_capacity l.out ≡ vec_capacity l.initial.out;
}
