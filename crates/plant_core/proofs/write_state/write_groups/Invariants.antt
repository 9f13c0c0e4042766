use Rattle.std.proofs.Common.{◌≡◌, ◌+◌, ◌*◌, ◌++◌, vec_len, vec_capacity}
use Rattle.salvo_groups.specs.Limits.{group_limit}
use Rattle.salvo_groups.specs.Groups.{group_of}
use Rattle.plant_core.specs.StateText.{texts_of, group_text}
use Rattle.plant_core.proofs.write_state.write_groups.Given as goal

abbrev pub invariant-loop-group : goal.invariant-loop-group
invariant-loop-group l = record {
  text : l.out.items ≡ l.initial.out.items ++ texts_of l.group (λ group. group_text (group_of l.groups group));
  len : vec_len l.out ≡ vec_len l.initial.out + l.group * (2 + 8 * group_limit);
  room : vec_capacity l.out ≡ vec_capacity l.initial.out;
}
