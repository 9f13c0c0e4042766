use Rattle.std.proofs.Common.{◌≡◌, ◌+◌, ◌*◌, ◌++◌, vec_len, vec_capacity}
use Rattle.change_boards.specs.Shown.{last}
use Rattle.plant_core.specs.StateText.{texts_of, display_text}
use Rattle.plant_core.proofs.write_state.write_displays.Given as goal

abbrev pub invariant-loop-number : goal.invariant-loop-number
invariant-loop-number l = record {
  text : l.out.items ≡ l.initial.out.items ++ texts_of l.number (λ display. display_text (last l.shown display));
  len : vec_len l.out ≡ vec_len l.initial.out + 7 * l.number;
  room : vec_capacity l.out ≡ vec_capacity l.initial.out;
}
