use Rattle.std.proofs.Common.{◌≡◌, ◌+◌, ◌*◌, ◌++◌, vec_len, vec_capacity}
use Rattle.plant_config.specs.Plant.{destinations_of}
use Rattle.change_boards.specs.Notices.{board_of}
use Rattle.plant_core.specs.StateText.{texts_of, panel_text}
use Rattle.plant_core.proofs.write_state.write_panels.Given as goal

abbrev pub invariant-loop-number : goal.invariant-loop-number
invariant-loop-number l = record {
  text : l.out.items ≡ l.initial.out.items ++ texts_of l.number (λ panel. panel_text (destinations_of l.plant) (board_of l.notices panel));
  len : vec_len l.out ≡ vec_len l.initial.out + l.number * (1 + destinations_of l.plant);
  room : vec_capacity l.out ≡ vec_capacity l.initial.out;
}
