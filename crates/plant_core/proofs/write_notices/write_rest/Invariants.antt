use Rattle.std.proofs.Common.{◌≡◌, ◌+◌, ◌*◌, ◌/◌, ◌++◌, map, vec_len, vec_capacity}
use Rattle.std.specs.List.{range_with_len}
use Rattle.change_boards.specs.Notices.{board_of}
use Rattle.plant_core.specs.StateText.{notices_of}
use Rattle.plant_core.proofs.write_notices.write_rest.Given as goal

abbrev pub invariant-loop-at : goal.invariant-loop-at
invariant-loop-at l = record {
  text : l.out.items ≡ l.initial.out.items ++ map (λ at. notices_of (board_of l.notices l.panel) (64 * (l.count / 64) + at)) (range_with_len 0 l.at);
  len : vec_len l.out ≡ vec_len l.initial.out + l.at;
  room : vec_capacity l.out ≡ vec_capacity l.initial.out;
}
