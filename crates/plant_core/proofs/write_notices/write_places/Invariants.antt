use Rattle.std.proofs.Common.{◌≡◌, ◌+◌, ◌*◌, ◌++◌, map, vec_len, vec_capacity}
use Rattle.std.specs.List.{range_with_len}
use Rattle.change_boards.specs.Notices.{board_of}
use Rattle.plant_core.specs.StateText.{notices_of}
use Rattle.plant_core.proofs.write_notices.write_places.Given as goal

abbrev pub invariant-loop-place : goal.invariant-loop-place
invariant-loop-place l = record {
  text : l.out.items ≡ l.initial.out.items ++ map (notices_of (board_of l.notices l.panel)) (range_with_len 0 (64 * l.place));
  len : vec_len l.out ≡ vec_len l.initial.out + 64 * l.place;
  room : vec_capacity l.out ≡ vec_capacity l.initial.out;
}
