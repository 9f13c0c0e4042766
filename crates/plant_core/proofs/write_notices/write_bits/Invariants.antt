use Rattle.std.proofs.Common.{◌≡◌, ◌+◌, ◌*◌, ◌++◌, map, vec_len, vec_capacity}
use Rattle.std.specs.List.{range_with_len}
use Rattle.plant_core.specs.WriteInside.{notices_by}
use Rattle.plant_core.proofs.write_notices.write_bits.Given as goal

abbrev pub invariant-loop-quarter : goal.invariant-loop-quarter
invariant-loop-quarter l = record {
  text : l.out.items ≡ l.initial.out.items ++ map (notices_by l.source l.protect) (range_with_len 0 (4 * l.quarter));
  len : vec_len l.out ≡ vec_len l.initial.out + 4 * l.quarter;
  room : vec_capacity l.out ≡ vec_capacity l.initial.out;
}
