use Rattle.std.proofs.Common.{◌≡◌, ◌≤◌, ◌==◌, take, vec_len, vec_capacity}
use Rattle.std.specs.Prelude.{not, filter}
use Rattle.record_replay.specs.Script.{space}
use Rattle.record_replay.proofs.digits.drop_spaces.Given as goal

abbrev pub invariant-loop-byte : goal.invariant-loop-byte
invariant-loop-byte l = record {
  items : l.digits.items ≡ filter (λ byte. not (byte == space)) (take l.byte-index l.text);
  capacity : vec_capacity l.digits ≡ vec_capacity l.fn.digits;
  fits : vec_len l.digits ≤ l.byte-index;
}
