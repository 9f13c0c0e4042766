use Rattle.std.proofs.Common.{◌≡◌, ◌++◌, take, vec_capacity}
use Rattle.doubled_bytes.specs.Doubled.{doubled}
use Rattle.doubled_bytes.proofs.doubling.push_doubled.Given as goal

-- What was looked at so far is written.
abbrev pub invariant-loop-byte : goal.invariant-loop-byte
invariant-loop-byte l = record {
  written : l.out.items ≡ l.fn.out.items ++ doubled l.dle (take l.byte-index l.bytes);
  capacity : vec_capacity l.out ≡ vec_capacity l.fn.out;
}
