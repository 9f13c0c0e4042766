use Rattle.std.proofs.Common.{◌≡◌, ◌++◌, take, vec_capacity}
use Rattle.dle_framing.proofs.encode.append.Given as goal

-- What was looked at so far is written.
abbrev pub invariant-loop-byte : goal.invariant-loop-byte
invariant-loop-byte l = record {
  written : l.whole.items ≡ l.fn.out.items ++ take l.byte-index l.bytes;
  capacity : vec_capacity l.whole ≡ vec_capacity l.fn.out;
}
