use Rattle.std.proofs.Common.{◌≡◌, ◌++◌, take, vec_capacity}
use Rattle.dle_framing.specs.Frame.{doubled}
use Rattle.drill.proofs.frames.push_doubled.Given as goal

-- What was looked at so far is written.
abbrev pub invariant-loop-byte : goal.invariant-loop-byte
invariant-loop-byte l = record {
  written : l.out.items ≡ l.fn.out.items ++ doubled (take l.byte-index l.bytes);
  capacity : vec_capacity l.out ≡ vec_capacity l.fn.out;
}
