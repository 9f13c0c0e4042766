use Rattle.std.proofs.Common.{◌≡◌, take}
use Rattle.tsl_stream.specs.WritingInside.{half_after}
use Rattle.tsl_stream.proofs.half.ends_half.Given as goal

-- that of the bytes that were looked at
abbrev pub invariant-loop-byte : goal.invariant-loop-byte
invariant-loop-byte l = l.ends ≡ half_after l.fn.half (take l.byte-index l.bytes)
