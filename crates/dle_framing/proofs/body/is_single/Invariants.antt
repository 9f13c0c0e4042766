use Rattle.std.proofs.Common.{◌≡◌, take}
use Rattle.dle_framing.specs.Frame.{doubled}
use Rattle.dle_framing.proofs.body.is_single.Given as goal

-- what was looked at is its own spelling
abbrev pub invariant-loop-byte : goal.invariant-loop-byte
invariant-loop-byte l = doubled (take l.byte-index l.bytes) ≡ take l.byte-index l.bytes
