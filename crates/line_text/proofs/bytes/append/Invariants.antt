use Rattle.std.proofs.Common.{◌≡◌, ◌+◌, ◌++◌, take, vec_len, vec_capacity}
use Rattle.line_text.proofs.bytes.append.Given as goal

-- The front of the bytes was appended.
abbrev pub invariant-loop-byte : goal.invariant-loop-byte
invariant-loop-byte l = record {
  bytes : l.whole.items ≡ l.fn.out.items ++ take l.byte-index l.more;
  len : vec_len l.whole ≡ vec_len l.fn.out + l.byte-index;
  room : vec_capacity l.whole ≡ vec_capacity l.fn.out;
}
