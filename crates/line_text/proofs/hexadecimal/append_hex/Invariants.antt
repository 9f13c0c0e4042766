use Rattle.std.proofs.Common.{◌≡◌, ◌+◌, ◌*◌, ◌++◌, drop, vec_len, vec_capacity}
use Rattle.hex.specs.Hex.{encode_upper}
use Rattle.line_text.proofs.hexadecimal.append_hex.Given as goal

-- With the bytes that are left, all are appended.
abbrev pub invariant-loop-byte : goal.invariant-loop-byte
invariant-loop-byte l = record {
  bytes : l.whole.items ++ encode_upper (drop l.byte-index l.bytes) ≡ l.fn.out.items ++ encode_upper l.bytes;
  len : vec_len l.whole ≡ vec_len l.fn.out + 2 * l.byte-index;
  room : vec_capacity l.whole ≡ vec_capacity l.fn.out;
}
