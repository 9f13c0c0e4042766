use Rattle.std.proofs.Common.{◌<◌, take, All}
use Rattle.trace_lines.specs.LineInside.{IsHex, IsUpperDigit}
use Rattle.trace_lines.proofs.reading.hexadecimal.is_hex.Given as goal

abbrev pub invariant-loop-byte : goal.invariant-loop-byte
invariant-loop-byte l = record {
  read : l.all < 16 → All IsUpperDigit (take l.byte-index l.text);
  small : IsHex l.text → l.all < 16;
}
