use Rattle.std.proofs.Common.{take, All}
use Rattle.trace_lines.specs.LineInside.{IsUpperDigit}
use Rattle.trace_lines.proofs.reading.hexadecimal.hex_at.Given as goal

-- What was looked at so far is digits.
abbrev pub invariant-loop-end : goal.invariant-loop-end
invariant-loop-end l = All IsUpperDigit (take l.end l.text)
