use Rattle.std.proofs.Common.{◌≡◌, ◌+◌, ◌^◌, ◌≤◌, All, take}
use Rattle.std.specs.Str.Parse.{digits_value}
use Rattle.line_text.specs.Decimal.{IsDigit}
use Rattle.trace_lines.proofs.reading.number.digits_at.Given as goal

-- What was looked at so far is digits, and this is what they make.
abbrev pub invariant-loop-end : goal.invariant-loop-end
invariant-loop-end l = record {
  value_is : l.value ≡ digits_value 10 (take l.end l.text);
  each : All IsDigit (take l.end l.text);
  small : l.value + 1 ≤ 10 ^ l.end;
}
