use Rattle.std.proofs.Common.{◌≡◌, ◌+◌, ◌^◌, ◌≤◌, All, take}
use Rattle.std.specs.Str.Parse.{digits_value}
use Rattle.line_text.specs.Decimal.{IsDigit}
use Rattle.line_text.proofs.decimal.read_decimal.Given as goal

abbrev pub invariant-loop-digit : goal.invariant-loop-digit
invariant-loop-digit l = record {
  number_is : l.number ≡ digits_value 10 (take l.digit-index l.digits);
  each : All IsDigit (take l.digit-index l.digits);
  small : l.number + 1 ≤ 10 ^ l.digit-index;
}
