use Rattle.std.proofs.Common.{arith}
use Rattle.line_text.proofs.DecimalLemmas.{number-below}
use Rattle.record_replay.proofs.number.read_number.Goals as goal

pub overflow_cast-result : goal.overflow_cast-result
overflow_cast-result c =
    omega (arith, number-below c.args.digits.now c.in_ok-read_decimal.field-0 5 c.in_ok-read_decimal.ensures (omega (arith, c.if-digits-gt-MAX_DIGITS.false)))
