use Rattle.std.proofs.Common.{arith}
use Rattle.std.proofs.lemmas.Grind.{pow_more}
use Rattle.line_text.proofs.DecimalLemmas.{value_more, digits_more, few_digits}
use Rattle.line_text.proofs.decimal.read_decimal.Goals as goal

pub overflow_mul-number : goal.overflow_mul-number
overflow_mul-number c =
    let few = few_digits c.loop-digit.digit-index (omega (arith, c.requires, c.loop-digit-test.true)) in
    omega (arith, few, c.loop-digit.invariant.small)

pub overflow_add-number : goal.overflow_add-number
overflow_add-number c =
    let few = few_digits c.loop-digit.digit-index (omega (arith, c.requires, c.loop-digit-test.true)) in
    omega (arith, few, c.loop-digit.invariant.small)

pub loop-digit-preserved : goal.loop-digit-preserved
loop-digit-preserved c =
    let cases = c.if-not-is_ascii_digit.ensures.cases in
    record {
      number_is = omega (arith, value_more c.args.digits.now c.loop-digit.digit-index c.loop-digit-test.true (cases.0, cases.1));
      each = digits_more c.args.digits.now c.loop-digit.digit-index c.loop-digit-test.true c.loop-digit.invariant.each (cases.0, cases.1);
      small = omega (arith, pow_more 10 c.loop-digit.digit-index);
    }
