use Rattle.std.proofs.Common.{arith}
use Rattle.std.proofs.lemmas.Grind.{pow_more}
use Rattle.line_text.proofs.DecimalLemmas.{value_more, digits_more, few_digits}
use Rattle.trace_lines.proofs.reading.number.digits_at.Goals as goal

pub overflow_mul-value : goal.overflow_mul-value
overflow_mul-value c =
    let few = few_digits c.loop-end.end (omega (arith, c.loop-end-test.true)) in
    omega (arith, few, c.loop-end.invariant.small)

pub overflow_add-value : goal.overflow_add-value
overflow_add-value c =
    let few = few_digits c.loop-end.end (omega (arith, c.loop-end-test.true)) in
    omega (arith, few, c.loop-end.invariant.small)

pub loop-end-preserved : goal.loop-end-preserved
loop-end-preserved c =
    let cases = c.if-not-is_ascii_digit.ensures.cases in
    record {
      value_is = omega (arith, value_more c.args.text.now c.loop-end.end (omega (arith, c.loop-end-test.true)) (cases.0, cases.1));
      each = digits_more c.args.text.now c.loop-end.end (omega (arith, c.loop-end-test.true)) c.loop-end.invariant.each (cases.0, cases.1);
      small = omega (arith, pow_more 10 c.loop-end.end);
    }
