use Rattle.std.proofs.Common.{get_or, arith}
use Rattle.std.proofs.lemmas.List.Elements.{All-more}
use Rattle.trace_lines.specs.LineInside.{IsUpperDigit}
use Rattle.trace_lines.proofs.HexValues.{value_small, small_value}
use Rattle.trace_lines.proofs.reading.hexadecimal.hex_at.Goals as goal

pub returns-then-value_of-ge16-clause-other : goal.returns-then-value_of-ge16-clause-other
returns-then-value_of-ge16-clause-other c = λ below digit.
    let small = value_small (get_or c.args.text.now c.loop-end.end 0) digit in
    absurd (omega (arith, small, c.value_of.ensures, c.if-value_of-ge16.true))

pub loop-end-preserved : goal.loop-end-preserved
loop-end-preserved c =
    let digit : IsUpperDigit (get_or c.args.text.now c.loop-end.end 0) = small_value (get_or c.args.text.now c.loop-end.end 0) (omega (arith, c.value_of.ensures, c.if-value_of-ge16.false)) in
    All-more IsUpperDigit c.args.text.now c.loop-end.end 0 c.loop-end-test.true c.loop-end.invariant digit
