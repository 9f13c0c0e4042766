use Rattle.std.proofs.Common.{◌+◌, take, drop, arith}
use Rattle.std.proofs.lemmas.List.{take_rest}
use Rattle.trace_lines.proofs.FieldLemmas.{number_ends, number_cut, number_cut_at}
use Rattle.trace_lines.proofs.reading.field.read_number.Goals as goal

pub returns-then-end-text-clause-only : goal.returns-then-end-text-clause-only
returns-then-end-text-clause-only c = λ number behind begins.
    let ends = number_ends c.args.text.now c.digits_at-end.result.0 c.digits_at-end.ensures.within c.digits_at-end.ensures.digits c.digits_at-end.ensures.other number behind begins in
    absurd (omega (arith, ends.0, c.if-end-text.true))

pub returns-then-text-end-ne-SPACE-clause-only : goal.returns-then-text-end-ne-SPACE-clause-only
returns-then-text-end-ne-SPACE-clause-only c = λ number behind begins.
    let ends = number_ends c.args.text.now c.digits_at-end.result.0 c.digits_at-end.ensures.within c.digits_at-end.ensures.digits c.digits_at-end.ensures.other number behind begins in
    absurd (c.if-text-end-ne-SPACE.true ends.1)

pub returns-in_err-number-clause-only : goal.returns-in_err-number-clause-only
returns-in_err-number-clause-only c =
    rw c.from_residual.ensures (λ number behind begins.
    let at = number_cut_at c.args.text.now c.digits_at-end.result.0 (omega (arith, c.if-end-text.false)) c.digits_at-end.ensures.digits c.if-text-end-ne-SPACE.false in
    let cut = number_cut c.args.text.now (take c.digits_at-end.result.0 c.args.text.now) (drop (c.digits_at-end.result.0 + 1) c.args.text.now) at number behind begins in
    let same = c.in_err-number.ensures.only number cut.0 in
    cc same)

pub returns-clause-only : goal.returns-clause-only
returns-clause-only c = λ number behind begins.
    let at = number_cut_at c.args.text.now c.digits_at-end.result.0 (omega (arith, c.if-end-text.false)) c.digits_at-end.ensures.digits c.if-text-end-ne-SPACE.false in
    let cut = number_cut c.args.text.now (take c.digits_at-end.result.0 c.args.text.now) (drop (c.digits_at-end.result.0 + 1) c.args.text.now) at number behind begins in
    let same = c.in_ok-number.ensures.only number cut.0 in
    (cc, grind (arith, cut.1, take_rest))
