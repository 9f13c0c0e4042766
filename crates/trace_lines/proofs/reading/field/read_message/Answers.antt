use Rattle.std.proofs.Common.{◌+◌, take, drop, arith}
use Rattle.std.proofs.lemmas.List.{take_rest}
use Rattle.trace_lines.proofs.FieldLemmas.{message_ends, message_cut, message_cut_at}
use Rattle.trace_lines.proofs.reading.field.read_message.Goals as goal

pub returns-then-end-text-clause-only : goal.returns-then-end-text-clause-only
returns-then-end-text-clause-only c = λ message behind begins.
    let ends = message_ends c.args.text.now c.hex_at-end.result c.hex_at-end.ensures.within c.hex_at-end.ensures.digits c.hex_at-end.ensures.other message behind begins in
    absurd (omega (arith, ends.0, c.if-end-text.true))

pub returns-then-text-end-ne-SPACE-clause-only : goal.returns-then-text-end-ne-SPACE-clause-only
returns-then-text-end-ne-SPACE-clause-only c = λ message behind begins.
    let ends = message_ends c.args.text.now c.hex_at-end.result c.hex_at-end.ensures.within c.hex_at-end.ensures.digits c.hex_at-end.ensures.other message behind begins in
    absurd (c.if-text-end-ne-SPACE.true ends.1)

pub returns-in_err-message-clause-only : goal.returns-in_err-message-clause-only
returns-in_err-message-clause-only c =
    rw c.from_residual.ensures (λ message behind begins.
    let at = message_cut_at c.args.text.now c.hex_at-end.result (omega (arith, c.if-end-text.false)) c.hex_at-end.ensures.digits c.if-text-end-ne-SPACE.false in
    let cut = message_cut c.args.text.now (take c.hex_at-end.result c.args.text.now) (drop (c.hex_at-end.result + 1) c.args.text.now) at message behind begins in
    let same = c.in_err-message.ensures.only message cut.0 in
    cc same)

pub returns-clause-only : goal.returns-clause-only
returns-clause-only c = λ message behind begins.
    let at = message_cut_at c.args.text.now c.hex_at-end.result (omega (arith, c.if-end-text.false)) c.hex_at-end.ensures.digits c.if-text-end-ne-SPACE.false in
    let cut = message_cut c.args.text.now (take c.hex_at-end.result c.args.text.now) (drop (c.hex_at-end.result + 1) c.args.text.now) at message behind begins in
    let same = c.in_ok-message.ensures.only message cut.0 in
    (cc, grind (arith, cut.1, take_rest))
