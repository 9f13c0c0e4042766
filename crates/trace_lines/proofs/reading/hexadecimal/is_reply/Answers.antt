use Rattle.std.proofs.Common.{◌≢◌, ◌<◌, length, sym, ◌∙◌, arith}
use Rattle.std.proofs.lemmas.Bool.{OnTrue_at, OnTrue_from, eqb-true, eqb-false}
use Rattle.trace_lines.specs.Trace.{IsReplyText}
use Rattle.trace_lines.proofs.UpperHex.{reply_hex, no_reply}
use Rattle.trace_lines.proofs.reading.hexadecimal.is_reply.Goals as goal

pub returns-then-is_empty-clause-no : goal.returns-then-is_empty-clause-no
returns-then-is_empty-clause-no c =
    let empty = eqb-true (length c.args.text.now) 0 (sym c.is_empty.ensures ∙ c.if-is_empty.true) in
    no_reply c.args.text.now c.if-is_word.ensures.no c.if-is_word-2.ensures.no (λ some hex. absurd (omega (arith, some, empty)))

pub returns-clause-yes : goal.returns-clause-yes
returns-clause-yes c =
    let isnt : length c.args.text.now ≢ 0 = eqb-false (length c.args.text.now) 0 (sym c.is_empty.ensures ∙ c.if-is_empty.false) in
    let some : 0 < length c.args.text.now = omega (arith, isnt) in
    OnTrue_from c.is_hex.result (IsReplyText c.args.text.now) (λ is. reply_hex c.args.text.now some (OnTrue_at is c.is_hex.ensures.yes))
