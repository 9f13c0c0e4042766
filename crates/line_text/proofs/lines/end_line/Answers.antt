use Rattle.std.proofs.Common.{◌≡◌, ℕ, ◌-◌, length, get_or, ap, ◌∙◌, arith}
use Rattle.std.proofs.lemmas.List.{get_or_read}
use Rattle.line_text.proofs.JoinLemmas.{EndsLine-put}
use Rattle.line_text.proofs.lines.end_line.Goals as goal

pub returns-then-index-ne-LF-clause-ends : goal.returns-then-index-ne-LF-clause-ends
returns-then-index-ne-LF-clause-ends c =
    let text = c.args.text.now.items in
    let at : c.len.result - 1 ≡ length text - 1 = omega arith in
    let last = get_or_read text _ _ (omega arith) c.index.ensures 0 in
    EndsLine-put text _ c.requires.some (λ is. c.if-index-ne-LF.true (last ∙ ap (λ (n : ℕ). get_or text n 0) at ∙ is)) c.push_reserved.ensures.items
