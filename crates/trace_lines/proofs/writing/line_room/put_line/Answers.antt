use Rattle.std.proofs.Common.{ℕ, List, [], ◌∷◌, ◌++◌, ap, ◌∙◌}
use Rattle.trace_lines.specs.TraceLine.{told_bytes, line_end}
use Rattle.trace_lines.proofs.writing.line_room.put_line.Goals as goal

pub returns-clause-line : goal.returns-clause-line
returns-clause-line c =
    c.push_all.ensures.bytes ∙ ap (λ (line : List ℕ). line ++ line_end ∷ [])
    (c.put_bytes.ensures.text ∙ ap (λ (head : List ℕ). head ++ told_bytes c.args.sent.now) c.put_head.ensures.head)
