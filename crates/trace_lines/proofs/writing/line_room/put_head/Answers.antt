use Rattle.std.proofs.Common.{ℕ, List, ◌++◌, codes, ap, ◌∙◌}
use Rattle.std.specs.Fmt.{decimal}
use Rattle.trace_lines.specs.TraceLine.{line_head, request_text}
use Rattle.trace_lines.proofs.LineLemmas.{head-appended}
use Rattle.trace_lines.proofs.writing.line_room.put_head.Goals as goal

pub returns-clause-head : goal.returns-clause-head
returns-clause-head c =
    head-appended c.clear.new.self (decimal c.args.position) (codes " ") (request_text c.args.request.now) (codes " = ") _ _ _ _
    c.push_decimal.ensures.number c.push_all.ensures.bytes c.put_request.ensures.text c.push_all-2.ensures.bytes
    ∙ ap (λ (front : List ℕ). front ++ line_head c.args.position c.args.request.now) c.clear.ensures
