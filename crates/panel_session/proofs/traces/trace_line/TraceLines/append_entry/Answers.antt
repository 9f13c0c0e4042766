use Rattle.std.proofs.Common.{◌≡◌, ℕ, ◌+◌, List, [], ◌∷◌, ◌++◌, length, ap, ◌∙◌, arith}
use Rattle.trace_lines.specs.TraceLine.{line_head, line_end, longest_trace_line}
use Rattle.trace_lines.proofs.LineLemmas.{then}
use Rattle.panel_session.specs.Reply.{reply_text, trace_line}
use Rattle.panel_session.proofs.TraceLemmas.{longer, appended-most}
use Rattle.panel_session.proofs.traces.trace_line.TraceLines.append_entry.Goals as goal

pub returns-clause-line : goal.returns-clause-line
returns-clause-line c =
    let head = line_head c.args.position c.args.request.now in
    let reply = reply_text c.args.plant.now c.args.request.now c.args.answers.now in
    let at_head = c.append.ensures.bytes ∙ ap (λ (head : List ℕ). c.args.out.now.items ++ head) c.head.ensures.head in
    then c.args.out.now.items (head ++ reply) (line_end ∷ []) _ _ (then c.args.out.now.items head reply _ _ at_head c.put_reply.ensures.text) c.push_reserved.ensures.items

pub returns-clause-most : goal.returns-clause-most
returns-clause-most c =
    let front : length c.append.new.out.items ≡ length c.args.out.now.items + length c.head.result.now =
    longer c.args.out.now.items c.head.result.now c.append.new.out.items c.append.ensures.bytes in
    appended-most c.args.out.now.items (trace_line c.args.plant.now c.args.position c.args.request.now c.args.answers.now) _ longest_trace_line
    (returns-clause-line c)
    (omega (arith, front, c.head.ensures.most, c.put_reply.ensures.most, c.push_reserved.ensures.len))
