use Rattle.std.proofs.Common.{arith}
use Rattle.panel_session.specs.Reply.{reply_text}
use Rattle.trace_lines.specs.TraceLine.{longest_trace_line}
use Rattle.panel_session.proofs.TraceLemmas.{appended-most}
use Rattle.panel_session.proofs.traces.trace_line.TraceLines.append_reply.Goals as goal

pub returns-clause-most : goal.returns-clause-most
returns-clause-most c =
    appended-most c.args.out.now.items (reply_text c.args.plant.now c.args.request.now c.args.answers.now) _ longest_trace_line
    c.put_reply.ensures.text (omega (arith, c.put_reply.ensures.most))
