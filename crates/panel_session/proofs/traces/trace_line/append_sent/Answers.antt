use Rattle.std.proofs.Common.{List, ℕ, ◌++◌, ◌≡◌, ap, ◌∙◌}
use Rattle.std.specs.List.{flat_map}
use Rattle.panel_session.specs.OutgoingInside.{emptied}
use Rattle.panel_session.specs.Text.{frames_of, Output}
use Rattle.trace_lines.specs.TraceLine.{told_bytes}
use Rattle.panel_session.proofs.TraceLemmas.{frames-bytes}
use Rattle.panel_session.proofs.traces.trace_line.append_sent.Goals as goal

pub returns-clause-text : goal.returns-clause-text
returns-clause-text c =
    let bytes : c.answer.new.self.output.bytes ≡ flat_map (λ sent. sent) (frames_of c.args.answers.now) =
    ap (λ (output : Output). output.bytes) c.answer.ensures.output ∙ frames-bytes (frames_of c.args.answers.now) (emptied c.args.outgoing.now.output) in
    c.append_bytes.ensures.text ∙ ap (λ (sent : List ℕ). c.args.out.now.items ++ told_bytes sent) (c.as_slice.ensures ∙ bytes)
