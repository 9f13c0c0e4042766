use Rattle.std.proofs.Common.{ℕ, List, ◌++◌, length, sym, ap, ◌∙◌}
use Rattle.std.proofs.lemmas.Bool.{eqb-false}
use Rattle.plant_core.specs.declared.request.Request.TheVariants.{DisplayPoll}
use Rattle.trace_lines.specs.TraceLine.{told_line}
use Rattle.panel_server.proofs.AnswerLemmas.{line_of_packet}
use Rattle.panel_server.proofs.poll.put_line.Goals as goal

pub returns-else-is_empty-clause-line : goal.returns-else-is_empty-clause-line
returns-else-is_empty-clause-line c =
    let some = eqb-false (length c.args.packet.now) 0 (sym c.is_empty.ensures ∙ c.if-is_empty.false) in
    c.append_told.ensures.line
    ∙ ap (λ (front : List ℕ). front ++ told_line c.args.position (DisplayPoll c.args.screen c.args.refresh) c.args.packet.now) c.clear.ensures.items
    ∙ line_of_packet c.args.plant.now c.args.position c.args.screen c.args.refresh c.args.answers.now c.args.packet.now c.requires.packet (λ none. some (ap (length {A = ℕ}) none))
