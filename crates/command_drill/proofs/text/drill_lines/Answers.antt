use Rattle.std.proofs.Common.{◌∙◌, ap, codes, List, ◌++◌, ℕ}
use Rattle.std.specs.Fmt.{decimal}
use Rattle.std.proofs.lemmas.Result.{IfOk-weaker}
use Rattle.command_drill.proofs.DrillLemmas.{lines-parts}
use Rattle.command_drill.proofs.text.drill_lines.Goals as goal

pub returns : goal.returns
returns c =
    let drilled = c.args.drilled.now in
    IfOk-weaker c.format.result _ _
    (λ text is. is ∙ ap (λ (t : List ℕ). codes "panels " ++ t)
    (lines-parts (decimal c.args.panels) (decimal drilled.messages) (decimal drilled.acks) (decimal drilled.naks) (decimal drilled.sessions)
    (codes "messages ") (codes "acks ") (codes "naks ") (codes "sessions ") (codes "history confirmed\n"))) c.format.ensures.ok
