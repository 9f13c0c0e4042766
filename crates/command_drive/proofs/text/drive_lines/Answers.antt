use Rattle.std.proofs.Common.{◌∙◌, ap, codes, List, ◌++◌, ℕ}
use Rattle.std.specs.Fmt.{decimal}
use Rattle.std.proofs.lemmas.Result.{IfOk-weaker}
use Rattle.command_drive.proofs.RowLemmas.{lines-parts}
use Rattle.command_drive.proofs.text.drive_lines.Goals as goal

pub returns : goal.returns
returns c =
    let counts = c.args.counts.now in
    IfOk-weaker c.format.result _ _
    (λ text is. is ∙ ap (λ (t : List ℕ). codes "wants " ++ t)
    (lines-parts (decimal counts.wants) (decimal counts.sent) (decimal counts.settled) (codes "sent ") (codes "settled ") (codes "agree ") (decimal counts.agree))) c.format.ensures.ok
