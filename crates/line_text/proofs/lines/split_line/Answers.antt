use Rattle.std.proofs.Common.{length}
use Rattle.std.proofs.lemmas.Bool.{eqb-true}
use Rattle.line_text.specs.Lines.{line_feed}
use Rattle.line_text.proofs.LinesLemmas.{none_ends, first_line, only_line}
use Rattle.line_text.proofs.lines.split_line.Goals as goal

pub returns-in-Some-clause-lines : goal.returns-in-Some-clause-lines
returns-in-Some-clause-lines c =
    let text = c.args.text.now in
    let first = c.in-Some.ensures in
    first_line text c.in-Some.end (none_ends text c.in-Some.end first.0.before) first.0.high (eqb-true _ line_feed first.1)

pub returns-in-None-clause-lines : goal.returns-in-None-clause-lines
returns-in-None-clause-lines c = only_line c.args.text.now c.requires (none_ends c.args.text.now (length c.args.text.now) c.in-None.ensures)
