use Rattle.std.proofs.Common.{sym, ◌∙◌}
use Rattle.tally.proofs.LitLemmas.{toggled_in, toggled_out}
use Rattle.tally.proofs.marks.toggle.Goals as goal

pub returns-then-contains : goal.returns-then-contains
returns-then-contains c = rw c.remove.ensures (toggled_in c.args.numbers.now c.args.number (sym c.contains.ensures ∙ c.if-contains.true))

pub returns-else-contains : goal.returns-else-contains
returns-else-contains c = rw c.insert.ensures (toggled_out c.args.numbers.now c.args.number (sym c.contains.ensures ∙ c.if-contains.false))
