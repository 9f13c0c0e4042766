use Rattle.due_displays.proofs.RowLemmas.{AreBare}
use Rattle.due_displays.proofs.row.Row.lowest.Given as goal

abbrev pub invariant-loop-number : goal.invariant-loop-number
invariant-loop-number l = AreBare l.self-inside.sets.items l.number
