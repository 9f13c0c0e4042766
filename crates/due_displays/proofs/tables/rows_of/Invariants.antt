use Rattle.due_displays.specs.TablesInside.{AreRowsOf}
use Rattle.due_displays.proofs.tables.rows_of.Given as goal

abbrev pub invariant-loop-screen : goal.invariant-loop-screen
invariant-loop-screen l = AreRowsOf l.screens l.screen l.rows.items
