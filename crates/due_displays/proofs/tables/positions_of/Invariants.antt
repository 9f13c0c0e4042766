use Rattle.due_displays.specs.TablesInside.{ArePositionsOf}
use Rattle.due_displays.proofs.tables.positions_of.Given as goal

abbrev pub invariant-loop-screen : goal.invariant-loop-screen
invariant-loop-screen l = ArePositionsOf l.plant l.screen l.positions.items
