use Rattle.due_displays.proofs.PositionLemmas.{PutBelow}
use Rattle.due_displays.proofs.tables.put_positions.Given as goal

abbrev pub invariant-loop-position : goal.invariant-loop-position
invariant-loop-position l = PutBelow l.displays l.position l.fn.positions l.positions
