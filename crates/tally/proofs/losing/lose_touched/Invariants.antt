use Rattle.std.proofs.Common.{◌+◌, ◌*◌, ◌≤◌, take, length}
use Rattle.tally.specs.Touched.{touched_by}
use Rattle.tally.specs.Lost.{AreLost}
use Rattle.tally.proofs.losing.lose_touched.Given as goal

abbrev pub invariant-loop-change : goal.invariant-loop-change
invariant-loop-change g l = record {
  lost : AreLost l.graph.plant (touched_by l.graph.plant (take l.change-index l.changes)) l.fn.marks l.marks l.fn.waiting l.waiting l.doubted;
  counted : l.steps ≤ l.fn.steps + 3 * length (touched_by l.graph.plant (take l.change-index l.changes));
}
