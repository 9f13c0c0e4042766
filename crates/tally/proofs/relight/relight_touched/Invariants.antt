use Rattle.std.proofs.Common.{◌+◌, ◌*◌, ◌≤◌, take, length}
use Rattle.tally.specs.Touched.{touched_by}
use Rattle.tally.specs.Relit.{AreRelit}
use Rattle.tally.proofs.relight.relight_touched.Given as goal

abbrev pub invariant-loop-change : goal.invariant-loop-change
invariant-loop-change g l = record {
  relit : AreRelit l.graph.plant l.graph.crosspoints l.roots (touched_by l.graph.plant (take l.change-index l.changes)) l.fn.marks l.marks l.fn.waiting l.waiting;
  counted : l.steps ≤ l.fn.steps + 6 * length (touched_by l.graph.plant (take l.change-index l.changes));
}
