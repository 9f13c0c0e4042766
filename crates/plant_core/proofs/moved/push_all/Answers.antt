use Rattle.std.proofs.Common.{◌++◌, ◌∙◌, arith}
use Rattle.plant_core.specs.StateInside.{busy_of}
use Rattle.plant_core.proofs.BusyLemmas.{busy_more}
use Rattle.plant_core.proofs.moved.push_all.Goals as goal

pub loop-change-preserved : goal.loop-change-preserved
loop-change-preserved c = record {
  few = omega (arith, c.push_busy.ensures.most, c.loop-change.invariant.few);
  busy =
      rw c.push_busy.ensures.items
      (busy_more c.args.points.now.entries c.loop-change.list.items (c.args.list.now.items ++ busy_of c.args.points.now.entries c.args.changes.now) c.args.changes.now c.loop-change.change-index c.change-item.result c.loop-change-test.true
      c.change-item.is c.loop-change.invariant.busy);
  capacity = c.push_busy.ensures.capacity ∙ c.loop-change.invariant.capacity;
}
