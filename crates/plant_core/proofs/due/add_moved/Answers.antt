use Rattle.std.proofs.Common.{arith}
use Rattle.plant_core.proofs.DueLemmas.{stay_self, stay_more, moved_none, moved_more, moved_all}
use Rattle.plant_core.proofs.due.add_moved.Goals as goal

pub loop-change-init : goal.loop-change-init
loop-change-init c = record {
  due = stay_self c.args.plant.now c.args.due.now c.requires;
  moved = moved_none c.args.plant.now c.args.due.now c.args.changes.now;
}

pub loop-change-preserved : goal.loop-change-preserved
loop-change-preserved c = record {
  due = stay_more c.args.plant.now c.args.due.now c.loop-change.due c.add_watchers.new.self c.change-item.result.dest c.loop-change.invariant.due c.add_watchers.ensures;
  moved = moved_more c.args.plant.now c.loop-change.due c.add_watchers.new.self c.args.changes.now c.loop-change.change-index c.change-item.result c.change-item.is c.add_watchers.ensures c.loop-change.invariant.moved;
}

pub returns-clause-moved : goal.returns-clause-moved
returns-clause-moved c = moved_all c.args.plant.now c.loop-change.due c.args.changes.now c.loop-change.change-index (omega (arith, c.loop-change-test.false)) c.loop-change.invariant.moved
