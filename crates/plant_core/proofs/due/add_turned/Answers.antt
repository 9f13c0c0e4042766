use Rattle.std.proofs.Common.{arith}
use Rattle.plant_core.proofs.DueLemmas.{stay_self, stay_then, tapped_none, tapped_more, tapped_all}
use Rattle.plant_core.proofs.due.add_turned.Goals as goal

pub loop-origin-init : goal.loop-origin-init
loop-origin-init c = record {
  due = stay_self c.args.plant.now c.args.due.now c.requires.due;
  tapped = tapped_none c.args.plant.now c.args.due.now c.args.points.now.taps c.args.origins.now;
}

pub loop-origin-preserved : goal.loop-origin-preserved
loop-origin-preserved c = record {
  due = stay_then c.args.plant.now c.args.due.now c.loop-origin.due c.add_taps.new.due c.loop-origin.invariant.due c.add_taps.ensures.due;
  tapped = tapped_more c.args.plant.now c.loop-origin.due c.add_taps.new.due c.args.points.now.taps c.args.origins.now c.loop-origin.origin-index c.origin-item.result c.origin-item.is c.add_taps.ensures.due c.add_taps.ensures.tapped c.loop-origin.invariant.tapped;
}

pub returns-clause-tapped : goal.returns-clause-tapped
returns-clause-tapped c = tapped_all c.args.plant.now c.loop-origin.due c.args.points.now.taps c.args.origins.now c.loop-origin.origin-index (omega (arith, c.loop-origin-test.false)) c.loop-origin.invariant.tapped
