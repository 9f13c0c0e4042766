use Rattle.tally.proofs.StartLemmas.{roots_none, roots_more}
use Rattle.tally.proofs.roots.set_of.Goals as goal

pub loop-dest-init : goal.loop-dest-init
loop-dest-init c = roots_none c.in_ok-set.set c.in_ok-set.ensures

pub loop-dest-preserved : goal.loop-dest-preserved
loop-dest-preserved c =
    roots_more c.args.dests.now c.loop-dest.dest-index c.dest-item.result c.get.result c.loop-dest.set c.insert.new.self c.loop-dest-test.true c.dest-item.is c.insert.ensures c.get.ensures c.loop-dest.invariant
