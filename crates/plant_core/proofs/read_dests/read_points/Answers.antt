use Rattle.plant_core.specs.ReadInside.{spot_in}
use Rattle.plant_core.proofs.DestsRead.{have_none, have_put}
use Rattle.plant_core.proofs.read_dests.read_points.Goals as goal

pub loop-number-init : goal.loop-number-init
loop-number-init c = record {
  each = have_none (spot_in c.args.bytes.now) c.in_ok-points.points.entries c.in_ok-points.ensures.parked;
  kept = c.in_ok-points.ensures.kept;
}

pub loop-number-preserved : goal.loop-number-preserved
loop-number-preserved c = record {
  each =
      have_put c.loop-number.number c.of-dest.result c.spot_in.result (spot_in c.args.bytes.now) c.loop-number.points.entries c.set.new.self.entries
      c.loop-number.invariant.each c.set.ensures.entries c.of-dest.ensures c.spot_in.ensures;
  kept = c.set.ensures.kept;
}
