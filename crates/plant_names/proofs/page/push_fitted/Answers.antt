use Rattle.std.proofs.Common.{append_assoc, refl, arith}
use Rattle.plant_names.proofs.PageLemmas.{fitted-more}
use Rattle.plant_names.proofs.page.push_fitted.Goals as goal

pub loop-place-preserved : goal.loop-place-preserved
loop-place-preserved c = record {
  text = rw (c.push_reserved.ensures.items, c.loop-place.invariant.text, c.byte_at.ensures, append_assoc, fitted-more c.loop-place.place c.args.name.now) refl;
  len = omega arith;
  capacity = omega arith;
}
