use Rattle.std.proofs.Common.{refl, ap, ◌∙◌}
use Rattle.std.specs.FinMap.{get}
use Rattle.plant_core.specs.ReadInside.{owner_in}
use Rattle.plant_core.proofs.DestsRead.{have_none, have_put, none_next}
use Rattle.plant_core.proofs.read_dests.read_owners.Goals as goal

pub loop-number-init : goal.loop-number-init
loop-number-init c = record {
  each = have_none (owner_in c.args.bytes.now) c.in_ok-protects.protects.entries c.in_ok-protects.ensures.free;
  room = c.in_ok-protects.ensures.room;
}

pub read_owner-requires-clause-free : goal.read_owner-requires-clause-free
read_owner-requires-clause-free c =
    ap (get c.loop-number.protects.entries) c.of.ensures ∙ none_next c.loop-number.number (owner_in c.args.bytes.now) c.loop-number.protects.entries c.loop-number.invariant.each

pub loop-number-preserved : goal.loop-number-preserved
loop-number-preserved c = record {
  each =
      have_put c.loop-number.number c.of.result (owner_in c.args.bytes.now c.of.result) (owner_in c.args.bytes.now) c.loop-number.protects.entries c.read_owner.new.protects.entries
      c.loop-number.invariant.each c.read_owner.ensures.owner c.of.ensures refl;
  room = c.read_owner.ensures.room ∙ c.loop-number.invariant.room;
}
