use Rattle.std.proofs.Common.{◌∙◌, ◌+◌, sym, ap, subst, length, eqb-true, arith, refl}
use Rattle.plant_config.specs.Plant.{PlantData}
use Rattle.plant_core.specs.State.{FitsPlant}
use Rattle.command_standby.specs.declared.follow.Passed.{Passed}
use Rattle.command_standby.specs.FollowInside.{arrival_of}
use Rattle.command_standby.proofs.FollowLemmas.{come_none, come_more, come_all, read_bad}
use Rattle.command_standby.proofs.follow.take_lines.Goals as goal

pub loop-count-init : goal.loop-count-init
loop-count-init c = record {
  plant = c.requires.plant;
  old = let none = ap (λ (p : Passed). p.old_count) c.requires.passed in omega (arith, none);
  beyond = let none = ap (λ (p : Passed). p.beyond_count) c.requires.passed in omega (arith, none);
  come = come_none c.args.plant.now c.args.text.now c.args.standby.now c.args.passed.now c.requires.passed;
}

pub returns-then-is_empty-clause-came : goal.returns-then-is_empty-clause-came
returns-then-is_empty-clause-came c =
    come_all c.args.plant.now c.args.text.now c.loop-count.rest.now c.loop-count.count c.args.standby.now c.loop-count.differing c.loop-count.standby c.loop-count.passed c.loop-count.invariant.come
    (eqb-true (length c.loop-count.rest.now) 0 (sym c.is_empty.ensures ∙ c.if-is_empty.true))

pub returns-then-is_empty-clause-plant : goal.returns-then-is_empty-clause-plant
returns-then-is_empty-clause-plant c = c.loop-count.invariant.plant

pub take_next-differing-requires-clause-fits : goal.take_next-differing-requires-clause-fits
take_next-differing-requires-clause-fits c = subst (λ (plant : PlantData). FitsPlant plant c.in-Some.request) (sym c.loop-count.invariant.plant) c.in-Some.ensures.found.told.told.fits

pub take_next-differing-requires-clause-few_old : goal.take_next-differing-requires-clause-few_old
take_next-differing-requires-clause-few_old c = omega (arith, c.loop-count.invariant.old, c.loop-count-test.true)

pub take_next-differing-requires-clause-few_beyond : goal.take_next-differing-requires-clause-few_beyond
take_next-differing-requires-clause-few_beyond c = omega (arith, c.loop-count.invariant.beyond, c.loop-count-test.true)

pub returns-in_default-clause-refused : goal.returns-in_default-clause-refused
returns-in_default-clause-refused c =
    read_bad c.args.plant.now c.args.text.now c.loop-count.rest.now c.split_line.result.0.now c.split_line.result.1.now c.loop-count.count (c.loop-count.count + 1) c.loop-count.invariant.come.so_far c.split_line.ensures.lines
    (λ arrival tells. cc (c.in_default.ensures.only arrival tells)) refl

pub returns-in_default-clause-plant : goal.returns-in_default-clause-plant
returns-in_default-clause-plant c = c.loop-count.invariant.plant

pub loop-count-preserved : goal.loop-count-preserved
loop-count-preserved c =
    let so_far = c.loop-count.invariant in
    record {
      plant = c.take_next-differing.ensures.plant ∙ so_far.plant;
      old = omega (arith, c.take_next-differing.ensures.old, so_far.old);
      beyond = omega (arith, c.take_next-differing.ensures.beyond, so_far.beyond);
      come =
          come_more c.args.plant.now c.args.text.now c.loop-count.rest.now c.split_line.result.0.now c.split_line.result.1.now c.loop-count.count c.args.standby.now c.loop-count.differing c.take_next-differing.result
          c.loop-count.standby c.take_next-differing.new.standby c.loop-count.passed c.take_next-differing.new.passed (arrival_of c.in-Some.position c.in-Some.request) so_far.come c.split_line.ensures.lines c.split_line.ensures.shorter
          c.in-Some.ensures.found c.take_next-differing.ensures.came;
    }

pub returns-clause-came : goal.returns-clause-came
returns-clause-came c =
    come_all c.args.plant.now c.args.text.now c.loop-count.rest.now c.loop-count.count c.args.standby.now c.loop-count.differing c.loop-count.standby c.loop-count.passed c.loop-count.invariant.come
    (omega (arith, c.loop-count.invariant.come.so_far.fewer, c.loop-count-test.false))

pub returns-clause-plant : goal.returns-clause-plant
returns-clause-plant c = c.loop-count.invariant.plant
