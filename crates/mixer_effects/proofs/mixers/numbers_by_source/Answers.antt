use Rattle.std.proofs.Common.{◌≡◌, ℕ, Some, arith, ap, sym, subst, ◌∙◌}
use Rattle.plant_config.specs.Plant.{sources_of}
use Rattle.plant_config.specs.Sites.{source_number_of}
use Rattle.mixer_effects.specs.WiringInside.{HaveNumbersBelow}
use Rattle.mixer_effects.proofs.NumberLemmas.{numbers_none, numbers_more}
use Rattle.mixer_effects.proofs.mixers.numbers_by_source.Goals as goal

pub loop-number-init : goal.loop-number-init
loop-number-init c = record {
  have = numbers_none c.args.plant.now c.in_ok-by_source.by_source.entries c.in_ok-by_source.ensures.empty;
  room = c.in_ok-by_source.ensures.room ∙ c.source_count-sources.ensures.count;
}

pub loop-number-preserved : goal.loop-number-preserved
loop-number-preserved c =
    let plant = c.args.plant.now in
    let number = c.loop-number.number in
    let here : source_number_of plant number ≡ Some c.source_number.result = ap (source_number_of plant) (sym c.of-source.ensures) ∙ c.source_number.ensures.number in
    record {
      have = numbers_more plant number c.source_number.result c.loop-number.by_source.entries c.set.new.self.entries c.loop-number.invariant.have here c.set.ensures.entries;
      room = c.set.ensures.room ∙ c.loop-number.invariant.room;
    }

pub returns : goal.returns
returns c =
    let plant = c.args.plant.now in
    let all : c.loop-number.number ≡ sources_of plant = omega (arith, c.loop-number-test.false, c.loop-number.auto.number-end, c.source_count-sources.ensures.count) in
    subst (λ (number : ℕ). HaveNumbersBelow plant number c.loop-number.by_source.entries) all c.loop-number.invariant.have
