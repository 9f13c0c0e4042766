use Rattle.std.proofs.Common.{ℕ, ◌+◌, Option, Ok, ap, sym, subst, ◌∙◌, arith}
use Rattle.plant_config.specs.Plant.{destinations_of}
use Rattle.plant_core.specs.StateFault.{dest_fields, first_broken}
use Rattle.plant_core.specs.FirstTies.{AreFirstsOf}
use Rattle.plant_core.proofs.FaultLemmas.{none_at_first, none_more, found_at}
use Rattle.plant_core.proofs.FirstTieLemmas.{both_none}
use Rattle.plant_core.proofs.HoldLemmas.{ties_held_below}
use Rattle.plant_core.proofs.state_fault.tabled_fault.Goals as goal

pub dest_fault-requires-clause-earlier : goal.dest_fault-requires-clause-earlier
dest_fault-requires-clause-earlier c = λ dest below. ties_held_below c.args.plant.now c.args.bytes.now dest c.loop-number.number (omega (arith, below, c.of-dest.ensures)) c.loop-number.invariant.none

pub loop-number-init : goal.loop-number-init
loop-number-init c = record {
  none = none_at_first (dest_fields c.args.plant.now c.args.bytes.now);
  firsts = both_none c.args.plant.now c.args.bytes.now _ _ c.new-by_tie.ensures.empty c.new-by_origin.ensures.empty;
}

pub loop-number-preserved : goal.loop-number-preserved
loop-number-preserved c =
    let plant = c.args.plant.now in
    let bytes = c.args.bytes.now in
    record {
      none = none_more c.loop-number.number (dest_fields plant bytes) c.loop-number.invariant.none (sym c.in_default.is ∙ c.in_ok-place.ensures.fault ∙ ap (λ (number : ℕ). first_broken (dest_fields plant bytes number)) c.of-dest.ensures);
      firsts =
          subst (λ (number : ℕ). AreFirstsOf plant bytes (number + 1) c.dest_fault.new.by_tie c.dest_fault.new.by_origin) c.of-dest.ensures
          (c.dest_fault.ensures.firsts (c.in_ok-place.was ∙ ap (λ (fault : Option ℕ). Ok fault) c.in_default.is));
    }

pub returns-in-Some : goal.returns-in-Some
returns-in-Some c =
    let plant = c.args.plant.now in
    let bytes = c.args.bytes.now in
    found_at c.loop-number.number (destinations_of plant) c.in-Some.place (dest_fields plant bytes) (omega arith) c.loop-number.invariant.none
    (sym c.in-Some.is ∙ c.in_ok-place.ensures.fault ∙ ap (λ (number : ℕ). first_broken (dest_fields plant bytes number)) c.of-dest.ensures)
