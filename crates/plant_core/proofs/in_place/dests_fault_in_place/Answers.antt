use Rattle.std.proofs.Common.{ap, ◌∙◌, arith}
use Rattle.plant_config.specs.Plant.{destinations_of}
use Rattle.plant_core.specs.StateFault.{dest_fields, first_broken}
use Rattle.plant_core.proofs.FaultLemmas.{none_unless, none_at_first, none_more, found_at}
use Rattle.plant_core.proofs.in_place.dests_fault_in_place.Goals as goal

pub loop-number-init : goal.loop-number-init
loop-number-init c = none_at_first (dest_fields c.args.plant.now c.args.bytes.now)

pub loop-number-preserved : goal.loop-number-preserved
loop-number-preserved c =
    none_more c.loop-number.number (dest_fields c.args.plant.now c.args.bytes.now) c.loop-number.invariant
    (none_unless _ _ c.in_default.not-Some (c.dest_fault.ensures ∙ ap (λ number. first_broken (dest_fields c.args.plant.now c.args.bytes.now number)) c.of.ensures))

pub returns-in-Some : goal.returns-in-Some
returns-in-Some c = found_at c.loop-number.number (destinations_of c.args.plant.now) c.in-Some.place (dest_fields c.args.plant.now c.args.bytes.now) (omega arith) c.loop-number.invariant (c.in-Some.ensures ∙ ap (λ number. first_broken (dest_fields c.args.plant.now c.args.bytes.now number)) c.of.ensures)
