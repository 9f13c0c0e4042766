use Rattle.std.proofs.Common.{ap, ◌∙◌, arith}
use Rattle.plant_core.specs.StateFault.{notices_fields, first_broken}
use Rattle.plant_core.proofs.FaultLemmas.{none_unless, none_more, found_at, few_may}
use Rattle.plant_core.proofs.notices_fault.fault_below.Goals as goal

pub notices_fault-requires-clause-few : goal.notices_fault-requires-clause-few
notices_fault-requires-clause-few c = few_may c.args.plant.now c.args.bytes.now c.args.panel c.of-dest.result c.args.few c.requires.few

pub loop-number-preserved : goal.loop-number-preserved
loop-number-preserved c =
    none_more c.loop-number.number (notices_fields c.args.plant.now c.args.bytes.now c.args.panel) c.loop-number.invariant
    (none_unless _ _ c.in_default.not-Some (c.notices_fault.ensures ∙ ap (λ number. first_broken (notices_fields c.args.plant.now c.args.bytes.now c.args.panel number)) c.of-dest.ensures))

pub returns-in-Some : goal.returns-in-Some
returns-in-Some c = found_at c.loop-number.number c.args.end c.in-Some.place (notices_fields c.args.plant.now c.args.bytes.now c.args.panel) (omega arith) c.loop-number.invariant (c.in-Some.ensures ∙ ap (λ number. first_broken (notices_fields c.args.plant.now c.args.bytes.now c.args.panel number)) c.of-dest.ensures)
