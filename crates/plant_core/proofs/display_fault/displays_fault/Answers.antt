use Rattle.std.proofs.Common.{ap, arith, length}
use Rattle.plant_core.specs.StateFault.{display_fields}
use Rattle.plant_core.proofs.FaultLemmas.{none_unless, none_at_first, none_more, found_at}
use Rattle.plant_core.proofs.display_fault.displays_fault.Goals as goal

pub loop-display-init : goal.loop-display-init
loop-display-init c = none_at_first (display_fields c.args.plant.now c.args.bytes.now)

pub loop-display-preserved : goal.loop-display-preserved
loop-display-preserved c =
    none_more c.loop-display.display (display_fields c.args.plant.now c.args.bytes.now) c.loop-display.invariant
    (none_unless _ _ c.in_default.not-Some c.display_fault.ensures)

pub returns-in-Some : goal.returns-in-Some
returns-in-Some c = found_at c.loop-display.display (length c.args.plant.now.displays) c.in-Some.place (display_fields c.args.plant.now c.args.bytes.now) (omega (arith, ap length c.displays-display-end.ensures.displays)) c.loop-display.invariant c.in-Some.ensures
