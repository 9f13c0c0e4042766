use Rattle.std.proofs.Common.{ap, arith, length}
use Rattle.plant_core.specs.StateFault.{panel_fields}
use Rattle.plant_core.proofs.FaultLemmas.{none_unless, none_at_first, none_more, found_at}
use Rattle.plant_core.proofs.state_fault.panels_fault.Goals as goal

pub loop-panel-init : goal.loop-panel-init
loop-panel-init c = none_at_first (panel_fields c.args.plant.now c.args.bytes.now)

pub loop-panel-preserved : goal.loop-panel-preserved
loop-panel-preserved c =
    none_more c.loop-panel.panel (panel_fields c.args.plant.now c.args.bytes.now) c.loop-panel.invariant
    (none_unless _ _ c.in_default.not-Some c.panel_fault.ensures)

pub returns-in-Some : goal.returns-in-Some
returns-in-Some c = found_at c.loop-panel.panel (length c.args.plant.now.panels) c.in-Some.place (panel_fields c.args.plant.now c.args.bytes.now) (omega (arith, ap length c.panels-panel-end.ensures.panels)) c.loop-panel.invariant c.in-Some.ensures
