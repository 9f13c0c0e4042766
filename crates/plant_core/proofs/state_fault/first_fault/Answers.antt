use Rattle.plant_core.proofs.FaultLemmas.{none_unless, in_counts, in_dests, in_groups, in_panels, in_displays}
use Rattle.plant_core.proofs.state_fault.first_fault.Goals as goal

pub returns-in-Some : goal.returns-in-Some
returns-in-Some c = in_counts c.args.plant.now c.args.bytes.now _ c.in-Some.ensures

pub returns-in-Some-dests_fault : goal.returns-in-Some-dests_fault
returns-in-Some-dests_fault c =
    in_dests c.args.plant.now c.args.bytes.now _ (none_unless _ _ c.in_default.not-Some c.counts_fault.ensures) c.in-Some-dests_fault.ensures

pub returns-in-Some-groups_fault : goal.returns-in-Some-groups_fault
returns-in-Some-groups_fault c =
    in_groups c.args.plant.now c.args.bytes.now _ (none_unless _ _ c.in_default.not-Some c.counts_fault.ensures)
    (none_unless _ _ c.in_default-dests_fault.not-Some c.dests_fault.ensures) c.in-Some-groups_fault.ensures

pub returns-in-Some-panels_fault : goal.returns-in-Some-panels_fault
returns-in-Some-panels_fault c =
    in_panels c.args.plant.now c.args.bytes.now _ (none_unless _ _ c.in_default.not-Some c.counts_fault.ensures)
    (none_unless _ _ c.in_default-dests_fault.not-Some c.dests_fault.ensures)
    (none_unless _ _ c.in_default-groups_fault.not-Some c.groups_fault.ensures) c.in-Some-panels_fault.ensures

pub returns : goal.returns
returns c =
    in_displays c.args.plant.now c.args.bytes.now _ (none_unless _ _ c.in_default.not-Some c.counts_fault.ensures)
    (none_unless _ _ c.in_default-dests_fault.not-Some c.dests_fault.ensures)
    (none_unless _ _ c.in_default-groups_fault.not-Some c.groups_fault.ensures)
    (none_unless _ _ c.in_default-panels_fault.not-Some c.panels_fault.ensures) c.displays_fault.ensures
