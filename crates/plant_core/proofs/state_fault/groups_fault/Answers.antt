use Rattle.std.proofs.Common.{arith}
use Rattle.salvo_groups.specs.Limits.{salvo_limit}
use Rattle.plant_core.specs.StateFault.{group_fields}
use Rattle.plant_core.proofs.FaultLemmas.{none_unless, none_at_first, none_more, found_at}
use Rattle.plant_core.proofs.state_fault.groups_fault.Goals as goal

pub loop-group-init : goal.loop-group-init
loop-group-init c = none_at_first (group_fields c.args.plant.now c.args.bytes.now)

pub loop-group-preserved : goal.loop-group-preserved
loop-group-preserved c =
    none_more c.loop-group.group (group_fields c.args.plant.now c.args.bytes.now) c.loop-group.invariant
    (none_unless _ _ c.in_default.not-Some c.group_fault.ensures)

pub returns-in-Some : goal.returns-in-Some
returns-in-Some c = found_at c.loop-group.group (salvo_limit) c.in-Some.place (group_fields c.args.plant.now c.args.bytes.now) (omega arith) c.loop-group.invariant c.in-Some.ensures
