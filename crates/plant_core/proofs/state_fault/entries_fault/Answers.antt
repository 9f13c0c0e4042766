use Rattle.std.proofs.Common.{arith}
use Rattle.salvo_groups.specs.Limits.{group_limit}
use Rattle.plant_core.specs.StateFault.{entry_fields}
use Rattle.plant_core.proofs.FaultLemmas.{none_unless, none_at_first, none_more, found_at}
use Rattle.plant_core.proofs.state_fault.entries_fault.Goals as goal

pub loop-index-init : goal.loop-index-init
loop-index-init c = none_at_first (entry_fields c.args.plant.now c.args.bytes.now c.args.group)

pub loop-index-preserved : goal.loop-index-preserved
loop-index-preserved c =
    none_more c.loop-index.index (entry_fields c.args.plant.now c.args.bytes.now c.args.group) c.loop-index.invariant
    (none_unless _ _ c.in_default.not-Some c.entry_fault.ensures)

pub returns-in-Some : goal.returns-in-Some
returns-in-Some c = found_at c.loop-index.index (group_limit) c.in-Some.place (entry_fields c.args.plant.now c.args.bytes.now c.args.group) (omega arith) c.loop-index.invariant c.in-Some.ensures
