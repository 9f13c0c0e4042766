use Rattle.std.proofs.Common.{sym, arith}
use Rattle.plant_core.specs.StateFault.{notices_fields}
use Rattle.plant_core.proofs.NoticesFaultLemmas.{none_many}
use Rattle.plant_core.proofs.notices_fault.fault_of_64.Goals as goal

pub returns-then-hold_at_once : goal.returns-then-hold_at_once
returns-then-hold_at_once c =
    sym (none_many c.args.first 64 (notices_fields c.args.plant.now c.args.bytes.now c.args.panel) c.requires.before (c.hold_at_once.ensures c.if-hold_at_once.true))

pub overflow_add-first : goal.overflow_add-first
overflow_add-first c = omega (arith, c.requires.first, c.requires.plant.destinations)
