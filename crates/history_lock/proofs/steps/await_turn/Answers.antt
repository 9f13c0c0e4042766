use Rattle.std.proofs.Common.{rules}
use mathlib.Core.Option.{none}
use Rattle.atomic_table.specs.Table.{step}
use Rattle.history_lock.proofs.Awaits.{awaits}
use Rattle.history_lock.proofs.steps.await_turn.Goals as goal

pub load-requires : goal.load-requires
load-requires g c = (search rules, search rules, awaits g.M.Machine.step g.M.Machine.Fits g.M.Machine.room c.args.top.now.key _ _ c.args.ticket _ (step c.args.top.now.table_id.slots 0 0 0 none) c.requires.waits)
