use Rattle.std.proofs.Common.{rules}
use mathlib.Core.Option.{none}
use Rattle.atomic_table.specs.Table.{step}
use Rattle.history_lock.proofs.Ends.{ends}
use Rattle.history_lock.proofs.steps.end_turn.Goals as goal

pub fetch_add-requires : goal.fetch_add-requires
fetch_add-requires g c = let w = c.requires.worked in
    (search rules, search rules, ends g.M.Machine.step g.M.Machine.Fits g.M.Machine.room c.args.top.now.key c.args.top.now.table_id.slots c.args.place.now.id w.t w.n c.args.place.now.me c.args.start.now.value.machine.value w.desk c.args.request.now w.holds w.first_is w.all_seen w.slot w.asks w.number w.machine w.fits w.accepts (step c.args.top.now.table_id.slots 0 1 0 none))

pub returns-clause-ended : goal.returns-clause-ended
returns-clause-ended g c = let w = c.requires.worked in c.fetch_add.ensures.2 w.t c.args.start.now.value.machine.value w.desk c.args.request.now w.holds w.first_is w.slot w.asks
