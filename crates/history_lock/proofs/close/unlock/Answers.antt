use Rattle.history_lock.proofs.Closings.{ended}
use Rattle.history_lock.proofs.close.unlock.Goals as goal

pub returns : goal.returns
returns g c = let place = c.requires.place in
    ended g.M.Machine.step g.M.Machine.Fits g.M.Machine.room c.args.table.shared.key c.args.place.id c.args.place.me.0 _ _ c.word-entries.result c.take-machine.result place.1 c.requires.all c.close_with-closed.ensures.values.2 c.word-entries.ensures
    c.take-machine.ensures.value
