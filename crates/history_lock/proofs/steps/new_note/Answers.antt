use Rattle.std.proofs.Common.{rules}
use Rattle.history_lock.proofs.Joins.{notes}
use Rattle.history_lock.proofs.steps.new_note.Goals as goal

pub split_seat-requires : goal.split_seat-requires
split_seat-requires g c = (search rules, search rules, notes g.M.Machine.step g.M.Machine.Fits g.M.Machine.room c.args.top.now.key _ _)
