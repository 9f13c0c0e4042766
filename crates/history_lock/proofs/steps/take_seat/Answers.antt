use Rattle.std.proofs.Common.{rules}
use Rattle.history_lock.proofs.Joins.{joins_seat}
use Rattle.history_lock.proofs.steps.take_seat.Goals as goal

pub join_seat-requires : goal.join_seat-requires
join_seat-requires g c = (search rules, search rules, search rules, search rules, joins_seat g.M.Machine.step g.M.Machine.Fits g.M.Machine.room c.args.top.now.key _ _ _ _ c.requires.idle c.requires.other.2)
