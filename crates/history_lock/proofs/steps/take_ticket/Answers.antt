use Rattle.std.proofs.Common.{rules}
use Rattle.history_lock.proofs.Queue.{takes_ticket}
use Rattle.history_lock.proofs.steps.take_ticket.Goals as goal

pub compare_exchange-requires : goal.compare_exchange-requires
compare_exchange-requires g c = (search rules, search rules, takes_ticket g.M.Machine.step g.M.Machine.Fits g.M.Machine.room c.args.top.now.key _ _ _ _ c.requires.idle.0 c.requires.idle.1 c.requires.below)
