use Rattle.std.proofs.Common.{refl}
use Rattle.history_lock.proofs.turns.line_up.Goals as goal

pub loop-init : goal.loop-init
loop-init g c = (tt, tt, (refl, refl), (c.args.place.now.me.0.ticket_full, refl))
