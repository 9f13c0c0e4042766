use Rattle.std.proofs.Common.{rules}
use Rattle.history_lock.proofs.Comes.{gives_seat}
use Rattle.history_lock.proofs.make.give.Goals as goal

pub split_seat-requires : goal.split_seat-requires
split_seat-requires g c = let next = c.requires.next in
    (search rules, search rules, gives_seat g.M.Machine.step g.M.Machine.Fits g.M.Machine.room c.args.top.now.key c.args.maker.now.id c.args.number c.args.maker.now.me.0 next.0 next.1 c.requires.below)
