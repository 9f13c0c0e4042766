use Rattle.std.proofs.Common.{arith}
use Rattle.panel_session.proofs.RoomLemmas.{answers-most, names-bounded}
use Rattle.panel_session.proofs.sending.sender.Sender.new.Goals as goal

pub overflow_mul-most : goal.overflow_mul-most
overflow_mul-most c = omega (arith, c.count_most.ensures.is, c.room_of.ensures, answers-most c.args.plant.now, names-bounded c.args.plant.now c.count_most.ensures.plant)

pub overflow_add-most : goal.overflow_add-most
overflow_add-most c = omega (arith, c.count_most.ensures.is, c.room_of.ensures, answers-most c.args.plant.now, names-bounded c.args.plant.now c.count_most.ensures.plant)
