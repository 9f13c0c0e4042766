use Rattle.std.proofs.Common.{◌≡◌, [], List, ◌++◌, All}
use Rattle.history_lock.specs.declared.view.Stage.TheVariants.{Idle}
use Rattle.history_lock.specs.Seats.{IsAt, SeatData}
use Rattle.history_lock.specs.ClosingInside.{IsTaken}
use Rattle.history_lock.proofs.close.gather.Given as goal

-- those that are left and those that were joined are all seats
abbrev pub invariant-loop-seat : goal.invariant-loop-seat
invariant-loop-seat g l =
    IsAt l.top.table_id l.all × (l.all.me.1 ≡ []) × (l.all.me.0.stage ≡ Idle)
    × ((taken : List (SeatData g.row.M.Denot g.row.M-Request.Denot g.row.M-Answer.Denot)) × (l.fn.seats.items ≡ l.seats.items ++ taken) × All (IsTaken l.all.me.0) taken)

abbrev pub decreases-loop-seat : goal.decreases-loop-seat
decreases-loop-seat g l = goal.left-loop-seat g l
