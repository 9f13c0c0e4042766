use Rattle.std.proofs.Common.{◌≡◌, ℕ, ◌<◌, length, [], Some, slice_get, vec_capacity}
use Rattle.history_lock.specs.Rule.{maker}
use Rattle.history_lock.specs.Seats.{IsAt}
use Rattle.history_lock.specs.Locks.{new_seat}
use Rattle.history_lock.proofs.lock.HistoryLock.new.Given as goal

-- the maker gave the numbers so far, one to each seat
abbrev pub invariant-loop-number : goal.invariant-loop-number
invariant-loop-number g l =
    IsAt l.table.shared.table_id l.maker
    × (l.maker.me ≡ (record (maker g.M.Machine.step g.M.Machine.Fits g.M.Machine.room l.start) { given = Some l.number }, []))
    × (vec_capacity l.all ≡ l.seats)
    × (length l.all.items ≡ l.number)
    × ((k : ℕ) → k < l.number → slice_get l.all.items k ≡ Some (new_seat l.table.shared.table_id l.fn.machine k))
