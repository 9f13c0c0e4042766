use Rattle.std.proofs.Common.{◌≡◌}
use Rattle.history_lock.specs.Seats.{IsSame}
use Rattle.history_lock.proofs.turns.queue.Given as goal

-- the seat knows what it knew
abbrev pub invariant-loop : goal.invariant-loop
invariant-loop g l = IsSame l.fn.place l.place × (l.place.me ≡ l.fn.place.me)
