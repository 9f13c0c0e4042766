use Rattle.std.proofs.Common.{◌≡◌}
use Rattle.history_lock.specs.Seats.{IsSame}
use Rattle.history_lock.proofs.turns.take_turn.Given as goal

abbrev pub invariant-loop : goal.invariant-loop
invariant-loop g l =
    (goal.iterator-loop g).can_next l.iterator' × (goal.iterator-loop g).is_finite l.iterator' × IsSame l.fn.place l.place × (l.place.me ≡ l.fn.place.me)
