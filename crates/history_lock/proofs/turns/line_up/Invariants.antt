use Rattle.std.proofs.Common.{◌≡◌, Bool}
use Rattle.history_lock.specs.Seats.{IsSame}
use Rattle.history_lock.proofs.turns.line_up.Given as goal

-- but for the mark, the seat knows what it knew
abbrev pub invariant-loop : goal.invariant-loop
invariant-loop g l =
    (goal.iterator-loop g).can_next l.iterator' × (goal.iterator-loop g).is_finite l.iterator' × IsSame l.fn.place l.place
    × ((full : Bool) × (l.place.me ≡ (record l.fn.place.me.0 { ticket_full = full }, l.fn.place.me.1)))
