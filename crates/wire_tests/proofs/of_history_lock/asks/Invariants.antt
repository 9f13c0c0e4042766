use Rattle.std.proofs.Common.{◌≡◌}
use Rattle.wire_tests.proofs.of_history_lock.asks.Given as goal

abbrev pub invariant-loop : goal.invariant-loop
invariant-loop g l = (l.seat.lock ≡ l.fn.seat.lock) × (l.seat.number ≡ l.fn.seat.number) × (l.out.places ≡ 1)
