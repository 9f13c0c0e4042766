use Rattle.std.proofs.Common.{◌≡◌, ◌+◌, ◌≤◌, ◌++◌, length, vec_capacity}
use Rattle.std.specs.Vec.Iter.{into_iter_items, into_iter_len}
use Rattle.drill.specs.WorkerInside.{seats_of}
use Rattle.drill.proofs.outcome.into_seats.Given as goal

-- With the seats of the workers that are left, all are there, and there is room for them.
abbrev pub invariant-loop-worker : goal.invariant-loop-worker
invariant-loop-worker l = record {
  counted : into_iter_len l.left ≡ length (into_iter_items l.left);
  shared : l.seats.items ++ seats_of (into_iter_items l.left) ≡ seats_of l.fn.workers.items;
  places : length l.seats.items + length (into_iter_items l.left) ≤ vec_capacity l.seats;
}

abbrev pub decreases-loop-worker : goal.decreases-loop-worker
decreases-loop-worker l = length (into_iter_items l.left)
