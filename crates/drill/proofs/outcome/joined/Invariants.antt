use Rattle.std.proofs.Common.{◌≡◌, take}
use Rattle.drill.specs.WorkerInside.{traces_of}
use Rattle.drill.proofs.outcome.joined.Given as goal

-- The traces so far are joined.
abbrev pub invariant-loop-worker : goal.invariant-loop-worker
invariant-loop-worker l = l.text.items ≡ traces_of (take l.worker-index l.workers)
