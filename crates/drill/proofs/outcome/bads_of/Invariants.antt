use Rattle.std.proofs.Common.{◌≡◌, ◌%◌, ◌^◌, take}
use Rattle.std.specs.List.{sum_by}
use Rattle.drill.specs.declared.worker.Worker.{Worker}
use Rattle.drill.proofs.outcome.bads_of.Given as goal

abbrev pub invariant-loop-worker : goal.invariant-loop-worker
invariant-loop-worker l = l.total ≡ sum_by (λ (worker : Worker). worker.bads) (take l.worker-index l.workers) % 2 ^ 64
