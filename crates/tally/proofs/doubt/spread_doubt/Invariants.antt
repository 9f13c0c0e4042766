use Rattle.std.proofs.Common.{◌+◌, ◌*◌, ◌-◌, ◌≤◌}
use Rattle.std.specs.FinSet.{contains}
use Rattle.tally.specs.Lost.{HasSpread}
use Rattle.tally.specs.Weight.{weigh, device_weight}
use Rattle.tally.proofs.doubt.spread_doubt.Given as goal

abbrev pub invariant-loop-device : goal.invariant-loop-device
invariant-loop-device g l = record {
  spread : HasSpread l.graph.plant l.roots l.fn.marks l.marks l.fn.waiting l.waiting l.doubted;
  counted : l.steps ≤ l.fn.steps + 3 * weigh (device_weight l.graph.plant) (contains l.doubted);
}

abbrev pub decreases-loop-device : goal.decreases-loop-device
decreases-loop-device g l = 64 - weigh (λ _. 1) (contains l.doubted)
