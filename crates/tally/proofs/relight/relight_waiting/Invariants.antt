use Rattle.std.proofs.Common.{[], ◌+◌, ◌*◌, ◌-◌, ◌≤◌}
use Rattle.std.specs.FinSet.{contains}
use Rattle.tally.specs.Lost.{AreDevices}
use Rattle.tally.specs.Relit.{AreRelit}
use Rattle.tally.specs.Weight.{weigh, device_weight}
use Rattle.tally.proofs.relight.relight_waiting.Given as goal

abbrev pub invariant-loop-device : goal.invariant-loop-device
invariant-loop-device g l = record {
  relit : AreRelit l.graph.plant l.graph.crosspoints l.roots [] l.fn.marks l.marks l.fn.waiting l.waiting;
  devices : AreDevices l.graph.plant l.waiting;
  counted :
      l.steps + 6 * (weigh (device_weight l.graph.plant) (contains l.waiting) + weigh (device_weight l.graph.plant) (contains l.fn.marks.fed))
      ≤ l.fn.steps + 6 * (weigh (device_weight l.graph.plant) (contains l.fn.waiting) + weigh (device_weight l.graph.plant) (contains l.marks.fed));
}

abbrev pub decreases-loop-device : goal.decreases-loop-device
decreases-loop-device g l = 64 - weigh (λ _. 1) (contains l.marks.fed) + weigh (λ _. 1) (contains l.waiting)
