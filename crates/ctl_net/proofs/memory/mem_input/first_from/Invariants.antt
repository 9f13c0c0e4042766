use Rattle.std.proofs.Common.{◌≡◌, ◌-◌, ◌≤◌, length, drop}
use Rattle.ctl_net.specs.LinkEvents.{ahead}
use Rattle.ctl_net.proofs.memory.mem_input.first_from.Given as goal

abbrev pub invariant-loop-next : goal.invariant-loop-next
invariant-loop-next l = record {
  within : l.next ≤ length l.events;
  ahead : ahead (drop l.next l.events) ≡ ahead (drop l.at l.events);
}

abbrev pub decreases-loop-next : goal.decreases-loop-next
decreases-loop-next l = length l.events - l.next
