use Rattle.std.proofs.Common.{◌≡◌, take}
use Rattle.ctl_net.specs.LinkEvents.{most_reads}
use Rattle.ctl_net.proofs.memory.mem_input.count_reads.Given as goal

abbrev pub invariant-loop-event : goal.invariant-loop-event
invariant-loop-event l = l.count ≡ most_reads (take l.event-index l.events)
