use Rattle.std.proofs.Common.{arith}
use Rattle.std.proofs.lemmas.Grind.{common_steps}
use Rattle.ctl_net.proofs.LinkEventsLemmas.{most_more}
use Rattle.ctl_net.proofs.memory.mem_input.count_reads.Goals as goal

pub loop-event-preserved : goal.loop-event-preserved
loop-event-preserved c = grind (arith, common_steps, most_more, c.loop-event.invariant, c.reads_of.ensures)
