use Rattle.std.proofs.Common.{length, ap, arith}
use Rattle.tsl_umd5.specs.Packet.{Display}
use Rattle.record_replay.specs.MonitorInside.{count_in}
use Rattle.record_replay.proofs.MonitorLemmas.{few_messages, one_less}
use Rattle.record_replay.proofs.monitor.count_displays.Goals as goal

pub loop-count-init : goal.loop-count-init
loop-count-init c = record { all = omega (arith, ap count_in c.in-Ok.ensures.exact); few = omega (arith, few_messages c.args.bytes.now c.in-Ok.packet c.in-Ok.ensures.found) }

pub overflow_add-count : goal.overflow_add-count
overflow_add-count c = omega (arith, c.loop-count.invariant.few)

pub loop-count-smaller : goal.loop-count-smaller
loop-count-smaller c = omega (arith, ap (length {A = Display}) c.in-Some.ensures.first)

pub loop-count-preserved : goal.loop-count-preserved
loop-count-preserved c =
    let less = one_less _ c.next.new.self.displays c.loop-count.packet.displays c.in-Some.ensures.first in
    record {
      all = omega (arith, ap (length {A = Display}) c.in-Some.ensures.first, c.loop-count.invariant.all);
      few = omega (arith, less.0, c.loop-count.invariant.few);
    }

pub returns : goal.returns
returns c = omega (arith, ap (length {A = Display}) c.in_default-next.ensures.none.0, c.loop-count.invariant.all)
