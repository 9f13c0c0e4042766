use Rattle.std.proofs.Common.{ℕ, List, take, sym, ap, ◌∙◌, subst, arith}
use Rattle.std.specs.List.{flat_map}
use Rattle.std.proofs.lemmas.List.{take_all}
use Rattle.tsl_stream.specs.Reader.{StandsForStream}
use Rattle.record_replay.specs.OutputInside.{Puts}
use Rattle.record_replay.specs.OutputLaws.{Puts-none, Puts-more}
use Rattle.record_replay.specs.Monitor.{item_lines, monitor_text}
use Rattle.record_replay.proofs.MonitorLemmas.{items_none, front_more}
use Rattle.record_replay.proofs.monitor.put_stream.Goals as goal

pub loop-used-init : goal.loop-used-init
loop-used-init g c = record {
  within = omega arith;
  stands = c.new-reader.ensures;
  puts = subst (λ (lines : List ℕ). Puts g.K.Drain.written g.K.Drain.faults lines c.args.out.now c.args.out.now) (sym (ap (flat_map item_lines) items_none)) (Puts-none g.K.Drain.written g.K.Drain.faults c.args.out.now);
}

pub loop-used-preserved : goal.loop-used-preserved
loop-used-preserved g c =
    let told = c.put_next-used.ensures.tells (take c.loop-used.used c.args.stream.now) c.loop-used.invariant.stands in
    let front = front_more c.args.stream.now c.loop-used.used c.put_next-used.result in
    record {
      within = omega (arith, c.put_next-used.ensures.within, c.loop-used.invariant.within);
      stands = subst (StandsForStream c.put_next-used.new.reader) front told.0;
      puts = subst (λ (lines : List ℕ). Puts g.K.Drain.written g.K.Drain.faults lines c.args.out.now c.put_next-used.new.out) (sym told.2 ∙ ap monitor_text front)
          (Puts-more g.K.Drain.written g.K.Drain.faults (monitor_text (take c.loop-used.used c.args.stream.now)) told.1 c.args.out.now c.loop-used.out c.put_next-used.new.out c.loop-used.invariant.puts told.3);
    }

pub returns : goal.returns
returns g c = subst (λ (front : List ℕ). Puts g.K.Drain.written g.K.Drain.faults (monitor_text front) c.args.out.now c.loop-used.out) (take_all c.loop-used.used c.args.stream.now c.loop-used-test.false) c.loop-used.invariant.puts
