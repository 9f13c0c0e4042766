use Rattle.std.proofs.Common.{◌-◌, ◌≤◌, length, take}
use Rattle.tsl_stream.specs.Reader.{StandsForStream}
use Rattle.record_replay.specs.OutputInside.{Puts}
use Rattle.record_replay.specs.Monitor.{monitor_text}
use Rattle.record_replay.proofs.monitor.put_stream.Given as goal

-- The reader has gone over the front of the stream, and its lines were put.
abbrev pub invariant-loop-used : goal.invariant-loop-used
invariant-loop-used g l = record {
  within : l.used ≤ length l.stream;
  stands : StandsForStream l.reader (take l.used l.stream);
  puts : Puts g.K.Drain.written g.K.Drain.faults (monitor_text (take l.used l.stream)) l.fn.out l.out;
}

abbrev pub decreases-loop-used : goal.decreases-loop-used
decreases-loop-used g l = length l.stream - l.used
