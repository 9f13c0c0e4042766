use Rattle.std.proofs.Common.{◌≤◌, length, vec_len}
use Rattle.command_rows.specs.MadeFile.{sink_end}
use Rattle.command_serve.proofs.TraceSinkLemmas.{GaveBack}
use Rattle.command_serve.proofs.trace_files.close_traces.Given as goal

abbrev pub invariant-loop-trace : goal.invariant-loop-trace
invariant-loop-trace g l = record {
  room : length l.traces.items ≤ (g.F.Files.shows l.files).custody.sinks.out;
  gave : GaveBack (sink_end g.F.K.Sink.name g.F.K.Sink.written g.F.K.Sink.faults) l.initial.traces.items l.traces.items
      (g.F.Files.shows l.initial.files) (g.F.Files.shows l.files);
}

abbrev pub decreases-loop-trace : goal.decreases-loop-trace
decreases-loop-trace g l = vec_len l.traces
