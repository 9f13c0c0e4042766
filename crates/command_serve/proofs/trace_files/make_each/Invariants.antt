use Rattle.std.proofs.Common.{◌≡◌, ◌≤◌, length, map, take, vec_len, vec_capacity}
use Rattle.command_words.specs.Words.{texts}
use Rattle.command_rows.specs.MadeFile.{sink_end}
use Rattle.command_serve.specs.Traces.{AreAsMade, MakesFiles}
use Rattle.command_serve.proofs.trace_files.make_each.Given as goal

abbrev pub invariant-loop-place : goal.invariant-loop-place
invariant-loop-place g l = record {
  makes : MakesFiles (take l.place (texts l.names)) (g.F.Files.shows l.initial.files)
      (g.F.Files.shows l.files);
  as_made : AreAsMade (take l.place (texts l.names)) (map (sink_end g.F.K.Sink.name g.F.K.Sink.written g.F.K.Sink.faults) l.traces.items);
  out : length l.traces.items ≤ (g.F.Files.shows l.files).custody.sinks.out;
  count : vec_len l.traces ≡ l.place;
  room : vec_capacity l.traces ≡ vec_capacity l.initial.traces;
}
