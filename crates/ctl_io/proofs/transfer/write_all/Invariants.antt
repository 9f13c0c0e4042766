use Rattle.std.proofs.Common.{◌≡◌, length}
use Rattle.ctl_io.specs.SinkInside.{Given}
use Rattle.ctl_io.proofs.transfer.write_all.Given as goal

abbrev pub invariant-loop-rest : goal.invariant-loop-rest
invariant-loop-rest g l = record {
  given : Given l.bytes l.rest (g.K.Sink.written l.initial.sink) (g.K.Sink.written l.sink);
  name : g.K.Sink.name l.sink ≡ g.K.Sink.name l.initial.sink;
  read_half : g.K.Sink.read_half l.sink ≡ g.K.Sink.read_half l.initial.sink;
  count : g.K.Sink.faults l.sink ≡ g.K.Sink.faults l.initial.sink;
}

abbrev pub decreases-loop-rest : goal.decreases-loop-rest
decreases-loop-rest g l = length l.rest
