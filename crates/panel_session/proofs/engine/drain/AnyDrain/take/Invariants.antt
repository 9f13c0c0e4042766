use Rattle.std.proofs.Common.{◌≡◌, length}
use Rattle.ctl_io.specs.SinkInside.{Given}
use Rattle.panel_session.proofs.engine.drain.AnyDrain.take.Given as goal

abbrev pub invariant-loop-rest : goal.invariant-loop-rest
invariant-loop-rest g l = record {
  given : Given l.bytes l.rest (g.K.Sink.written l.initial.self) (g.K.Sink.written l.self);
  count : g.K.Sink.faults l.self ≡ g.K.Sink.faults l.initial.self;
  name : g.K.Sink.name l.self ≡ g.K.Sink.name l.initial.self;
  half : g.K.Sink.read_half l.self ≡ g.K.Sink.read_half l.initial.self;
}

abbrev pub decreases-loop-rest : goal.decreases-loop-rest
decreases-loop-rest g l = length l.rest
