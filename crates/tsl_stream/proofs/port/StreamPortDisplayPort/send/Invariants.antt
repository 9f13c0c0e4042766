use Rattle.std.proofs.Common.{◌≡◌, ◌≤◌, ◌-◌, length, take}
use Rattle.ctl_io.specs.Sink.{appended}
use Rattle.tsl_stream.specs.WritingInside.{sent_text}
use Rattle.tsl_stream.proofs.port.StreamPortDisplayPort.send.Given as goal

-- A front of the packet's text was taken, and no write failed so far.
abbrev pub invariant-loop-taken : goal.invariant-loop-taken
invariant-loop-taken g l = record {
  text : l.self.text.items ≡ sent_text l.fn.self.half l.packet;
  half : l.self.half ≡ l.fn.self.half;
  within : l.taken ≤ length l.self.text.items;
  written : g.K.Sink.written l.self.sink ≡ appended (g.K.Sink.written l.fn.self.sink) (take l.taken l.self.text.items);
  name : g.K.Sink.name l.self.sink ≡ g.K.Sink.name l.fn.self.sink;
  count : g.K.Sink.faults l.self.sink ≡ g.K.Sink.faults l.fn.self.sink;
}

abbrev pub decreases-loop-taken : goal.decreases-loop-taken
decreases-loop-taken g l = length l.self.text.items - l.taken
