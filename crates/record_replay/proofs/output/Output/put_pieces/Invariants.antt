use Rattle.std.proofs.Common.{◌≡◌, ◌-◌, ◌≤◌, length, take}
use Rattle.hex.specs.Hex.{encode_upper}
use Rattle.record_replay.specs.OutputInside.{Puts}
use Rattle.record_replay.proofs.output.Output.put_pieces.Given as goal

abbrev pub invariant-loop-at : goal.invariant-loop-at
invariant-loop-at g l = record {
  within : l.at ≤ length l.bytes;
  puts : Puts g.K.Drain.written g.K.Drain.faults (encode_upper (take l.at l.bytes)) l.initial.self l.self;
  some : l.self.some ≡ l.initial.self.some;
}

abbrev pub decreases-loop-at : goal.decreases-loop-at
decreases-loop-at g l = length l.bytes - l.at
