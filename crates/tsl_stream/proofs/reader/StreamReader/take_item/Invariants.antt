use Rattle.std.proofs.Common.{◌≤◌, ◌-◌, length, take}
use Rattle.tsl_stream.specs.ReaderInside.{PassesOver}
use Rattle.tsl_stream.proofs.reader.StreamReader.take_item.Given as goal

-- no item has ended so far
abbrev pub invariant-loop-used : goal.invariant-loop-used
invariant-loop-used l = record {
  within : l.used ≤ length l.piece;
  passes : PassesOver (take l.used l.piece) l.fn.self l.self;
}

abbrev pub decreases-loop-used : goal.decreases-loop-used
decreases-loop-used l = length l.piece - l.used
