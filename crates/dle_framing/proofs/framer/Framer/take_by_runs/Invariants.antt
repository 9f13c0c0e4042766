use Rattle.std.proofs.Common.{◌≤◌, ◌<◌, ◌-◌, length, take}
use Rattle.dle_framing.specs.FramerInside.{PassesOver}
use Rattle.dle_framing.specs.StepsInside.{IsBehindDle}
use Rattle.dle_framing.proofs.framer.Framer.take_by_runs.Given as goal

-- no item has ended so far, and where the piece goes on a DLE was taken
abbrev pub invariant-loop-used : goal.invariant-loop-used
invariant-loop-used l = record {
  within : l.used ≤ length l.piece;
  passes : PassesOver (take l.used l.piece) l.fn.self l.self;
  stops : l.used < length l.piece → IsBehindDle l.self.state;
}

abbrev pub decreases-loop-used : goal.decreases-loop-used
decreases-loop-used l = length l.piece - l.used
