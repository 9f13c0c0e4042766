use Rattle.std.proofs.Common.{take}
use Rattle.tally.specs.Lost.{AreRoots}
use Rattle.tally.proofs.roots.set_of.Given as goal

abbrev pub invariant-loop-dest : goal.invariant-loop-dest
invariant-loop-dest l = AreRoots (take l.dest-index l.dests) l.set
