use Rattle.std.proofs.Common.{◌*◌}
use Rattle.record_replay.specs.PairsInside.{ArePairs}
use Rattle.record_replay.proofs.pairs.count_pairs.Given as goal

abbrev pub invariant-loop-i : goal.invariant-loop-i
invariant-loop-i l = ArePairs (4 * l.i) l.text
