use Rattle.std.proofs.Common.{◌*◌}
use Rattle.record_replay.specs.PairsInside.{AreRead}
use Rattle.record_replay.proofs.pairs.read_pairs.Given as goal

abbrev pub invariant-loop-i : goal.invariant-loop-i
invariant-loop-i l = AreRead (4 * l.i) l.text l.room
