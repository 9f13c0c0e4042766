use Rattle.std.proofs.Common.{inl, inr, sym, arith}
use Rattle.record_replay.proofs.ConnectLemmas.{connect-no_level}
use Rattle.record_replay.proofs.take.connect_named.Goals as goal

pub returns-then-matrix-ge16-clause-connect : goal.returns-then-matrix-ge16-clause-connect
returns-then-matrix-ge16-clause-connect c =
    sym (connect-no_level c.args.plant.now c.args.matrix c.args.level c.args.dest.now c.args.source.now c.requires.plant (inl (omega arith)))

pub returns-then-level-ge16-clause-connect : goal.returns-then-level-ge16-clause-connect
returns-then-level-ge16-clause-connect c =
    sym (connect-no_level c.args.plant.now c.args.matrix c.args.level c.args.dest.now c.args.source.now c.requires.plant (inr (omega arith)))
