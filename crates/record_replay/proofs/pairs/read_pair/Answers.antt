use Rattle.std.proofs.Common.{arith}
use Rattle.record_replay.proofs.PairsLemmas.{pair_fits, read_more}
use Rattle.record_replay.proofs.pairs.read_pair.Goals as goal

pub overflow_cast-room : goal.overflow_cast-room
overflow_cast-room c = omega (arith, pair_fits _ _ _ (c.byte_of-byte.ensures.digits (omega arith)))

pub returns-clause-digits : goal.returns-clause-digits
returns-clause-digits c =
    read_more c.args.at c.byte_of-byte.result c.args.text.now c.args.room.now (omega arith) (omega arith) (c.byte_of-byte.ensures.digits (omega arith)) c.requires.read
