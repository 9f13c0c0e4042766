use Rattle.record_replay.proofs.PairsLemmas.{pair_made, pair_refused}
use Rattle.record_replay.proofs.pairs.byte_of.Goals as goal

pub returns-clause-digits : goal.returns-clause-digits
returns-clause-digits c = rw (c.first_of.ensures, c.second_of.ensures) (pair_made c.args.high c.args.low)

pub returns-clause-other : goal.returns-clause-other
returns-clause-other c = rw (c.first_of.ensures, c.second_of.ensures) (pair_refused c.args.high c.args.low)
