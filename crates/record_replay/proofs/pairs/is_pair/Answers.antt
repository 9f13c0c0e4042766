use Rattle.std.proofs.Common.{arith}
use Rattle.std.proofs.lemmas.Bool.{OnTrue_from, ltb-true}
use Rattle.record_replay.proofs.PairsLemmas.{pairs_more}
use Rattle.record_replay.proofs.pairs.is_pair.Goals as goal

pub returns-clause-digits : goal.returns-clause-digits
returns-clause-digits c = OnTrue_from _ _ (λ small.
    pairs_more c.args.at c.byte_of.result c.args.text.now (omega arith) (c.byte_of.ensures.digits (ltb-true _ _ small)) c.requires.digits)
