use Rattle.dle_framing.proofs.FeedLemmas.{feeds_whole}
use Rattle.dle_framing.proofs.framer.Framer.take_item.Goals as goal

pub returns-in-Some-clause-stands : goal.returns-in-Some-clause-stands
returns-in-Some-clause-stands c = λ text stands.
    let whole = c.in-Some.ensures in
    (feeds_whole c.args.piece.now c.take_whole.new.self.front c.in-Some.used c.args.self.now c.take_whole.new.self whole.outside.0 whole.outside.1 whole.within whole.frame whole.good text stands).1

pub returns-in-Some-clause-feeds : goal.returns-in-Some-clause-feeds
returns-in-Some-clause-feeds c = λ text stands.
    let whole = c.in-Some.ensures in
    (feeds_whole c.args.piece.now c.take_whole.new.self.front c.in-Some.used c.args.self.now c.take_whole.new.self whole.outside.0 whole.outside.1 whole.within whole.frame whole.good text stands).0
