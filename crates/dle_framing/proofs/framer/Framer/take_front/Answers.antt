use Rattle.dle_framing.proofs.FeedLemmas.{passes_start}
use Rattle.dle_framing.proofs.framer.Framer.take_front.Goals as goal

pub returns-clause-passes : goal.returns-clause-passes
returns-clause-passes c =
    passes_start c.args.piece.now c.in-Some.body.now c.take_to_dle-2.result c.args.self.now c.start.new.self c.take_to_dle-2.new.self
    c.in-Some.ensures c.in-Outside.is c.start.ensures.state c.start.ensures.front c.take_to_dle-2.ensures.passes
