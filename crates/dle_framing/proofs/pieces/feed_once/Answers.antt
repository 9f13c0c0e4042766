use Rattle.dle_framing.proofs.PieceLemmas.{adds_item, copy_added}
use Rattle.dle_framing.proofs.pieces.feed_once.Goals as goal

pub returns-in_ok-push-clause-adds : goal.returns-in_ok-push-clause-adds
returns-in_ok-push-clause-adds c =
    let appended = copy_added c.args.given.now.items c.push.new.self.items c.in_ok-copied.field-0 c.in-Some.item c.feed.result.1 c.in_ok-push.ensures.items c.in_ok-copied.ensures c.in-Some.is in
    adds_item c.args.piece.now c.feed.result.0 _ c.args.framer.now _ _ _ c.feed.ensures.feeds c.feed.follows.holds-at-none appended
