use Rattle.crosspoint_state.proofs.TapsLemmas.{moves_linked}
use Rattle.crosspoint_state.proofs.tapped.put_under.Goals as goal

pub returns : goal.returns
returns c =
    rw c.link.ensures
    (moves_linked c.args.taps.now c.args.head c.args.dest c.requires.loose (c.links_insert_first.ensures c.args.taps.now c.args.head c.args.dest c.requires.head))
