use Rattle.crosspoint_state.proofs.TapsLemmas.{loosens_linked, loosens_loose}
use Rattle.crosspoint_state.proofs.tapped.loosen.Goals as goal

pub unlink-requires : goal.unlink-requires
unlink-requires c = (c.in-Some._head, (c.head_of.ensures c.in-Some._head).0 c.in-Some.is)

pub returns-in-Some : goal.returns-in-Some
returns-in-Some c = rw c.unlink.ensures (loosens_linked c.args.taps.now c.args.dest (c.unlinks_remove.ensures c.args.taps.now c.args.dest))

pub returns-in-None : goal.returns-in-None
returns-in-None c = loosens_loose c.args.taps.now c.args.dest (rw c.in-None.is at c.head_of.ensures)
