use Rattle.crosspoint_state.proofs.FreedLemmas.{TiesAreFreedLast-released}
use Rattle.crosspoint_state.proofs.laws.ties_are_freed_last.Goals as goal

pub returns : goal.returns
returns c = TiesAreFreedLast-released
