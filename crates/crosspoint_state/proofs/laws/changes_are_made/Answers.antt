use Rattle.crosspoint_state.proofs.LawLemmas.{ChangesAreMade-applied}
use Rattle.crosspoint_state.proofs.laws.changes_are_made.Goals as goal

pub returns : goal.returns
returns c = ChangesAreMade-applied
