use Rattle.crosspoint_state.proofs.LawLemmas.{OthersStay-applied}
use Rattle.crosspoint_state.proofs.laws.other_destinations_stay.Goals as goal

pub returns : goal.returns
returns c = OthersStay-applied
