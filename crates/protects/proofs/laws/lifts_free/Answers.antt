use Rattle.protects.proofs.LawLemmas.{LiftsFree-at}
use Rattle.protects.proofs.laws.lifts_free.Goals as goal

pub returns : goal.returns
returns c = LiftsFree-at
