use Rattle.protects.proofs.LawLemmas.{ProtectsAreOwned-all}
use Rattle.protects.proofs.laws.protects_are_owned.Goals as goal

pub returns : goal.returns
returns c = ProtectsAreOwned-all
