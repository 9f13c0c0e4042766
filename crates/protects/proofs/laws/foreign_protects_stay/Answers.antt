use Rattle.protects.proofs.LawLemmas.{ForeignProtectsStay-all}
use Rattle.protects.proofs.laws.foreign_protects_stay.Goals as goal

pub returns : goal.returns
returns c = ForeignProtectsStay-all
