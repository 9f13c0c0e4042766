use Rattle.plant_core.proofs.OwnerLemmas.{protect-IsProtected, protect-IsRefused}
use Rattle.plant_core.proofs.protect_laws.protects_are_made.Goals as goal

pub returns-clause-made : goal.returns-clause-made
returns-clause-made c = protect-IsProtected

pub returns-clause-refused : goal.returns-clause-refused
returns-clause-refused c = protect-IsRefused
