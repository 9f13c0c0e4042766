use Rattle.plant_core.proofs.OwnerLemmas.{lift-IsLifted, lift-IsRefused}
use Rattle.plant_core.proofs.protect_laws.protects_are_lifted.Goals as goal

pub returns-clause-lifted : goal.returns-clause-lifted
returns-clause-lifted c = lift-IsLifted

pub returns-clause-refused : goal.returns-clause-refused
returns-clause-refused c = lift-IsRefused
