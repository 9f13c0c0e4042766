use Rattle.plant_core.proofs.ProtectLemmas.{sources-stay, owners-stay}
use Rattle.plant_core.proofs.protect_laws.protects_hold.Goals as goal

pub returns-clause-source : goal.returns-clause-source
returns-clause-source c = sources-stay

pub returns-clause-owner : goal.returns-clause-owner
returns-clause-owner c = owners-stay
