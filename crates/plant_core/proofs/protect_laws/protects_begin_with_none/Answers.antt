use Rattle.plant_core.proofs.ProtectLemmas.{start-unprotected, outside-unprotected}
use Rattle.plant_core.proofs.protect_laws.protects_begin_with_none.Goals as goal

pub returns-clause-first : goal.returns-clause-first
returns-clause-first c = start-unprotected

pub returns-clause-outside : goal.returns-clause-outside
returns-clause-outside c = outside-unprotected
