use Rattle.plant_core.proofs.SalvoLemmas.{go-IsGone, go-kept, go-tieless, go-IsCleared, go-empty}
use Rattle.plant_core.proofs.salvo_laws.goes_are_answered.Goals as goal

pub returns-clause-taken : goal.returns-clause-taken
returns-clause-taken c = go-IsGone

pub returns-clause-kept : goal.returns-clause-kept
returns-clause-kept c = go-kept

pub returns-clause-tieless : goal.returns-clause-tieless
returns-clause-tieless c = go-tieless

pub returns-clause-cleared : goal.returns-clause-cleared
returns-clause-cleared c = go-IsCleared

pub returns-clause-empty : goal.returns-clause-empty
returns-clause-empty c = go-empty
