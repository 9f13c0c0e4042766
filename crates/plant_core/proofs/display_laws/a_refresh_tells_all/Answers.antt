use Rattle.plant_core.proofs.RefreshLemmas.{refresh-told, refresh-left, others-stay}
use Rattle.plant_core.proofs.display_laws.a_refresh_tells_all.Goals as goal

pub returns-clause-told : goal.returns-clause-told
returns-clause-told c = refresh-told

pub returns-clause-left : goal.returns-clause-left
returns-clause-left c = refresh-left

pub returns-clause-others : goal.returns-clause-others
returns-clause-others c = others-stay
