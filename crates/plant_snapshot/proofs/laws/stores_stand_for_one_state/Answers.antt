use Rattle.plant_snapshot.proofs.LawLemmas.{stand_for_one, stand_undamaged}
use Rattle.plant_snapshot.proofs.laws.stores_stand_for_one_state.Goals as goal

pub returns-clause-one : goal.returns-clause-one
returns-clause-one c = stand_for_one

pub returns-clause-undamaged : goal.returns-clause-undamaged
returns-clause-undamaged c = stand_undamaged
