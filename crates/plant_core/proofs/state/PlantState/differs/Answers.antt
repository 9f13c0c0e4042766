use Rattle.plant_core.proofs.DisplayLemmas.{carried}
use Rattle.plant_core.proofs.state.PlantState.differs.Goals as goal

pub value_of-requires-clause-carried : goal.value_of-requires-clause-carried
value_of-requires-clause-carried c = carried c.self.inside.plant c.self.inside.crosspoints.entries c.self.invariant.valid.is_plant c.self.invariant.valid.is_crosspoint
