use Rattle.plant_core.proofs.StepLeaves.{start-parked, outside-parked, question-same}
use Rattle.plant_core.proofs.laws.questions_only_ask.Goals as goal

pub returns-clause-same : goal.returns-clause-same
returns-clause-same c = question-same

pub returns-clause-first : goal.returns-clause-first
returns-clause-first c = start-parked

pub returns-clause-outside : goal.returns-clause-outside
returns-clause-outside c = outside-parked
