use Rattle.plant_core.proofs.CountLemmas.{answers_within}
use Rattle.plant_core.proofs.machine.PlantStateMachine.step.Goals as goal

pub returns-clause-at_most : goal.returns-clause-at_most
returns-clause-at_most c = answers_within c.args.self.now.plant c.args.request.now _ c.step.ensures.count
