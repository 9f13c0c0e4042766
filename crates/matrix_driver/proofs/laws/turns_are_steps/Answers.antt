use Rattle.matrix_driver.proofs.TurnLemmas.{turns_are_steps}
use Rattle.matrix_driver.proofs.laws.turns_are_steps.Goals as goal

pub returns : goal.returns
returns c = turns_are_steps
