use Rattle.matrix_driver.proofs.TurnLemmas.{settles_all}
use Rattle.matrix_driver.proofs.laws.turns_settle_all.Goals as goal

pub returns : goal.returns
returns c = settles_all
