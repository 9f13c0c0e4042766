use Rattle.matrix_driver.proofs.RunLemmas.{always_had}
use Rattle.matrix_driver.proofs.laws.settled_is_had.Goals as goal

pub returns : goal.returns
returns c = always_had
