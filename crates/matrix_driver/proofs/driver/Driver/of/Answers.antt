use Rattle.matrix_driver.proofs.DriverLemmas.{IsDriver-start}
use Rattle.matrix_driver.proofs.driver.Driver.of.Goals as goal

pub invariant_of-result : goal.invariant_of-result
invariant_of-result c = rw c.in_ok-progress.ensures (IsDriver-start c.args.level c.requires)
