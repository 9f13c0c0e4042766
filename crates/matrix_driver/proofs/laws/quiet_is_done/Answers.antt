use Rattle.matrix_driver.proofs.DoneLemmas.{done_where_quiet}
use Rattle.matrix_driver.proofs.laws.quiet_is_done.Goals as goal

pub returns : goal.returns
returns c = done_where_quiet
