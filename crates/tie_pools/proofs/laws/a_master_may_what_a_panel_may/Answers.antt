use Rattle.tie_pools.proofs.AllTiesLemmas.{enough_too}
use Rattle.tie_pools.proofs.laws.a_master_may_what_a_panel_may.Goals as goal

pub returns : goal.returns
returns c = enough_too
