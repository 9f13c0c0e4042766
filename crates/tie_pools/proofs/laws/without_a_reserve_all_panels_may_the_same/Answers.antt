use Rattle.std.proofs.Common.{inr}
use Rattle.tie_pools.proofs.AllTiesLemmas.{enough_all}
use Rattle.tie_pools.proofs.laws.without_a_reserve_all_panels_may_the_same.Goals as goal

pub returns : goal.returns
returns c = λ plant points master changes none. enough_all plant points master changes (inr none)
