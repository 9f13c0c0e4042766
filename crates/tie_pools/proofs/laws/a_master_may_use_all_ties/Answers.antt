use Rattle.std.proofs.Common.{true, inl, refl}
use Rattle.tie_pools.proofs.AllTiesLemmas.{enough_all}
use Rattle.tie_pools.proofs.laws.a_master_may_use_all_ties.Goals as goal

pub returns : goal.returns
returns c = λ plant points changes. enough_all plant points true changes (inl refl)
