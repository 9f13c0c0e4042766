use Rattle.tie_pools.proofs.AllTiesLemmas.{no_excess}
use Rattle.tie_pools.proofs.laws.who_needs_no_more_is_not_refused.Goals as goal

pub returns : goal.returns
returns c = no_excess
