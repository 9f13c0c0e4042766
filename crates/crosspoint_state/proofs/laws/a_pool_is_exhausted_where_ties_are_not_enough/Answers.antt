use Rattle.crosspoint_state.proofs.LawLemmas.{ExhaustedWhereNotEnough-all}
use Rattle.crosspoint_state.proofs.laws.a_pool_is_exhausted_where_ties_are_not_enough.Goals as goal

pub returns : goal.returns
returns c = ExhaustedWhereNotEnough-all
