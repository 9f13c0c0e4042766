use Rattle.crosspoint_state.proofs.LawLemmas.{TiesStayValid-applied}
use Rattle.crosspoint_state.proofs.ValidLemmas.{valid_empty}
use Rattle.crosspoint_state.proofs.laws.ties_stay_valid.Goals as goal

pub returns : goal.returns
returns c = record {
  none = valid_empty;
  changed = λ plant crosspoints changes is once inside. TiesStayValid-applied plant crosspoints changes once inside is;
}
