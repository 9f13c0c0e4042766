use Rattle.protects.proofs.LawLemmas.{CallsChangeOne-at}
use Rattle.protects.proofs.laws.calls_change_one_owner.Goals as goal

pub returns : goal.returns
returns c = CallsChangeOne-at
