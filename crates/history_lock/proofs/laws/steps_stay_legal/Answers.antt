use Rattle.history_lock.proofs.HistoryLemmas.{legal_snoc}
use Rattle.history_lock.proofs.laws.steps_stay_legal.Goals as goal

pub returns : goal.returns
returns g c = legal_snoc g.M.Machine.step g.M.Machine.Fits
