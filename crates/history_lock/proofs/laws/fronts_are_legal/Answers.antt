use Rattle.history_lock.proofs.HistoryLemmas.{legal_front}
use Rattle.history_lock.proofs.laws.fronts_are_legal.Goals as goal

pub returns : goal.returns
returns g c = legal_front g.M.Machine.step g.M.Machine.Fits
