use Rattle.history_lock.proofs.HistoryLemmas.{same_answers}
use Rattle.history_lock.proofs.laws.requests_fix_answers.Goals as goal

pub returns : goal.returns
returns g c = same_answers g.M.Machine.step g.M.Machine.Fits
