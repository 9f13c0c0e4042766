use Rattle.history_lock.proofs.HistoryLemmas.{run-append}
use Rattle.history_lock.proofs.laws.runs_compose.Goals as goal

pub returns : goal.returns
returns g c = run-append g.M.Machine.step
