use Rattle.record_replay.proofs.ActionsLemmas.{history_exists}
use Rattle.record_replay.proofs.ActionsOnce.{one_history, history-replay}
use Rattle.record_replay.proofs.laws.one_history.Goals as goal

pub returns-clause-some : goal.returns-clause-some
returns-clause-some c = history_exists

pub returns-clause-alone : goal.returns-clause-alone
returns-clause-alone c = one_history

pub returns-clause-text : goal.returns-clause-text
returns-clause-text c = history-replay
