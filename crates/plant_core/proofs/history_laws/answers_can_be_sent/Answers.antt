use Rattle.plant_core.proofs.HistoryLemmas.{all_sent}
use Rattle.plant_core.proofs.history_laws.answers_can_be_sent.Goals as goal

pub returns : goal.returns
returns c = all_sent
