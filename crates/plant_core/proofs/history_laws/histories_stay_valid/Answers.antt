use Rattle.plant_core.proofs.HistoryLemmas.{run-plant, run-valid, keeps_ties_valid}
use Rattle.plant_core.proofs.history_laws.histories_stay_valid.Goals as goal

pub returns-clause-valid : goal.returns-clause-valid
returns-clause-valid c = run-valid

pub returns-clause-plant : goal.returns-clause-plant
returns-clause-plant c = run-plant

pub returns-clause-ties : goal.returns-clause-ties
returns-clause-ties c = keeps_ties_valid
