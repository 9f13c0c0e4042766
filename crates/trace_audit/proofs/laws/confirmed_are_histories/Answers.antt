use Rattle.plant_core.proofs.StepLeaves.{plant-step}
use Rattle.trace_audit.proofs.HistoryLemmas.{confirmed-histories}
use Rattle.trace_audit.proofs.laws.confirmed_are_histories.Goals as goal

pub returns : goal.returns
returns c = confirmed-histories plant-step
