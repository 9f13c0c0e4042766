use Rattle.plant_core.proofs.StepLeaves.{plant-step}
use Rattle.trace_audit.proofs.FindingLemmas.{gaps-so, repeats-so, differences-so}
use Rattle.trace_audit.proofs.laws.findings_are_so.Goals as goal

pub returns-clause-gap : goal.returns-clause-gap
returns-clause-gap c = gaps-so plant-step

pub returns-clause-repeat : goal.returns-clause-repeat
returns-clause-repeat c = repeats-so plant-step

pub returns-clause-differs : goal.returns-clause-differs
returns-clause-differs c = differences-so plant-step
