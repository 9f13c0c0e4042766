use Rattle.commands.proofs.QuietLemmas.{seven, others}
use Rattle.commands.proofs.laws.output_fault.Goals as goal

pub returns-clause-failed : goal.returns-clause-failed
returns-clause-failed c = seven

pub returns-clause-others : goal.returns-clause-others
returns-clause-others c = others
