use Rattle.commands.proofs.QuietLemmas.{asked_runs}
use Rattle.commands.proofs.laws.asked.Goals as goal

pub returns : goal.returns
returns c = asked_runs
