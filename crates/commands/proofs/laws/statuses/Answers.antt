use Rattle.commands.proofs.QuietLemmas.{eight, work_done}
use Rattle.commands.proofs.laws.statuses.Goals as goal

pub returns-clause-known : goal.returns-clause-known
returns-clause-known c = eight

pub returns-clause-worked : goal.returns-clause-worked
returns-clause-worked c = work_done
