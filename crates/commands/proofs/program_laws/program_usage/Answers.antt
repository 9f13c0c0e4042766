use Rattle.commands.proofs.ProgramLemmas.{two_usage, two_always}
use Rattle.commands.proofs.program_laws.program_usage.Goals as goal

pub returns-clause-told : goal.returns-clause-told
returns-clause-told g c = two_usage g.P.DisplayPort.was_sent g.P.DisplayPort.faults

pub returns-clause-always : goal.returns-clause-always
returns-clause-always g c = two_always g.P.DisplayPort.was_sent g.P.DisplayPort.faults
