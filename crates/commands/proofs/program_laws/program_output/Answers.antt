use Rattle.commands.proofs.ProgramLemmas.{program_seven, program_writes}
use Rattle.commands.proofs.program_laws.program_output.Goals as goal

pub returns-clause-failed : goal.returns-clause-failed
returns-clause-failed g c = program_seven g.P.DisplayPort.was_sent g.P.DisplayPort.faults

pub returns-clause-others : goal.returns-clause-others
returns-clause-others g c = program_writes g.P.DisplayPort.was_sent g.P.DisplayPort.faults
