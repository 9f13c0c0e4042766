use Rattle.commands.proofs.ProgramLemmas.{asked_waits, run_quietly, others_net, eight_of}
use Rattle.commands.proofs.program_laws.waits.Goals as goal

pub returns-clause-asked : goal.returns-clause-asked
returns-clause-asked g c = asked_waits g.P.DisplayPort.was_sent g.P.DisplayPort.faults

pub returns-clause-others : goal.returns-clause-others
returns-clause-others g c = run_quietly g.P.DisplayPort.was_sent g.P.DisplayPort.faults

pub returns-clause-net : goal.returns-clause-net
returns-clause-net g c = others_net g.P.DisplayPort.was_sent g.P.DisplayPort.faults

pub returns-clause-services : goal.returns-clause-services
returns-clause-services g c = eight_of g.P.DisplayPort.was_sent g.P.DisplayPort.faults
