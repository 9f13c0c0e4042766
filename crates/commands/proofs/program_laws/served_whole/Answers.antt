use Rattle.commands.proofs.ProgramLemmas.{zero_whole}
use Rattle.commands.proofs.program_laws.served_whole.Goals as goal

pub returns : goal.returns
returns g c = zero_whole g.P.DisplayPort.was_sent g.P.DisplayPort.faults c.served_whole.ensures
