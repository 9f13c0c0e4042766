use Rattle.command_serve.proofs.LawLemmas.{nine}
use Rattle.command_serve.proofs.laws.limits_met.Goals as goal

pub returns : goal.returns
returns g c = nine g.P.DisplayPort.was_sent g.P.DisplayPort.faults
