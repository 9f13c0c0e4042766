use Rattle.command_serve.proofs.LawLemmas.{eight, refused_net}
use Rattle.command_serve.proofs.laws.net_failed.Goals as goal

pub returns-clause-cause : goal.returns-clause-cause
returns-clause-cause g c = eight g.P.DisplayPort.was_sent g.P.DisplayPort.faults

pub returns-clause-always : goal.returns-clause-always
returns-clause-always g c = refused_net g.P.DisplayPort.was_sent g.P.DisplayPort.faults
