use Rattle.command_serve.proofs.LawLemmas.{zero, known}
use Rattle.command_serve.proofs.KeptLemmas.{served_or_kept}
use Rattle.command_serve.proofs.laws.served.Goals as goal

pub returns-clause-done : goal.returns-clause-done
returns-clause-done g c = zero g.P.DisplayPort.was_sent g.P.DisplayPort.faults

pub returns-clause-statuses : goal.returns-clause-statuses
returns-clause-statuses g c = known g.P.DisplayPort.was_sent g.P.DisplayPort.faults

pub returns-clause-accepted : goal.returns-clause-accepted
returns-clause-accepted g c = served_or_kept g.P.DisplayPort.was_sent g.P.DisplayPort.faults
