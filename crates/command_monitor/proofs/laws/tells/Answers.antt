use Rattle.command_monitor.proofs.LawLemmas.{sound, zero, always}
use Rattle.command_monitor.proofs.laws.tells.Goals as goal

pub returns-clause-sound : goal.returns-clause-sound
returns-clause-sound c = sound

pub returns-clause-done : goal.returns-clause-done
returns-clause-done c = zero

pub returns-clause-always : goal.returns-clause-always
returns-clause-always c = always
