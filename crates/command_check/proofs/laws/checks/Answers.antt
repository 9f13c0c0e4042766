use Rattle.command_check.proofs.LawLemmas.{sound, zero, always}
use Rattle.command_check.proofs.laws.checks.Goals as goal

pub returns-clause-sound : goal.returns-clause-sound
returns-clause-sound c = sound

pub returns-clause-done : goal.returns-clause-done
returns-clause-done c = zero

pub returns-clause-always : goal.returns-clause-always
returns-clause-always c = always
