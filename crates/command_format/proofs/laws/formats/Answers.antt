use Rattle.command_format.proofs.LawLemmas.{sound, zero, three, always}
use Rattle.command_format.proofs.laws.formats.Goals as goal

pub returns-clause-sound : goal.returns-clause-sound
returns-clause-sound c = sound

pub returns-clause-done : goal.returns-clause-done
returns-clause-done c = zero

pub returns-clause-fault : goal.returns-clause-fault
returns-clause-fault c = three

pub returns-clause-always : goal.returns-clause-always
returns-clause-always c = always
