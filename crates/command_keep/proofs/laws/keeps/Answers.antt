use Rattle.command_keep.proofs.SoundLemmas.{sound}
use Rattle.command_keep.proofs.LawLemmas.{zero, one, three, five}
use Rattle.command_keep.proofs.ShownLemmas.{always}
use Rattle.command_keep.proofs.laws.keeps.Goals as goal

pub returns-clause-sound : goal.returns-clause-sound
returns-clause-sound c = sound

pub returns-clause-done : goal.returns-clause-done
returns-clause-done c = zero

pub returns-clause-memory : goal.returns-clause-memory
returns-clause-memory c = one

pub returns-clause-fault : goal.returns-clause-fault
returns-clause-fault c = three

pub returns-clause-refused : goal.returns-clause-refused
returns-clause-refused c = five

pub returns-clause-always : goal.returns-clause-always
returns-clause-always c = always
