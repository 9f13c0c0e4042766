use Rattle.command_standby.proofs.LawLemmas.{sound, zero, five, six, always}
use Rattle.command_standby.proofs.laws.standbys.Goals as goal

pub returns-clause-sound : goal.returns-clause-sound
returns-clause-sound c = sound

pub returns-clause-done : goal.returns-clause-done
returns-clause-done c = zero

pub returns-clause-refused : goal.returns-clause-refused
returns-clause-refused c = five

pub returns-clause-found : goal.returns-clause-found
returns-clause-found c = six

pub returns-clause-always : goal.returns-clause-always
returns-clause-always c = always c.shown.ensures.plants
