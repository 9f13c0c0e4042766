use Rattle.command_drive.proofs.LawLemmas.{sound, zero, always, files}
use Rattle.command_drive.proofs.laws.drives.Goals as goal

pub returns-clause-sound : goal.returns-clause-sound
returns-clause-sound c = sound

pub returns-clause-done : goal.returns-clause-done
returns-clause-done c = zero

pub returns-clause-always : goal.returns-clause-always
returns-clause-always c = always

pub returns-clause-files : goal.returns-clause-files
returns-clause-files c = files
