use Rattle.command_drive.proofs.EndLemmas.{ends_are}
use Rattle.command_drive.proofs.laws.ends_are_one.Goals as goal

pub returns : goal.returns
returns c = ends_are
