use Rattle.command_drive.proofs.RunLemmas.{drives_are}
use Rattle.command_drive.proofs.laws.drives_are_runs.Goals as goal

pub returns : goal.returns
returns c = drives_are
