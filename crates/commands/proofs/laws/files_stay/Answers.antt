use Rattle.commands.proofs.QuietLemmas.{leaves}
use Rattle.commands.proofs.laws.files_stay.Goals as goal

pub returns : goal.returns
returns c = leaves
