use Rattle.plant_core.proofs.DumpLemmas.{dump-IsDumped}
use Rattle.plant_core.proofs.laws.dumps_tell_what_stands.Goals as goal

pub returns : goal.returns
returns c = dump-IsDumped
