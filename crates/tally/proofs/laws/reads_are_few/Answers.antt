use Rattle.tally.proofs.MovedLemmas.{reads_few}
use Rattle.tally.proofs.laws.reads_are_few.Goals as goal

pub returns : goal.returns
returns c = reads_few
