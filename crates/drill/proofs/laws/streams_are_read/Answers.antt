use Rattle.drill.proofs.StreamLemmas.{streams_are_read}
use Rattle.drill.proofs.laws.streams_are_read.Goals as goal

pub returns : goal.returns
returns c = streams_are_read
