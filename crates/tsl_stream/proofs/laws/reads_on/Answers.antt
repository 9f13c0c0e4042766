use Rattle.tsl_stream.proofs.LawLemmas.{reads_on_lem, items_front}
use Rattle.tsl_stream.proofs.laws.reads_on.Goals as goal

pub returns-clause-goes_on : goal.returns-clause-goes_on
returns-clause-goes_on c = reads_on_lem

pub returns-clause-front : goal.returns-clause-front
returns-clause-front c = items_front
