use Rattle.tsl_stream.proofs.LawLemmas.{rows_are_read}
use Rattle.tsl_stream.proofs.laws.reads_rows.Goals as goal

pub returns : goal.returns
returns c = rows_are_read
