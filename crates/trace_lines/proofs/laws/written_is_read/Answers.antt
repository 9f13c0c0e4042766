use Rattle.trace_lines.proofs.LineLengths.{written-read}
use Rattle.trace_lines.proofs.laws.written_is_read.Goals as goal

pub returns : goal.returns
returns c = written-read
