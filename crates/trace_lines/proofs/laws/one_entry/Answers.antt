use Rattle.trace_lines.proofs.TraceEntry.{one_entry}
use Rattle.trace_lines.proofs.laws.one_entry.Goals as goal

pub returns : goal.returns
returns c = one_entry
