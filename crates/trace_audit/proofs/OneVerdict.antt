-- A trace has one verdict.
use Rattle.trace_lines.proofs.TraceEntry.{one_entry}
use Rattle.trace_audit.specs.Laws.{TracesHaveOneVerdict}
use Rattle.trace_audit.proofs.VerdictLemmas.{traces-one}

pub one_verdict : TracesHaveOneVerdict
one_verdict = traces-one one_entry
