use Rattle.trace_audit.specs.KeptInside.{IsReadSoFar}
use Rattle.trace_audit.proofs.trace.read_lines.Given as goal

abbrev pub invariant-loop-before : goal.invariant-loop-before
invariant-loop-before l = IsReadSoFar l.plant l.text l.rest l.kept l.before
