use Rattle.trace_audit.specs.KeptInside.{HasWalked}
use Rattle.trace_audit.proofs.walk.Walker.walk.Given as goal

abbrev pub invariant-loop-position : goal.invariant-loop-position
invariant-loop-position l = HasWalked l.plant l.kept l.position l.self
