use Rattle.trace_audit.proofs.OrderLemmas.{order-same, order-bad}
use Rattle.trace_audit.proofs.laws.order_is_no_matter.Goals as goal

pub returns-clause-same : goal.returns-clause-same
returns-clause-same c = order-same

pub returns-clause-bad : goal.returns-clause-bad
returns-clause-bad c = order-bad
