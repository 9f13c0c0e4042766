-- At first no line was read.
use Rattle.std.proofs.Common.{[]}
use Rattle.trace_audit.proofs.trace.audit.Goals as goal

pub read_lines-requires : goal.read_lines-requires
read_lines-requires c =
    record { entries = []; told = tt; kept_are = c.in_ok-kept.ensures c.args.plant.now }
