use Rattle.std.proofs.Common.{arith}
use Rattle.plant_core.proofs.moved.Moved.new.Goals as goal

pub invariant_of-result : goal.invariant_of-result
invariant_of-result c = omega (arith, c.in_ok-changes.ensures.capacity)
