use Rattle.std.proofs.Common.{arith}
use Rattle.salvo_groups.proofs.AllGroups.{IsGroup-nil}
use Rattle.salvo_groups.proofs.entries.Entries.new.Goals as goal

pub invariant_of-result : goal.invariant_of-result
invariant_of-result c = record {
  is_group = rw c.in_ok-entries.ensures.items IsGroup-nil;
  has_room = omega (arith, c.in_ok-entries.ensures.capacity);
}
