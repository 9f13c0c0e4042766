use Rattle.salvo_groups.proofs.AllGroups.{IsGroup-nil}
use Rattle.salvo_groups.proofs.entries.Entries.clear.Goals as goal

pub invariant_of-self : goal.invariant_of-self
invariant_of-self c = record {
  is_group = rw c.clear.ensures.items IsGroup-nil;
  has_room = rw c.clear.ensures.capacity c.self.invariant.has_room;
}
