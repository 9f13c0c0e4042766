use Rattle.tap_lists.proofs.PlaceLemmas.{shown_head}
use Rattle.tap_lists.proofs.taps.Taps.head_of.Goals as goal

pub returns : goal.returns
returns c = shown_head _ _ _ _ _ _ _ c.self.invariant c.self.view_is (rw c.deref.ensures.value at c.value_at.ensures)
