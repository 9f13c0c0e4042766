use Rattle.tap_lists.proofs.PlaceLemmas.{shown_next}
use Rattle.tap_lists.proofs.taps.Taps.next.Goals as goal

pub returns-clause-next : goal.returns-clause-next
returns-clause-next g c = shown_next _ _ _ _ _ _ _ c.self.invariant c.self.view_is (rw c.deref.ensures.value at c.read.ensures.value)
