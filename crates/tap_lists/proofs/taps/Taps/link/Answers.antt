use Rattle.tap_lists.proofs.PlaceLemmas.{held_loose}
use Rattle.tap_lists.proofs.taps.Taps.link.Goals as goal

pub put_first-requires-clause-is_loose : goal.put_first-requires-clause-is_loose
put_first-requires-clause-is_loose c =
    rw c.deref_mut-2.ensures.value
    (held_loose _ _ _ _ c.args.member c.self.invariant (rw (← c.self.view_is) at c.requires.is_loose))
