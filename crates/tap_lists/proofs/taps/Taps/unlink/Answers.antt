use Rattle.tap_lists.proofs.PlaceLemmas.{held_head}
use Rattle.tap_lists.proofs.taps.Taps.unlink.Goals as goal

pub take_out-requires-clause-is_linked : goal.take_out-requires-clause-is_linked
take_out-requires-clause-is_linked c =
    let under = rw (← c.self.view_is) at c.requires in
    rw c.deref_mut-2.ensures.value
    (under.0, (held_head _ _ _ _ c.args.member c.self.invariant under.0).1 under.1)
