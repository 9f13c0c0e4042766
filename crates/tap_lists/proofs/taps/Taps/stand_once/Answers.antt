use Rattle.tap_lists.proofs.PlaceLemmas.{held_stand_once}
use Rattle.tap_lists.proofs.taps.Taps.stand_once.Goals as goal

pub returns : goal.returns
returns c = rw (← c.self.view_is) (held_stand_once _ _ _ _ c.self.invariant)
