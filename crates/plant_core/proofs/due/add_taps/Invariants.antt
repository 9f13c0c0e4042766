use Rattle.std.proofs.Common.{◌≡◌, ℕ, ◌<◌, slice_get, Some}
use Rattle.tap_lists.specs.Lists.{list_of}
use Rattle.plant_core.specs.DueInside.{StayDue, AreWatchersDue}
use Rattle.plant_core.proofs.due.add_taps.Given as goal

abbrev pub invariant-loop-display : goal.invariant-loop-display
invariant-loop-display g l = record {
  due : StayDue l.plant l.fn.due l.due;
  at : l.at ≡ slice_get (list_of l.points.taps l.fn.origin) l._display;
  passed : (k dest : ℕ) → k < l._display → slice_get (list_of l.points.taps l.fn.origin) k ≡ Some dest → AreWatchersDue l.plant l.due dest;
}
