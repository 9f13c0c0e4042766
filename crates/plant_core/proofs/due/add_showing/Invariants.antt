use Rattle.std.proofs.Common.{◌≡◌, ℕ, ◌<◌, true, Some}
use Rattle.tap_lists.specs.Lists.{IsUnder}
use Rattle.due_displays.specs.Due.{is_due}
use Rattle.due_displays.specs.Watchers.{watch_of}
use Rattle.plant_core.specs.DueInside.{StayDue}
use Rattle.plant_core.proofs.due.add_showing.Given as goal

abbrev pub invariant-loop-number : goal.invariant-loop-number
invariant-loop-number l = record {
  due : StayDue l.plant l.fn.due l.due;
  shown : (display dest : ℕ) → display < l.number → watch_of l.plant.displays display ≡ Some dest → IsUnder l.points.taps l.fn.origin dest → is_due l.plant l.due display ≡ true;
}
