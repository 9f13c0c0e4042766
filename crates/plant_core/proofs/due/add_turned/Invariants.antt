use Rattle.std.proofs.Common.{ℕ, ◌<◌, length, get_or}
use Rattle.plant_core.specs.DueInside.{StayDue, AreTappedDue}
use Rattle.plant_core.proofs.due.add_turned.Given as goal

abbrev pub invariant-loop-origin : goal.invariant-loop-origin
invariant-loop-origin l = record {
  due : StayDue l.plant l.fn.due l.due;
  tapped : (k : ℕ) (d : ℕ) → k < l.origin-index → k < length l.origins → AreTappedDue l.plant l.due l.points.taps (get_or l.origins k d);
}

abbrev pub ghosts-add_taps : goal.ghosts-add_taps
ghosts-add_taps a = record { name = a.blank.name; parts = a.blank.parts }
