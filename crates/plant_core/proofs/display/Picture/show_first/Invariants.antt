use Rattle.std.proofs.Common.{◌≡◌, ℕ, ◌-◌, ◌<◌, ◌≤◌, ◌++◌, length}
use Rattle.due_displays.specs.Changed.{NoneIsDueAt}
use Rattle.plant_core.specs.Displays.{value_in, shown_all, lamps_of}
use Rattle.plant_core.specs.DisplaysInside.{first_differing}
use Rattle.plant_core.specs.DueInside.{AreKeptDue}
use Rattle.plant_core.proofs.DisplayLemmas.{left_of}
use Rattle.plant_core.proofs.display.Picture.show_first.Given as goal

-- What is left to be shown and told leads to what is wanted.
abbrev pub invariant-loop-turn : goal.invariant-loop-turn
invariant-loop-turn l = record {
  lit : shown_all (value_in l.self.plant.now l.self.points.now.entries) (left_of (value_in l.self.plant.now l.self.points.now.entries) (64 - length l.out.items) l.shown l.displays) l.shown
      ≡ shown_all (value_in l.self.plant.now l.self.points.now.entries) (first_differing (value_in l.self.plant.now l.self.points.now.entries) l.fn.shown l.displays) l.fn.shown;
  told : l.out.items ++ lamps_of (value_in l.self.plant.now l.self.points.now.entries) (left_of (value_in l.self.plant.now l.self.points.now.entries) (64 - length l.out.items) l.shown l.displays)
      ≡ lamps_of (value_in l.self.plant.now l.self.points.now.entries) (first_differing (value_in l.self.plant.now l.self.points.now.entries) l.fn.shown l.displays);
  few : length l.out.items ≤ 64;
  count : length l.shown ≡ length l.fn.shown;
  places : l.out.places ≡ l.fn.out.places;
  due : AreKeptDue l.self.plant.now l.self.points.now.entries l.shown l.due;
  passed : (position : ℕ) → position < l._turn → NoneIsDueAt l.self.plant.now l.due l.fn.screen position;
}
