-- Which displays are due, so that no other one has to be looked at.
use Rattle.std.specs.Prelude.{◌≡◌, ℕ, ◌<◌, true, false, List, length, Some}
use Rattle.plant_config.specs.Plant.{PlantData}
use Rattle.plant_config.specs.declared.records.Change.{Change}
use Rattle.crosspoint_state.specs.Crosspoints.{Crosspoints}
use Rattle.tap_lists.specs.Lists.{Lists, IsUnder}
use Rattle.tally.specs.Update.{MovedOnly}
use Rattle.tally.specs.Kept.{AreFlipped}
use Rattle.change_boards.specs.Shown as shown
use Rattle.change_boards.specs.declared.value.Value.{Value}
use Rattle.due_displays.specs.Due.{Due, AreDueOf, is_due}
use Rattle.due_displays.specs.Watchers.{watch_of}
use Rattle.plant_core.specs.Displays.{value_in}
use Rattle.plant_core.specs.declared.tallies.Tallies.{Tallies}

-- Each display that differs from what it was last shown is due, by the values of all displays.
abbrev pub AreDueToDiffer : PlantData → (ℕ → Value) → shown.Shown → Due → Type 0
AreDueToDiffer plant values before due =
    (display : ℕ) → display < length plant.displays
    → shown.differs before display (values display) ≡ true
    → is_due plant due display ≡ true

-- Due displays are those of a plant, and among them are all that differ.
pub record AreKeptDue (plant : PlantData) (crosspoints : Crosspoints) (before : shown.Shown)
    (due : Due) : Type 0 where
  pub tables : AreDueOf plant due
  pub differing : AreDueToDiffer plant (value_in plant crosspoints) before due

-- The displays that were due still are.
pub record StayDue (plant : PlantData) (old new : Due) : Type 0 where
  pub tables : AreDueOf plant new
  pub stay : (display : ℕ) → display < length plant.displays
      → is_due plant old display ≡ true → is_due plant new display ≡ true

-- All displays that watch a destination are due.
abbrev pub AreWatchersDue : PlantData → Due → ℕ → Type 0
AreWatchersDue plant due dest = (display : ℕ) → display < length plant.displays
    → watch_of plant.displays display ≡ Some dest → is_due plant due display ≡ true

-- All displays that watch a destination under this head are due.
abbrev pub AreTappedDue : PlantData → Due → Lists → ℕ → Type 0
AreTappedDue plant due taps head =
    (dest : ℕ) → IsUnder taps head dest → AreWatchersDue plant due dest

-- Since something stood, only what changes name has moved, and the tallies tell what this turned on or off.
pub record HaveTurned (plant : PlantData) (old new : Crosspoints) (changes : List Change)
    (tallies : Tallies) : Type 0 where
  pub moved : MovedOnly old new changes
  pub air : AreFlipped plant old new plant.air tallies.air.flipped
  pub preview : AreFlipped plant old new plant.preview tallies.preview.flipped

-- Each display whose value has changed is due, and so is each that was.
pub record FollowValues (plant : PlantData) (old new : Crosspoints) (before after : Due)
    : Type 0 where
  pub due : StayDue plant before after
  pub same : (display : ℕ) → display < length plant.displays
      → is_due plant after display ≡ false
      → value_in plant new display ≡ value_in plant old display
