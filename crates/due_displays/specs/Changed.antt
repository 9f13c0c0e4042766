-- What is asked of due displays, and what becomes of them.
use Rattle.std.specs.Prelude.{◌≡◌, ℕ, ◌<◌, ◌==◌, ◌||◌, ◌&&◌, not, Bool, true, false, length, slice_get, Option, Some, None}
use Rattle.std.specs.Option.{option_map_or}
use Rattle.plant_config.specs.Plant.{PlantData}
use Rattle.change_boards.specs.Screens.{displays_of}
use Rattle.due_displays.specs.Watchers.{watch_of}
use Rattle.due_displays.specs.Due.{Due, AreDueOf, is_due}

-- whether a display watches a destination
abbrev pub watches : PlantData → ℕ → ℕ → Bool
watches plant dest display =
    option_map_or (λ watch. watch == dest) (watch_of plant.displays display) false

-- The displays that were due still are, and those of a choice are too. No other display became so.
pub record BecomeDue (plant : PlantData) (old new : Due) (chosen : ℕ → Bool) : Type 0 where
  pub kept : AreDueOf plant new
  pub each : (display : ℕ) → display < length plant.displays
      → is_due plant new display ≡ (chosen display || is_due plant old display)

-- One display isn't due any more. Each other one is as it was.
pub record LosesDue (plant : PlantData) (old new : Due) (gone : ℕ) : Type 0 where
  pub kept : AreDueOf plant new
  pub each : (display : ℕ) → display < length plant.displays
      → is_due plant new display ≡ (not (display == gone) && is_due plant old display)

-- No display is due at a position of a screen.
abbrev pub NoneIsDueAt : PlantData → Due → ℕ → ℕ → Type 0
NoneIsDueAt plant due screen position = (display : ℕ)
    → slice_get (displays_of plant screen) position ≡ Some display
    → is_due plant due display ≡ false

-- The position of the first display of a screen that is due, none where none is.
pub record IsFirstDue (plant : PlantData) (due : Due) (screen : ℕ) (found : Option ℕ)
    : Type 0 where
  pub within : (position : ℕ) → found ≡ Some position
      → position < length (displays_of plant screen)
  pub is : (position display : ℕ) → found ≡ Some position
      → slice_get (displays_of plant screen) position ≡ Some display
      → is_due plant due display ≡ true
  pub passed : (position before : ℕ) → found ≡ Some position → before < position
      → NoneIsDueAt plant due screen before
  pub none : (position : ℕ) → found ≡ None → NoneIsDueAt plant due screen position
