-- What is true of the displays of all screens, and of all values that displays were last shown.
use Rattle.std.specs.Prelude.{◌≡◌, ◌≢◌, ◌↔◌, ℕ, ◌<◌, ◌==◌, nat_eq, Bool, true, false, List, [], All, map, length, slice_get, Some, None}
use Rattle.std.specs.Option.{option_map_or}
use Rattle.std.specs.List.{IsDistinct, list_any}
use Rattle.std.specs.List.Sorted.{IsStrictlyIncreasing}
use Rattle.plant_config.specs.declared.records.Display.{Display}
use Rattle.plant_config.specs.Plant.{PlantData}
use Rattle.change_boards.specs.declared.value.Value.{Value}
use Rattle.change_boards.specs.Screens.{displays_of}
use Rattle.plant_config.specs.Screens.{has_screen}
use Rattle.change_boards.specs.Shown.{Shown, last, differs, with_shown, with_forgotten}

-- whether a display of this number is one of the plant, and on this screen
abbrev pub is_on_screen : PlantData → ℕ → ℕ → Bool
is_on_screen plant screen number =
    option_map_or (λ (display : Display). display.screen == screen)
    (slice_get plant.displays number) false

-- the index that the display of this number has on its screen
abbrev pub screen_index : PlantData → ℕ → ℕ
screen_index plant number =
    option_map_or (λ (display : Display). display.index) (slice_get plant.displays number) 0

-- whether a number is among these
abbrev pub is_in_list : List ℕ → ℕ → Bool
is_in_list numbers number = list_any (nat_eq number) numbers

-- The displays of a screen are those of the plant that are on it, each once, in the rising order of their indexes.
-- There are none exactly where the plant has no such screen.
pub record HasItsDisplays (plant : PlantData) (screen : ℕ) : Type 0 where
  pub each : (number : ℕ)
      → is_in_list (displays_of plant screen) number ≡ is_on_screen plant screen number
  pub once : IsDistinct nat_eq (displays_of plant screen)
  pub rising : IsStrictlyIncreasing (map (screen_index plant) (displays_of plant screen))
  pub below : All (λ number. number < length plant.displays) (displays_of plant screen)
  pub none : (displays_of plant screen ≡ []) ↔ (has_screen plant screen ≡ false)

-- One display was last shown this value, so that it isn't to be shown that again. No other display changed.
pub record ShowsOne (old new : Shown) (display : ℕ) (value : Value) : Type 0 where
  pub count : length new ≡ length old
  pub shown : last new display ≡ Some value
  pub same : differs new display value ≡ false
  pub others : (other : ℕ) → other ≢ display → last new other ≡ last old other

-- These displays were shown no value, so that each is to be shown any. No other display changed.
pub record Forgets (old new : Shown) (displays : List ℕ) : Type 0 where
  pub count : length new ≡ length old
  pub none : (display : ℕ) → is_in_list displays display ≡ true → last new display ≡ None
  pub again : (display : ℕ) (value : Value) → is_in_list displays display ≡ true
      → differs new display value ≡ true
  pub others : (other : ℕ) → is_in_list displays other ≡ false
      → last new other ≡ last old other

-- What a display is shown, it alone is shown.
abbrev pub ShowsAreOfOneDisplay : Shown → Type 0
ShowsAreOfOneDisplay shown = (display : ℕ) (value : Value) → display < length shown
    → ShowsOne shown (with_shown shown display value) display value

-- What some displays were shown is forgotten of these alone.
abbrev pub ForgetsAreOfTheseDisplays : Shown → Type 0
ForgetsAreOfTheseDisplays shown =
    (displays : List ℕ) → Forgets shown (with_forgotten shown displays) displays
