-- The screens of a plant, which are those that its displays are on.
use Rattle.std.specs.Prelude.{◌≡◌, ◌↔◌, ℕ, ◌+◌, ◌==◌, Bool, true, if◌then◌else◌, List, filter, Option, Some, None}
use Rattle.std.specs.List.{range_with_len, list_any, Contains}
use Rattle.std.specs.List.Sorted.{IsStrictlyIncreasing}
use Rattle.plant_config.specs.declared.records.Display.{Display}
use Rattle.plant_config.specs.Limits.{last_screen}
use Rattle.plant_config.specs.Plant.{PlantData}

-- whether some of these displays is on a screen
abbrev pub is_screen_among : List Display → ℕ → Bool
is_screen_among displays screen =
    list_any (λ (display : Display). display.screen == screen) displays

-- whether a plant has a screen: some display is on it
abbrev pub has_screen : PlantData → ℕ → Bool
has_screen plant = is_screen_among plant.displays

-- the screen of a number, `None` where the plant has none of it
abbrev pub screen_of : PlantData → ℕ → Option ℕ
screen_of plant number = if has_screen plant number then Some number else None

-- the numbers of the screens that these displays are on, ascending, each once
unfoldable pub screens_among : List Display → List ℕ
screens_among displays = filter (is_screen_among displays) (range_with_len 0 (last_screen + 1))

-- the numbers of a plant's screens, ascending, each once
abbrev pub screens_of : PlantData → List ℕ
screens_of plant = screens_among plant.displays

-- Exactly the screens that a plant has are listed.
abbrev pub ListsItsScreens : PlantData → Type 0
ListsItsScreens plant =
    (screen : ℕ) → Contains (screens_of plant) screen ↔ (has_screen plant screen ≡ true)

-- The screens of a plant ascend, each once, and a number is among them exactly where a display has it.
pub record ScreensAreOfDisplays (plant : PlantData) : Type 0 where
  pub ascend : IsStrictlyIncreasing (screens_of plant)
  pub each : ListsItsScreens plant
