-- Which displays of a plant are due.
use Rattle.std.specs.Prelude.{◌≡◌, ◌↔◌, ℕ, ◌<◌, ◌≤◌, Bool, true, List, [], length, slice_get, slice_index_or, Option, Some, refl}
use Rattle.std.specs.Option.{option_map_or}
use Rattle.std.specs.FinSet.{contains, code as set_code}
use Rattle.std.specs.Coded.{Coded, code_by, coded×, coded_ℕ, coded_list, coded_option}
use Rattle.number_tables.specs.Numbers.{Numbers, number_limit}
use Rattle.plant_config.specs.declared.records.Display.{Display}
use Rattle.plant_config.specs.Plant.{PlantData}
use Rattle.change_boards.specs.Screens.{displays_of}
use Rattle.due_displays.specs.Row.{Row, has_at, row_room}
use Rattle.due_displays.specs.Watchers.{AreWatchersOf}

-- The last display that watches each destination, and the one before each display; the position of each display on its
-- screen; a row of positions for each screen, and the screens whose rows have some.
pub record Due : Type 0 where
  pub lasts : List (Option ℕ)
  pub befores : List (Option ℕ)
  pub positions : List ℕ
  pub rows : List Row
  pub screens : Numbers

-- due displays are stored as their fields
abbrev pub due_code : Coded Due
due_code =
    code_by ((List (Option ℕ) × List (Option ℕ)) × (List ℕ × (List Row × Numbers)))
    (coded× (coded× (coded_list (coded_option coded_ℕ)) (coded_list (coded_option coded_ℕ)))
    (coded× (coded_list coded_ℕ)
    (coded× (coded_list (coded_list (set_code coded_ℕ))) (set_code coded_ℕ))))
    (λ due. ((due.lasts, due.befores), (due.positions, (due.rows, due.screens))))
    (λ tuple. record {
      lasts = tuple.0.0;
      befores = tuple.0.1;
      positions = tuple.1.0;
      rows = tuple.1.1.0;
      screens = tuple.1.1.1;
    }) (λ _. refl)

-- the row of a screen
abbrev pub row_of : Due → ℕ → Row
row_of due screen = slice_index_or due.rows screen []

-- the screen that a display is on, and its position among the displays there
abbrev pub screen_at : PlantData → ℕ → ℕ
screen_at plant display =
    option_map_or (λ (found : Display). found.screen) (slice_get plant.displays display) 0

abbrev pub position_of : Due → ℕ → ℕ
position_of due display = slice_index_or due.positions display 0

-- whether a display is due
abbrev pub is_due : PlantData → Due → ℕ → Bool
is_due plant due display = has_at (row_of due (screen_at plant display)) (position_of due display)

-- A display of a plant is on this screen, and this is its position there.
pub record StandsAt (plant : PlantData) (due : Due) (screen position display : ℕ) : Type 0 where
  pub below : display < length plant.displays
  pub on : screen_at plant display ≡ screen
  pub at : position_of due display ≡ position

-- Due displays are kept for a plant: each display has its position, each screen has room for its displays, positions are of
-- displays, just the screens with some are noted, and destinations lead to the displays that watch them.
pub record AreDueOf (plant : PlantData) (due : Due) : Type 0 where
  pub count : length due.positions ≡ length plant.displays
  pub listed : (display : ℕ) → display < length plant.displays
      → slice_get (displays_of plant (screen_at plant display)) (position_of due display)
      ≡ Some display
  pub placed : (screen position display : ℕ)
      → slice_get (displays_of plant screen) position ≡ Some display
      → StandsAt plant due screen position display
  pub room : (screen : ℕ) → length (displays_of plant screen) ≤ row_room (row_of due screen)
  pub few : length due.rows ≤ number_limit
  pub within : (screen position : ℕ) → has_at (row_of due screen) position ≡ true
      → position < length (displays_of plant screen)
  pub noted : (screen : ℕ) → (contains due.screens screen ≡ true)
      ↔ ((position : ℕ) × (has_at (row_of due screen) position ≡ true))
  pub watched : AreWatchersOf plant.displays due.lasts due.befores
