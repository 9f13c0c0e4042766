-- How it is found where displays stand.
use Rattle.std.specs.Prelude.{◌≡◌, ◌≢◌, ℕ, ◌<◌, ◌≤◌, false, List, [], length, slice_get, slice_index_or, Some}
use Rattle.plant_config.specs.Plant.{PlantData}
use Rattle.change_boards.specs.Screens.{Screens, displays_at, displays_of}
use Rattle.due_displays.specs.Row.{Row, has_at, row_room}

-- There is a row for each screen below a count, with room for its displays, and none is due.
pub record AreRowsOf (screens : Screens) (count : ℕ) (rows : List Row) : Type 0 where
  pub many : length rows ≡ count
  pub room : (screen : ℕ) → screen < count
      → length (displays_at screens screen) ≤ row_room (slice_index_or rows screen [])
  pub none : (screen position : ℕ) → has_at (slice_index_or rows screen []) position ≡ false

-- Each display of the screens below a count has its position on its screen.
pub record ArePositionsOf (plant : PlantData) (count : ℕ) (positions : List ℕ) : Type 0 where
  pub many : length positions ≡ length plant.displays
  pub each : (screen position display : ℕ) → screen < count
      → slice_get (displays_of plant screen) position ≡ Some display
      → slice_index_or positions display 0 ≡ position

-- Each of these displays, of which none stands twice, has its position among them. No other display's changed.
pub record ArePut (displays : List ℕ) (old new : List ℕ) : Type 0 where
  pub count : length new ≡ length old
  pub each : (position display : ℕ)
      → ((first second : ℕ) → slice_get displays first ≡ Some display
      → slice_get displays second ≡ Some display → first ≡ second)
      → slice_get displays position ≡ Some display
      → slice_index_or new display 0 ≡ position
  pub others : (display : ℕ)
      → ((position : ℕ) → slice_get displays position ≢ Some display)
      → slice_index_or new display 0 ≡ slice_index_or old display 0
