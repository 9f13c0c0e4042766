-- A standby as plain data, and what a request makes of it that is kept or applied.
use Rattle.std.specs.Prelude.{◌≡◌, ℕ, ◌+◌, ◌-◌, List, [], ◌∷◌, ◌++◌, length, drop, replicate, slice_get, slice_set, Option, Some, None}
use Rattle.plant_config.specs.Plant.{PlantData}
use Rattle.plant_core.specs.declared.request.Request.{Request}
use Rattle.plant_core.specs.State as states
use Rattle.plant_core.specs.State.{State}
use Rattle.plant_core.specs.Step.{step}

-- What a window has of each position from its first on, in order: the request that is kept for it, or none.
abbrev pub Window : Type 0
Window = List (Option Request)

-- A standby: the state of its plant; how many requests of a history that state has behind it, which is the number of the
-- first position that isn't applied; and its window, which begins at that position.
pub record Data : Type 0 where
  pub state : State
  pub applied : ℕ
  pub window : Window

-- a new standby: its plant is at the start, and nothing is applied or kept
abbrev pub start : PlantData → ℕ → Data
start plant places =
    record { state = states.start plant; applied = 0; window = replicate places None }

-- the position behind the last one of the window
abbrev pub limit : Data → ℕ
limit standby = standby.applied + length standby.window

-- A request is kept for a position.
pub record IsKeptAt (standby : Data) (position : ℕ) (request : Request) : Type 0 where
  pub offset : ℕ
  pub position_is : position ≡ standby.applied + offset
  pub kept : slice_get standby.window offset ≡ Some (Some request)

-- a request is kept for a position of the window
abbrev pub keeps : Data → ℕ → Request → Data
keeps standby position request =
    record standby {
      window = slice_set standby.window (position - standby.applied) (Some request);
    }

-- the requests that are kept from the first place of a window on, up to the first place that has none
abbrev pub in_row : Window → List Request
in_row [] = []
in_row (None ∷ places) = []
in_row (Some request ∷ places) = request ∷ in_row places

-- the state that requests leave, stepped one after another
abbrev pub state_after : State → List Request → State
state_after state [] = state
state_after state (request ∷ requests) = state_after (step state request).state requests

-- a window that begins so many positions later, where nothing is kept for the positions that come into it
abbrev pub moved_on : ℕ → Window → Window
moved_on count window = drop count window ++ replicate count None

-- The request at the first position that isn't applied is stepped, and then those that are kept in a row behind it.
abbrev pub applies : Data → Request → Data
applies standby request =
    let row = request ∷ in_row (drop 1 standby.window) in
    record {
      state = state_after standby.state row;
      applied = standby.applied + length row;
      window = moved_on (length row) standby.window;
    }
