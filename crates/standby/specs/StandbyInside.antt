-- What is true of every standby.
use Rattle.std.specs.Prelude.{◌≡◌, ℕ, ◌+◌, ◌<◌, ◌≤◌, ◌^◌, length, slice_get, slice_set, count_by, Option, Some, None, is_some, IfSome}
use Rattle.plant_config.specs.Plant.{PlantData}
use Rattle.plant_core.specs.declared.request.Request.{Request}
use Rattle.plant_core.specs.State.{FitsPlant}
use Rattle.standby.specs.Standby.{Data, Window, IsKeptAt, moved_on, applies}

-- the number below which positions are, and the most places of a window
abbrev pub position_limit : ℕ
position_limit = 2 ^ 62

abbrev pub most_places : ℕ
most_places = 65536

-- how many requests a place keeps
abbrev pub count_at : Option Request → ℕ
count_at None = 0
count_at (Some request) = 1

-- The requests of a window are counted, and it hasn't too many places.
pub record IsWindow (kept : ℕ) (window : Window) : Type 0 where
  pub counted : kept ≡ count_by is_some window
  pub few : length window ≤ most_places

-- A request may be taken at a position.
pub record MayCome (plant : PlantData) (position : ℕ) (request : Request) : Type 0 where
  pub below : position < position_limit
  pub fits : FitsPlant plant request

-- There is a window, nothing is kept for its first position, and what is kept may be taken.
pub record IsStandby (standby : Data) : Type 0 where
  pub some : 1 ≤ length standby.window
  pub most : length standby.window ≤ most_places
  pub first : slice_get standby.window 0 ≡ Some None
  pub applied : standby.applied ≤ position_limit
  pub kept : (position : ℕ) (request : Request) → IsKeptAt standby position request
      → MayCome standby.state.plant position request

-- what becomes of a standby where this is to be stepped next, if anything
abbrev pub goes_on : Option Request → Data → Data
goes_on None standby = standby
goes_on (Some request) standby = applies standby request

-- The first position is applied from now on: the window begins at the next one, and what was kept for that is taken out of
-- it.
pub record MovesOn (old : Data) (next : Option Request) (new : Data) : Type 0 where
  pub state : new.state ≡ old.state
  pub applied : new.applied ≡ old.applied + 1
  pub next_is : slice_get (moved_on 1 old.window) 0 ≡ Some next
  pub window : new.window ≡ slice_set (moved_on 1 old.window) 0 None
  pub may : IfSome next (MayCome old.state.plant new.applied)
  -- the window had a place, and what is stepped next is counted no more
  pub some : 1 ≤ length old.window
  pub count : count_by is_some new.window + count_at next ≡ count_by is_some old.window

-- A request came that was missing, and its row is being stepped: what is left of that, beginning with this one, leads to what
-- it leads to in all.
pub record IsUnderWay (initial : Data) (request : Request) (next : Option Request) (now : Data)
    : Type 0 where
  pub may : IfSome next (MayCome now.state.plant now.applied)
  pub same : goes_on next now ≡ applies initial request
  pub plant : now.state.plant ≡ initial.state.plant
