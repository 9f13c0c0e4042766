-- What the commands that aren't extended can tell of a state: what they alone can reach.
use Rattle.std.specs.Prelude.{◌≡◌, ℕ, ◌<◌, true, All, Option, Some, IfSome}
use Rattle.std.specs.Option.{option_and_then}
use Rattle.std.specs.FinMap.{get}
use Rattle.swp08_messages.specs.Field.{dests, parked}
use Rattle.plant_config.specs.Plant.{PlantData}
use Rattle.plant_config.specs.Sites.{point_of, source_number_of}
use Rattle.plant_config.specs.declared.records.Change.{Change}
use Rattle.salvo_groups.specs.Groups.{group_of}
use Rattle.change_boards.specs.Notices.{has}
use Rattle.change_boards.specs.declared.sort.Sort.TheVariants.{Protect}
use Rattle.plant_core.specs.State.{State}

-- The number of a destination in its level, and that of a source that isn't parked, can be told by the commands that aren't
-- extended.
abbrev pub IsShortDest : PlantData → ℕ → Type 0
IsShortDest plant dest = IfSome (point_of plant dest) (λ at. at.dest < dests)

abbrev pub IsShortSource : PlantData → Option ℕ → Type 0
IsShortSource plant source =
    IfSome (option_and_then (source_number_of plant) source) (λ number. number < parked)

-- Those of a change can.
pub record IsShortChange (plant : PlantData) (change : Change) : Type 0 where
  pub dest : IsShortDest plant change.dest
  pub source : IsShortSource plant change.source

-- The destinations that are protected.
abbrev pub OwnersStayShort : State → Type 0
OwnersStayShort state = (dest device : ℕ) → get state.owners dest ≡ Some device
    → IsShortDest state.plant dest

-- The destinations of protect notices.
abbrev pub NoticesStayShort : State → Type 0
NoticesStayShort state = (panel dest : ℕ) → has state.boards panel dest Protect ≡ true
    → IsShortDest state.plant dest

-- Protects and groups are reached by commands that aren't extended alone. So what is protected, what is told of protects,
-- and what groups are to change has numbers that these commands can tell.
pub record StaysShort (state : State) : Type 0 where
  pub owners : OwnersStayShort state
  pub notices : NoticesStayShort state
  pub changes : (number : ℕ) → All (IsShortChange state.plant) (group_of state.groups number)
