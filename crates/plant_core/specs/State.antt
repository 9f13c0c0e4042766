-- The state of a plant, as plain data, and what is true of it.
use Rattle.std.specs.Prelude.{◌≡◌, ℕ, ◌<◌, ◌≤◌, length, slice_get, Bool, true, false, List, All, Option, Some, None, IfSome}
use Rattle.std.specs.Option.{option_map_or, option_and_then}
use Rattle.std.specs.FinMap.{empty, get}
use Rattle.swp08_messages.specs.declared.point.Point.{Point}
use Rattle.swp08_messages.specs.declared.message.Message.{Message}
use Rattle.swp08_messages.specs.declared.message.MessageKind.TheVariants.{Plant}
use Rattle.swp08_messages.specs.Text.{InRange, kind_of}
use Rattle.plant_config.specs.Limits.{last_device}
use Rattle.plant_config.specs.Plant.{PlantData, destinations_of}
use Rattle.plant_config.specs.IsPlant.{IsPlant}
use Rattle.plant_config.specs.Sites.{dest_at, source_at, source_number_of}
use Rattle.plant_config.specs.declared.records.Change.{Change}
use Rattle.plant_config.specs.declared.records.Panel.{Panel}
use Rattle.plant_config.specs.declared.records.Display.{Display}
use Rattle.crosspoint_state.specs.Crosspoints.{Crosspoints, source_of}
use Rattle.crosspoint_state.specs.Ties.{HaveValidTies}
use Rattle.crosspoint_state.specs.declared.spot.Spot.{Spot}
use Rattle.protects.specs.Owners.{Owners}
use Rattle.salvo_groups.specs.Groups as salvos
use Rattle.salvo_groups.specs.Groups.{Group, group_of, AreGroups}
use Rattle.change_boards.specs.Board.{Board}
use Rattle.change_boards.specs.Notices as notices
use Rattle.change_boards.specs.Laws.{AreBoards}
use Rattle.change_boards.specs.declared.value.Value.{Value}
use Rattle.plant_config.specs.Screens.{has_screen}
use Rattle.change_boards.specs.Shown as displays
use Rattle.plant_core.specs.declared.request.Request.{Request}
use Rattle.plant_core.specs.declared.request.Request.TheVariants.{Told, Poll, Leave, DisplayPoll}

-- a plant, which no step changes; what its destinations carry, and which device protects each; the salvo groups, which all
-- panels have in common; what each panel has yet to hear of; and what each display was last shown
pub record State : Type 0 where
  pub plant : PlantData
  pub crosspoints : Crosspoints
  pub owners : Owners
  pub groups : List Group
  pub boards : List Board
  pub shown : displays.Shown

-- the state at the start: every destination is parked and unprotected, every group is empty, there are no notices, no panel
-- has left, and no display was shown a value
abbrev pub start : PlantData → State
start plant = record {
  plant = plant;
  crosspoints = empty;
  owners = empty;
  groups = salvos.start_groups;
  boards = notices.start_boards (length plant.panels);
  shown = displays.never_shown (length plant.displays);
}

-- the device that a panel acts for, and whether the panel may lift any protect
abbrev pub device_of : PlantData → ℕ → ℕ
device_of plant panel =
    option_map_or (λ (found : Panel). found.device) (slice_get plant.panels panel) 0

abbrev pub is_master : PlantData → ℕ → Bool
is_master plant panel =
    option_map_or (λ (found : Panel). found.master) (slice_get plant.panels panel) false

-- the source that stands at a place, by its number in its level: parked also where the plant has no such place
abbrev pub standing : State → Point → Option ℕ
standing state at =
    option_and_then
    (λ dest. option_and_then (source_number_of state.plant) (source_of state.crosspoints dest))
    (dest_at state.plant at.matrix at.level at.dest)

-- the device that protects a place: none also where the plant has no such place
abbrev pub owner_at : State → Point → Option ℕ
owner_at state at =
    option_and_then (get state.owners) (dest_at state.plant at.matrix at.level at.dest)

-- A source may stand at a destination where both are of one level.
pub record IsCrosspoint (plant : PlantData) (dest source : ℕ) : Type 0 where
  pub matrix : ℕ
  pub level : ℕ
  pub dest_number : ℕ
  pub source_number : ℕ
  pub dest_is : dest_at plant matrix level dest_number ≡ Some dest
  pub source_is : source_at plant matrix level source_number ≡ Some source

-- Each destination that isn't parked carries a source of its own level.
abbrev pub AreCrosspoints : PlantData → Crosspoints → Type 0
AreCrosspoints plant crosspoints =
    (dest : ℕ) (spot : Spot) → get crosspoints dest ≡ Some spot
    → IsCrosspoint plant dest spot.source

-- Only destinations of the plant are protected, each by a device of a number that panels may have.
abbrev pub AreOwners : PlantData → Owners → Type 0
AreOwners plant owners = (dest device : ℕ) → get owners dest ≡ Some device
    → (dest < destinations_of plant) × (device ≤ last_device)

-- A change is of a destination of the plant, which it parks or gives a source of its own level.
pub record IsChangeOf (plant : PlantData) (change : Change) : Type 0 where
  pub dest : change.dest < destinations_of plant
  pub source : IfSome change.source (IsCrosspoint plant change.dest)

-- A destination can have a value where the value's source is of the destination's level. A value without a source is neither
-- on air nor on preview.
pub record CanHave (plant : PlantData) (dest : ℕ) (value : Value) : Type 0 where
  pub source : IfSome value.source (IsCrosspoint plant dest)
  pub parked : value.source ≡ None → (value.air ≡ false) × (value.preview ≡ false)

-- Each display of the plant was last shown a value that the destination that it watches can have, or none.
pub record AreShown (plant : PlantData) (shown : displays.Shown) : Type 0 where
  pub count : length shown ≡ length plant.displays
  pub each : (number : ℕ) (display : Display) (value : Value)
      → slice_get plant.displays number ≡ Some display
      → displays.last shown number ≡ Some value → CanHave plant display.watch value

-- A state is valid where its plant is, each destination carries a source of its own level, and the ties are valid, so that no
-- tie carries two sources. Only destinations of the plant are protected. There are 128 groups, each of changes of the plant.
-- Each panel of the plant has a board, with notices of the plant's destinations, none where the panel has left. Of each
-- display it is kept what it was last shown, which is a value that it can have.
pub record IsValid (state : State) : Type 0 where
  pub is_plant : IsPlant state.plant
  pub is_crosspoint : AreCrosspoints state.plant state.crosspoints
  pub ties : HaveValidTies state.plant state.crosspoints
  pub owners : AreOwners state.plant state.owners
  pub groups : AreGroups state.groups
  pub changes : (number : ℕ) → All (IsChangeOf state.plant) (group_of state.groups number)
  pub boards : AreBoards state.boards (length state.plant.panels) (destinations_of state.plant)
  pub shown : AreShown state.plant state.shown

-- A message is for the plant where it asks something of it, and is in its ranges.
abbrev pub IsForPlant : Message → Type 0
IsForPlant message = (kind_of message ≡ Plant) × InRange message

-- A request fits a plant where its panel is in it, a message that is told is for the plant, and the screen that is polled
-- is one that a display of the plant is on.
abbrev pub FitsPlant : PlantData → Request → Type 0
FitsPlant plant (Told panel item message) = (panel < length plant.panels) × IsForPlant message
FitsPlant plant (Poll panel item turn) = panel < length plant.panels
FitsPlant plant (Leave panel) = panel < length plant.panels
FitsPlant plant (DisplayPoll screen refresh) = has_screen plant screen ≡ true

-- What stands in a state doesn't matter for what fits.
abbrev pub Fits : State → Request → Type 0
Fits state request = FitsPlant state.plant request
