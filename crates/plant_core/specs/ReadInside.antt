-- How a state is read from a text without a fault: part by part.
use Rattle.std.specs.Prelude.{◌≡◌, ℕ, ◌+◌, ◌*◌, ◌<◌, ◌≤◌, nat_lt, true, if◌then◌else◌, List, length, take, drop, All, Contains, Option, None}
use Rattle.std.specs.Option.{option_map}
use Rattle.std.specs.FinMap.{empty, get}
use Rattle.crosspoint_state.specs.Table.{Entries}
use Rattle.plant_config.specs.declared.records.Change.{Change}
use Rattle.plant_config.specs.Plant.{PlantData, destinations_of}
use Rattle.crosspoint_state.specs.declared.spot.Spot.{Spot}
use Rattle.crosspoint_state.specs.Crosspoints.{Crosspoints, NamesOnce}
use Rattle.protects.specs.Owners.{Owners}
use Rattle.tally.specs.Moved.{has_moved}
use Rattle.tally.specs.Touched.{named_by}
use Rattle.salvo_groups.specs.Limits.{salvo_limit, group_limit}
use Rattle.salvo_groups.specs.Groups.{Group, group_of, AreGroups}
use Rattle.change_boards.specs.Board.{Board}
use Rattle.change_boards.specs.Notices.{board_of, has}
use Rattle.change_boards.specs.Laws.{AreBoards}
use Rattle.change_boards.specs.Shown.{Shown, last}
use Rattle.change_boards.specs.declared.sort.Sort.TheVariants.{Protect}
use Rattle.plant_core.specs.State.{IsChangeOf, AreShown}
use Rattle.plant_core.specs.Short.{IsShortDest, IsShortChange}
use Rattle.plant_core.specs.StateText.{texts_of, dest_text, group_text, panel_text, display_text}
use Rattle.plant_core.specs.StateFields.{some_two_at, place_of_dest, place_of_group, place_of_panel, place_of_display}
use Rattle.plant_core.specs.StateFault.{source_in, tie_in}

-- so many bytes, from a place on
unfoldable pub part : List ℕ → ℕ → ℕ → List ℕ
part bytes place count = take count (drop place bytes)

-- what a destination carries by a text, and which device protects it
unfoldable pub spot_in : List ℕ → ℕ → Option Spot
spot_in bytes dest =
    option_map (λ source. record { source = source; tie = tie_in bytes dest })
    (source_in bytes dest)

unfoldable pub owner_in : List ℕ → ℕ → Option ℕ
owner_in bytes dest = some_two_at bytes (place_of_dest dest + 8)

-- The first so many numbers have these values, and all others none.
abbrev pub HaveBelow : {V : Type 0} → ℕ → (ℕ → Option V) → Entries V → Type 0
HaveBelow count value entries =
    (number : ℕ) → get entries number ≡ (if nat_lt number count then value number else None)

-- Changes bring what the first so many destinations carry to where nothing was carried.
pub record AreBrought (points : Crosspoints) (count : ℕ) (changes : List Change) : Type 0 where
  pub few : length changes ≤ count
  pub below : (dest : ℕ) → Contains (named_by changes) dest → dest < count
  pub each : (dest : ℕ) → Contains (named_by changes) dest
      → has_moved empty points dest ≡ true
  pub only : (dest : ℕ) → dest < count → (Contains (named_by changes) dest → ⊥)
      → get points dest ≡ None
  pub once : NamesOnce changes

-- the texts of all destinations
abbrev pub dests_text : PlantData → Crosspoints → Owners → List ℕ
dests_text plant points owners = texts_of (destinations_of plant) (dest_text points owners)

-- the texts of all groups, of all panels and of all displays
abbrev pub groups_text : List Group → List ℕ
groups_text groups = texts_of salvo_limit (λ group. group_text (group_of groups group))

abbrev pub panels_text : PlantData → List Board → List ℕ
panels_text plant boards =
    texts_of (length plant.panels)
    (λ panel. panel_text (destinations_of plant) (board_of boards panel))

abbrev pub displays_text : PlantData → Shown → List ℕ
displays_text plant shown =
    texts_of (length plant.displays) (λ display. display_text (last shown display))

-- Groups are those of a text: their text is the part of it, and all of their changes can stand in groups.
pub record AreGroupsIn (plant : PlantData) (bytes : List ℕ) (groups : List Group) : Type 0 where
  pub text : groups_text groups
      ≡ part bytes (place_of_group plant 0) (salvo_limit * (2 + 8 * group_limit))
  pub are_groups : AreGroups groups
  pub changes : (number : ℕ) → All (IsChangeOf plant) (group_of groups number)
  pub short : (number : ℕ) → All (IsShortChange plant) (group_of groups number)

-- Boards are those of a text, with notices that panels can have.
pub record AreBoardsIn (plant : PlantData) (bytes : List ℕ) (boards : List Board) : Type 0 where
  pub text : panels_text plant boards
      ≡ part bytes (place_of_panel plant 0)
      (length plant.panels * (1 + destinations_of plant))
  pub are_boards : AreBoards boards (length plant.panels) (destinations_of plant)
  pub short : (panel dest : ℕ) → has boards panel dest Protect ≡ true
      → IsShortDest plant dest

-- What displays were last shown is that of a text, with values that they can have.
pub record AreShownIn (plant : PlantData) (bytes : List ℕ) (shown : Shown) : Type 0 where
  pub text : displays_text plant shown
      ≡ part bytes (place_of_display plant 0) (7 * length plant.displays)
  pub are_shown : AreShown plant shown
