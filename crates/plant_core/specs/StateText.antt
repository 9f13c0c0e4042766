-- The text of a state: its fields one behind the other, each at a place that the plant alone fixes. Numbers have their low
-- byte first.
use Rattle.std.specs.Prelude.{ℕ, ◌+◌, ◌-◌, ◌*◌, ◌^◌, Bool, true, false, List, [], ◌∷◌, ◌++◌, length, map, replicate, slice_get, Option, Some, None}
use Rattle.std.specs.Int.{w16, w32, to_le_bytes}
use Rattle.std.specs.List.{flat_map, range_with_len}
use Rattle.std.specs.FinMap.{get}
use Rattle.plant_config.specs.Plant.{PlantData, destinations_of, sources_of}
use Rattle.plant_config.specs.declared.records.Change.{Change}
use Rattle.crosspoint_state.specs.Crosspoints.{Crosspoints}
use Rattle.crosspoint_state.specs.declared.spot.Spot.{Spot}
use Rattle.protects.specs.Owners.{Owners}
use Rattle.salvo_groups.specs.Limits.{salvo_limit, group_limit}
use Rattle.salvo_groups.specs.Groups.{Group, group_of}
use Rattle.change_boards.specs.Board.{Board, has_notice}
use Rattle.change_boards.specs.Notices.{board_of}
use Rattle.change_boards.specs.Shown.{last}
use Rattle.change_boards.specs.declared.sort.Sort.TheVariants.{Source, Protect}
use Rattle.change_boards.specs.declared.value.Value.{Value}
use Rattle.plant_core.specs.State.{State}

-- a number of four bytes, and one of two
abbrev pub four : ℕ → List ℕ
four number = to_le_bytes w32 number

abbrev pub two : ℕ → List ℕ
two number = to_le_bytes w16 number

-- a number or none, for which all bits are set
abbrev pub four_or_none : Option ℕ → List ℕ
four_or_none None = four (2 ^ 32 - 1)
four_or_none (Some number) = four number

abbrev pub two_or_none : Option ℕ → List ℕ
two_or_none None = two (2 ^ 16 - 1)
two_or_none (Some number) = two number

-- 1 for what is so, 0 for what isn't
abbrev pub bit : Bool → ℕ
bit true = 1
bit false = 0

-- the texts of the first so many, by their numbers, one behind the other
unfoldable pub texts_of : ℕ → (ℕ → List ℕ) → List ℕ
texts_of count text = flat_map text (range_with_len 0 count)

-- how many sources, destinations, panels and displays the plant has
abbrev pub counts_text : PlantData → List ℕ
counts_text plant =
    four (sources_of plant) ++ four (destinations_of plant)
    ++ four (length plant.panels) ++ four (length plant.displays)

-- what a destination carries: a source and the tie that brings it, none of both where it is parked
abbrev pub spot_text : Option Spot → List ℕ
spot_text None = four_or_none None ++ four_or_none None
spot_text (Some spot) = four spot.source ++ four_or_none spot.tie

-- a destination: what it carries, and the device that protects it
abbrev pub dest_text : Crosspoints → Owners → ℕ → List ℕ
dest_text crosspoints owners dest =
    spot_text (get crosspoints dest) ++ two_or_none (get owners dest)

-- a place of a group: its change, zeros where there is none
abbrev pub entry_text : Option Change → List ℕ
entry_text None = replicate 8 0
entry_text (Some change) = four change.dest ++ four_or_none change.source

-- a group: how many changes it has, and all of its places
abbrev pub group_text : Group → List ℕ
group_text group =
    two (length group) ++ texts_of group_limit (λ index. entry_text (slice_get group index))

-- the notices that a panel has of a destination: 1 for its source, 2 for its protect
abbrev pub notices_of : Board → ℕ → ℕ
notices_of board dest =
    bit (has_notice board dest Source) + 2 * bit (has_notice board dest Protect)

-- a panel: whether it has left, and its notices of each destination
abbrev pub panel_text : ℕ → Board → List ℕ
panel_text destinations board =
    bit board.left ∷ map (notices_of board) (range_with_len 0 destinations)

-- what a display was last shown, zeros where that is nothing
abbrev pub display_text : Option Value → List ℕ
display_text None = replicate 7 0
display_text (Some value) =
    1 ∷ four_or_none value.source ++ bit value.air ∷ bit value.preview ∷ []

-- the text of a state: the plant's counts, its destinations, the salvo groups, the panels and the displays
unfoldable pub state_text : State → List ℕ
state_text state =
    counts_text state.plant
    ++ texts_of (destinations_of state.plant) (dest_text state.crosspoints state.owners)
    ++ texts_of salvo_limit (λ group. group_text (group_of state.groups group))
    ++ texts_of (length state.plant.panels)
    (λ panel. panel_text (destinations_of state.plant) (board_of state.boards panel))
    ++ texts_of (length state.plant.displays) (λ display. display_text (last state.shown display))

-- how many bytes the text of each state of a plant has
abbrev pub state_size : PlantData → ℕ
state_size plant =
    16 + 10 * destinations_of plant + salvo_limit * (2 + 8 * group_limit)
    + length plant.panels * (1 + destinations_of plant) + 7 * length plant.displays
