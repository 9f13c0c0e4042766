-- What a text without a fault says of a group, of a panel and of a display.
use Rattle.std.specs.Prelude.{◌≡◌, ◌≢◌, ℕ, ◌+◌, ◌<◌, ◌≤◌, ◌==◌, nat_lt, false, ◌||◌, if◌then◌else◌, List, map, Option, Some, None}
use Rattle.std.specs.List.{range_with_len}
use Rattle.plant_config.specs.Plant.{PlantData, destinations_of}
use Rattle.plant_config.specs.declared.records.Change.{Change}
use Rattle.salvo_groups.specs.Groups.{Group}
use Rattle.change_boards.specs.Board.{Board}
use Rattle.change_boards.specs.Notices.{board_of, with_mark}
use Rattle.change_boards.specs.declared.sort.Sort.TheVariants.{Source, Protect}
use Rattle.change_boards.specs.declared.value.Value.{Value}
use Rattle.plant_core.specs.StateText.{bit, notices_of}
use Rattle.plant_core.specs.StateFields.{byte_at, place_of_panel, place_of_notices, place_of_display}
use Rattle.plant_core.specs.StateFault.{entry_dest_in, entry_source_in, was_shown, shown_source_in}

-- the change at a place of a group
abbrev pub change_in : PlantData → List ℕ → ℕ → ℕ → Change
change_in plant bytes group index = record {
  dest = entry_dest_in plant bytes group index;
  source = entry_source_in plant bytes group index;
}

-- the first so many changes of a group
unfoldable pub changes_in : PlantData → List ℕ → ℕ → ℕ → Group
changes_in plant bytes group count = map (change_in plant bytes group) (range_with_len 0 count)

-- A board is that of a panel: the panel has left or not, and has its notices.
pub record IsBoardIn (plant : PlantData) (bytes : List ℕ) (panel : ℕ) (board : Board) : Type 0 where
  pub left : bit board.left ≡ byte_at bytes (place_of_panel plant panel)
  pub notices : (dest : ℕ) → dest < destinations_of plant
      → notices_of board dest ≡ byte_at bytes (place_of_notices plant panel dest)

-- A board is read up to a destination: it has the notices of the destinations below, and none above.
pub record IsReadTo (plant : PlantData) (bytes : List ℕ) (panel : ℕ) (board : Board) (count : ℕ)
    : Type 0 where
  pub left : board.left ≡ false
  pub below : (dest : ℕ) → dest < count
      → notices_of board dest ≡ byte_at bytes (place_of_notices plant panel dest)
  pub above : (dest : ℕ) → count ≤ dest → notices_of board dest ≡ 0

-- All boards but one are the same.
abbrev pub SameBoardsBut : List Board → List Board → ℕ → Type 0
SameBoardsBut old new changed =
    (panel : ℕ) → panel ≢ changed → board_of new panel ≡ board_of old panel

-- the boards after the notices of a destination that a byte tells were added to a panel: that of the source by 1 and 3,
-- that of the protect by 2 and 3
abbrev pub with_source_by : List Board → ℕ → ℕ → ℕ → List Board
with_source_by boards panel dest byte =
    if byte == 1 || byte == 3 then with_mark boards panel dest Source else boards

abbrev pub with_marks_by : List Board → ℕ → ℕ → ℕ → List Board
with_marks_by boards panel dest byte =
    if nat_lt 1 byte then with_mark (with_source_by boards panel dest byte) panel dest Protect
    else with_source_by boards panel dest byte

-- what a display was last shown
unfoldable pub shown_in : PlantData → List ℕ → ℕ → Option Value
shown_in plant bytes display =
    if was_shown plant bytes display == 0 then None
    else Some (record {
      source = shown_source_in plant bytes display;
      air = byte_at bytes (place_of_display plant display + 5) == 1;
      preview = byte_at bytes (place_of_display plant display + 6) == 1;
    })
