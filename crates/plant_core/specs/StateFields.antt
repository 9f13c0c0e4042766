-- Where the fields of a state's text stand, and what the bytes there say.
use Rattle.std.specs.Prelude.{ℕ, ◌+◌, ◌-◌, ◌*◌, ◌^◌, ◌==◌, if◌then◌else◌, List, length, take, drop, slice_index_or, Option, Some, None}
use Rattle.std.specs.Int.{w16, w32, from_le_bytes}
use Rattle.plant_config.specs.Plant.{PlantData, destinations_of}
use Rattle.salvo_groups.specs.Limits.{salvo_limit, group_limit}

-- the byte at a place, and the numbers of two and of four bytes that begin there, the low byte first
unfoldable pub byte_at : List ℕ → ℕ → ℕ
byte_at bytes place = slice_index_or bytes place 0

unfoldable pub two_at : List ℕ → ℕ → ℕ
two_at bytes place = from_le_bytes w16 (take 2 (drop place bytes))

unfoldable pub four_at : List ℕ → ℕ → ℕ
four_at bytes place = from_le_bytes w32 (take 4 (drop place bytes))

-- such a number, none where all of its bits are set
unfoldable pub some_two_at : List ℕ → ℕ → Option ℕ
some_two_at bytes place =
    if two_at bytes place == 2 ^ 16 - 1 then None else Some (two_at bytes place)

unfoldable pub some_four_at : List ℕ → ℕ → Option ℕ
some_four_at bytes place =
    if four_at bytes place == 2 ^ 32 - 1 then None else Some (four_at bytes place)

-- where a destination begins, a group, a place of a group, a panel, the panel's notices of a destination, and a display
abbrev pub place_of_dest : ℕ → ℕ
place_of_dest dest = 16 + 10 * dest

abbrev pub place_of_group : PlantData → ℕ → ℕ
place_of_group plant group = place_of_dest (destinations_of plant) + group * (2 + 8 * group_limit)

abbrev pub place_of_entry : PlantData → ℕ → ℕ → ℕ
place_of_entry plant group index = place_of_group plant group + 2 + 8 * index

abbrev pub place_of_panel : PlantData → ℕ → ℕ
place_of_panel plant panel = place_of_group plant salvo_limit + panel * (1 + destinations_of plant)

abbrev pub place_of_notices : PlantData → ℕ → ℕ → ℕ
place_of_notices plant panel dest = place_of_panel plant panel + 1 + dest

abbrev pub place_of_display : PlantData → ℕ → ℕ
place_of_display plant display = place_of_panel plant (length plant.panels) + 7 * display
