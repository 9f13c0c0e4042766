-- Which bytes are a text of a state of a plant, said field by field, and the first field that shows that they are none.
use Rattle.std.specs.Prelude.{ℕ, ◌+◌, ◌==◌, nat_eq, nat_lt, nat_le, Bool, true, false, not, ◌&&◌, ◌||◌, if◌then◌else◌, List, [], ◌∷◌, ◌++◌, length, slice_get, Option, Some, None, is_none}
use Rattle.std.specs.Bool.{beq}
use Rattle.std.specs.List.{flat_map, range_with_len, list_any, list_all}
use Rattle.std.specs.Option.{option_map_or, option_and_then, option_eq}
use Rattle.plant_config.specs.Limits.{last_device}
use Rattle.plant_config.specs.Plant.{PlantData, destinations_of, sources_of}
use Rattle.plant_config.specs.Sites.{point_of, source_at, source_number_of}
use Rattle.plant_config.specs.Sources.{origin_of, pool_of}
use Rattle.plant_config.specs.declared.records.Display.{Display}
use Rattle.crosspoint_state.specs.Ties.{size_of}
use Rattle.salvo_groups.specs.Limits.{salvo_limit, group_limit}
use Rattle.plant_core.specs.Wide.{is_short_dest, is_short_source}
use Rattle.plant_core.specs.StateFields.{byte_at, two_at, four_at, some_two_at, some_four_at, place_of_dest, place_of_group, place_of_entry, place_of_panel, place_of_notices, place_of_display}

-- a field of a text: its place, and whether it keeps the rules
pub record Field : Type 0 where
  pub place : ℕ
  pub holds : Bool

abbrev pub field : ℕ → Bool → Field
field place holds = record { place = place; holds = holds }

-- the place of the first field of a list that breaks a rule
abbrev pub first_broken : List Field → Option ℕ
first_broken [] = None
first_broken (first ∷ fields) = if first.holds then first_broken fields else Some first.place

-- the fields of the first so many, by their numbers, one behind the other
unfoldable pub fields_of_each : ℕ → (ℕ → List Field) → List Field
fields_of_each count fields = flat_map fields (range_with_len 0 count)

-- the four counts, which are the plant's
unfoldable pub count_fields : PlantData → List ℕ → List Field
count_fields plant bytes =
    field 0 (four_at bytes 0 == sources_of plant)
    ∷ field 4 (four_at bytes 4 == destinations_of plant)
    ∷ field 8 (four_at bytes 8 == length plant.panels)
    ∷ field 12 (four_at bytes 12 == length plant.displays) ∷ []

-- A source is of a destination's level where that level has it.
unfoldable pub is_of_level : PlantData → ℕ → ℕ → Bool
is_of_level plant dest source =
    option_map_or (λ at. option_eq nat_eq
    (option_and_then (source_at plant at.matrix at.level) (source_number_of plant source))
    (Some source)) (point_of plant dest) false

-- A destination of the plant has a number up to 1023 in its level, and a source one up to 1022.
unfoldable pub has_short_number : PlantData → ℕ → Bool
has_short_number plant dest =
    option_map_or (λ at. is_short_dest at.dest) (point_of plant dest) false

unfoldable pub has_short_source_number : PlantData → ℕ → Bool
has_short_source_number plant source =
    option_map_or (λ number. is_short_source (Some number)) (source_number_of plant source) false

-- what a destination carries by the text, by which tie, by which pool it comes, and from which origin
unfoldable pub source_in : List ℕ → ℕ → Option ℕ
source_in bytes dest = some_four_at bytes (place_of_dest dest)

unfoldable pub tie_in : List ℕ → ℕ → Option ℕ
tie_in bytes dest = some_four_at bytes (place_of_dest dest + 4)

unfoldable pub pool_in : PlantData → List ℕ → ℕ → Option ℕ
pool_in plant bytes dest = option_and_then (pool_of plant) (source_in bytes dest)

unfoldable pub origin_in : PlantData → List ℕ → ℕ → Option ℕ
origin_in plant bytes dest = option_and_then (origin_of plant) (source_in bytes dest)

-- A source is none, or of the destination's level.
unfoldable pub source_holds : PlantData → List ℕ → ℕ → Bool
source_holds plant bytes dest =
    option_map_or (is_of_level plant dest) (source_in bytes dest) true

-- If an earlier destination carries a source by the same pool, the two have one tie exactly where they have one origin.
unfoldable pub shares_by_origin : PlantData → List ℕ → ℕ → ℕ → Bool
shares_by_origin plant bytes dest earlier =
    not (option_eq nat_eq (pool_in plant bytes earlier) (pool_in plant bytes dest))
    || beq (option_eq nat_eq (tie_in bytes earlier) (tie_in bytes dest))
    (option_eq nat_eq (origin_in plant bytes earlier) (origin_in plant bytes dest))

-- All destinations before a destination share ties with it by origin.
unfoldable pub all_share_by_origin : PlantData → List ℕ → ℕ → Bool
all_share_by_origin plant bytes dest =
    list_all (shares_by_origin plant bytes dest) (range_with_len 0 dest)

-- There is a tie exactly where the source is remote. It is one that the pool has, and shared as ties are.
abbrev pub tie_by : PlantData → List ℕ → ℕ → Option ℕ → Option ℕ → Bool
tie_by plant bytes dest None tie = is_none tie
tie_by plant bytes dest (Some pool) None = false
tie_by plant bytes dest (Some pool) (Some tie) =
    nat_lt tie (size_of plant pool) && all_share_by_origin plant bytes dest

unfoldable pub tie_holds : PlantData → List ℕ → ℕ → Bool
tie_holds plant bytes dest = tie_by plant bytes dest (pool_in plant bytes dest) (tie_in bytes dest)

-- An owner is none, or a device, and then the destination has a number up to 1023.
unfoldable pub owner_holds : PlantData → List ℕ → ℕ → Bool
owner_holds plant bytes dest =
    option_map_or (λ device. nat_le device last_device && has_short_number plant dest)
    (some_two_at bytes (place_of_dest dest + 8)) true

unfoldable pub dest_fields : PlantData → List ℕ → ℕ → List Field
dest_fields plant bytes dest =
    field (place_of_dest dest) (source_holds plant bytes dest)
    ∷ field (place_of_dest dest + 4) (tie_holds plant bytes dest)
    ∷ field (place_of_dest dest + 8) (owner_holds plant bytes dest) ∷ []

-- how many changes a group has by the text, and the destination and the source of one of its places
unfoldable pub count_in : PlantData → List ℕ → ℕ → ℕ
count_in plant bytes group = two_at bytes (place_of_group plant group)

unfoldable pub entry_dest_in : PlantData → List ℕ → ℕ → ℕ → ℕ
entry_dest_in plant bytes group index = four_at bytes (place_of_entry plant group index)

unfoldable pub entry_source_in : PlantData → List ℕ → ℕ → ℕ → Option ℕ
entry_source_in plant bytes group index =
    some_four_at bytes (place_of_entry plant group index + 4)

-- An earlier change of a group is of this destination.
unfoldable pub is_before : PlantData → List ℕ → ℕ → ℕ → ℕ → Bool
is_before plant bytes group index dest =
    list_any (λ earlier. entry_dest_in plant bytes group earlier == dest) (range_with_len 0 index)

-- A change of a group is of a destination that has a number up to 1023 and no earlier change in the group. An unused place
-- has 0 there.
unfoldable pub entry_dest_holds : PlantData → List ℕ → ℕ → ℕ → Bool
entry_dest_holds plant bytes group index =
    if nat_lt index (count_in plant bytes group)
    then has_short_number plant (entry_dest_in plant bytes group index)
    && not (is_before plant bytes group index (entry_dest_in plant bytes group index))
    else entry_dest_in plant bytes group index == 0

-- Its source is none, or of the destination's level with a number up to 1022. An unused place has 0 there.
unfoldable pub entry_source_holds : PlantData → List ℕ → ℕ → ℕ → Bool
entry_source_holds plant bytes group index =
    if nat_lt index (count_in plant bytes group)
    then option_map_or
    (λ source. is_of_level plant (entry_dest_in plant bytes group index) source
    && has_short_source_number plant source) (entry_source_in plant bytes group index) true
    else four_at bytes (place_of_entry plant group index + 4) == 0

unfoldable pub entry_fields : PlantData → List ℕ → ℕ → ℕ → List Field
entry_fields plant bytes group index =
    field (place_of_entry plant group index) (entry_dest_holds plant bytes group index)
    ∷ field (place_of_entry plant group index + 4) (entry_source_holds plant bytes group index) ∷ []

-- A group has at most 256 changes.
unfoldable pub group_fields : PlantData → List ℕ → ℕ → List Field
group_fields plant bytes group =
    field (place_of_group plant group) (nat_le (count_in plant bytes group) group_limit)
    ∷ fields_of_each group_limit (entry_fields plant bytes group)

-- the most that the byte of a panel's notices of a destination may be: none where the panel has left, and that of the
-- source alone where the destination has a number above 1023
unfoldable pub most_notices : PlantData → List ℕ → ℕ → ℕ → ℕ
most_notices plant bytes panel dest =
    if byte_at bytes (place_of_panel plant panel) == 1 then 0
    else if has_short_number plant dest then 3 else 1

unfoldable pub notices_fields : PlantData → List ℕ → ℕ → ℕ → List Field
notices_fields plant bytes panel dest =
    field (place_of_notices plant panel dest)
    (nat_le (byte_at bytes (place_of_notices plant panel dest))
    (most_notices plant bytes panel dest))
    ∷ []

-- A panel has left or not, and has no more notices than it may have.
unfoldable pub panel_fields : PlantData → List ℕ → ℕ → List Field
panel_fields plant bytes panel =
    field (place_of_panel plant panel) (nat_le (byte_at bytes (place_of_panel plant panel)) 1)
    ∷ fields_of_each (destinations_of plant) (notices_fields plant bytes panel)

-- what a display was last shown by the text: whether anything, and which source
unfoldable pub was_shown : PlantData → List ℕ → ℕ → ℕ
was_shown plant bytes display = byte_at bytes (place_of_display plant display)

unfoldable pub shown_source_in : PlantData → List ℕ → ℕ → Option ℕ
shown_source_in plant bytes display = some_four_at bytes (place_of_display plant display + 1)

-- the destination that a display watches
unfoldable pub watch_at : PlantData → ℕ → ℕ
watch_at plant display =
    option_map_or (λ (found : Display). found.watch) (slice_get plant.displays display) 0

-- A display was shown nothing, and then all of its fields are 0, or a source of its destination's level, or none.
unfoldable pub shown_source_holds : PlantData → List ℕ → ℕ → Bool
shown_source_holds plant bytes display =
    if was_shown plant bytes display == 0
    then four_at bytes (place_of_display plant display + 1) == 0
    else option_map_or (is_of_level plant (watch_at plant display))
    (shown_source_in plant bytes display) true

-- the most that its bytes of air and preview may be: 0 where it was shown nothing, or no source
unfoldable pub most_lamp : PlantData → List ℕ → ℕ → ℕ
most_lamp plant bytes display =
    if was_shown plant bytes display == 0 || is_none (shown_source_in plant bytes display) then 0
    else 1

abbrev pub lamp_field : PlantData → List ℕ → ℕ → ℕ → Field
lamp_field plant bytes display place =
    field place (nat_le (byte_at bytes place) (most_lamp plant bytes display))

unfoldable pub display_fields : PlantData → List ℕ → ℕ → List Field
display_fields plant bytes display =
    field (place_of_display plant display) (nat_le (was_shown plant bytes display) 1)
    ∷ field (place_of_display plant display + 1) (shown_source_holds plant bytes display)
    ∷ lamp_field plant bytes display (place_of_display plant display + 5)
    ∷ lamp_field plant bytes display (place_of_display plant display + 6) ∷ []

-- all fields, in the order in which they stand
unfoldable pub fields_of : PlantData → List ℕ → List Field
fields_of plant bytes =
    count_fields plant bytes
    ++ fields_of_each (destinations_of plant) (dest_fields plant bytes)
    ++ fields_of_each salvo_limit (group_fields plant bytes)
    ++ fields_of_each (length plant.panels) (panel_fields plant bytes)
    ++ fields_of_each (length plant.displays) (display_fields plant bytes)

-- the place of the first field that breaks a rule
abbrev pub first_fault : PlantData → List ℕ → Option ℕ
first_fault plant bytes = first_broken (fields_of plant bytes)
