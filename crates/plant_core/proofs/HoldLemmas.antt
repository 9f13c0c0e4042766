-- In a text without a fault each field keeps its rule.
use Rattle.std.proofs.Common.{◌≡◌, ℕ, ◌+◌, ◌-◌, ◌<◌, ◌≤◌, ◌==◌, nat_le, Bool, true, false, if◌then◌else◌, List, [], ◌∷◌, ◌++◌, length, Option, Some, None, refl, ap, sym, ◌∙◌, arith}
use Rattle.std.proofs.lemmas.List.Concat.{flat_map-append}
use Rattle.std.proofs.lemmas.Bool.Decides.{nat_tests}
use Rattle.std.specs.List.{flat_map, range_with_len}
use Rattle.plant_config.specs.Plant.{PlantData, destinations_of, sources_of}
use Rattle.salvo_groups.specs.Limits.{salvo_limit, group_limit}
use Rattle.plant_core.specs.StateFields.{byte_at, four_at, place_of_dest, place_of_group, place_of_entry, place_of_panel, place_of_notices, place_of_display}
use Rattle.plant_core.specs.StateFault.{Field, first_broken, fields_of_each, count_fields, dest_fields, entry_fields, group_fields, notices_fields, panel_fields, display_fields, fields_of, first_fault, source_holds, tie_holds, owner_holds, count_in, entry_dest_holds, entry_source_holds, most_notices, was_shown, shown_source_holds, most_lamp}
use Rattle.plant_core.proofs.FaultLemmas.{none_before, range-split}

-- the first field holds, and no later one breaks a rule
first_held : (holds : Bool) (place : ℕ) (rest : Option ℕ) → (if holds then rest else Some place) ≡ None → holds ≡ true
first_held true place rest none = refl
first_held false place rest none = (cc)

rest_held : (holds : Bool) (place : ℕ) (rest : Option ℕ) → (if holds then rest else Some place) ≡ None → rest ≡ None
rest_held true place rest none = none
rest_held false place rest none = (cc)

front_by : (holds : Bool) (place : ℕ) (one two : List Field) → (first_broken (one ++ two) ≡ None → first_broken one ≡ None) → (if holds then first_broken (one ++ two) else Some place) ≡ None → (if holds then first_broken one else Some place) ≡ None
front_by true place one two more none = more none
front_by false place one two more none = none

-- of two parts in which no field breaks a rule, none does in either
front_none : (one two : List Field) → first_broken (one ++ two) ≡ None → first_broken one ≡ None
front_none [] two none = refl
front_none (first ∷ one) two none = front_by first.holds first.place one two (front_none one two) none

behind_none : (one two : List Field) → first_broken (one ++ two) ≡ None → first_broken two ≡ None
behind_none one two none = sym (none_before one two (front_none one two none)) ∙ none

-- and none in the fields of any number
each_none : (number count : ℕ) (fields : ℕ → List Field) → number < count → first_broken (fields_of_each count fields) ≡ None → first_broken (fields number) ≡ None
unfolding fields_of_each
each_none number count fields below none =
    let rest = range_with_len (number + 1) (count - number - 1) in
    let parted : first_broken (flat_map fields (range_with_len 0 count)) ≡ first_broken (flat_map fields (range_with_len 0 number) ++ flat_map fields (number ∷ rest)) =
    ap (λ numbers. first_broken (flat_map fields numbers)) (range-split number count below)
    ∙ ap first_broken (flat_map-append fields (range_with_len 0 number) (number ∷ rest)) in
    front_none (fields number) (flat_map fields rest)
    (behind_none (flat_map fields (range_with_len 0 number)) (flat_map fields (number ∷ rest)) (sym parted ∙ none))

-- the parts of a text
before_displays : (plant : PlantData) (bytes : List ℕ) → first_fault plant bytes ≡ None → first_broken (count_fields plant bytes ++ fields_of_each (destinations_of plant) (dest_fields plant bytes) ++ fields_of_each salvo_limit (group_fields plant bytes) ++ fields_of_each (length plant.panels) (panel_fields plant bytes)) ≡ None
unfolding fields_of
before_displays plant bytes none =
    front_none
    (count_fields plant bytes ++ fields_of_each (destinations_of plant) (dest_fields plant bytes) ++ fields_of_each salvo_limit (group_fields plant bytes) ++ fields_of_each (length plant.panels) (panel_fields plant bytes))
    (fields_of_each (length plant.displays) (display_fields plant bytes)) none

before_panels : (plant : PlantData) (bytes : List ℕ) → first_fault plant bytes ≡ None → first_broken (count_fields plant bytes ++ fields_of_each (destinations_of plant) (dest_fields plant bytes) ++ fields_of_each salvo_limit (group_fields plant bytes)) ≡ None
before_panels plant bytes none =
    front_none
    (count_fields plant bytes ++ fields_of_each (destinations_of plant) (dest_fields plant bytes) ++ fields_of_each salvo_limit (group_fields plant bytes))
    (fields_of_each (length plant.panels) (panel_fields plant bytes)) (before_displays plant bytes none)

before_groups : (plant : PlantData) (bytes : List ℕ) → first_fault plant bytes ≡ None → first_broken (count_fields plant bytes ++ fields_of_each (destinations_of plant) (dest_fields plant bytes)) ≡ None
before_groups plant bytes none =
    front_none (count_fields plant bytes ++ fields_of_each (destinations_of plant) (dest_fields plant bytes))
    (fields_of_each salvo_limit (group_fields plant bytes)) (before_panels plant bytes none)

counts_none : (plant : PlantData) (bytes : List ℕ) → first_fault plant bytes ≡ None → first_broken (count_fields plant bytes) ≡ None
counts_none plant bytes none =
    front_none (count_fields plant bytes) (fields_of_each (destinations_of plant) (dest_fields plant bytes)) (before_groups plant bytes none)

dest_none : (plant : PlantData) (bytes : List ℕ) (dest : ℕ) → dest < destinations_of plant → first_fault plant bytes ≡ None → first_broken (dest_fields plant bytes dest) ≡ None
dest_none plant bytes dest below none =
    each_none dest (destinations_of plant) (dest_fields plant bytes) below
    (behind_none (count_fields plant bytes) (fields_of_each (destinations_of plant) (dest_fields plant bytes)) (before_groups plant bytes none))

group_none : (plant : PlantData) (bytes : List ℕ) (group : ℕ) → group < salvo_limit → first_fault plant bytes ≡ None → first_broken (group_fields plant bytes group) ≡ None
group_none plant bytes group below none =
    each_none group salvo_limit (group_fields plant bytes) below
    (behind_none (count_fields plant bytes ++ fields_of_each (destinations_of plant) (dest_fields plant bytes)) (fields_of_each salvo_limit (group_fields plant bytes))
    (before_panels plant bytes none))

panel_none : (plant : PlantData) (bytes : List ℕ) (panel : ℕ) → panel < length plant.panels → first_fault plant bytes ≡ None → first_broken (panel_fields plant bytes panel) ≡ None
panel_none plant bytes panel below none =
    each_none panel (length plant.panels) (panel_fields plant bytes) below
    (behind_none
    (count_fields plant bytes ++ fields_of_each (destinations_of plant) (dest_fields plant bytes) ++ fields_of_each salvo_limit (group_fields plant bytes))
    (fields_of_each (length plant.panels) (panel_fields plant bytes)) (before_displays plant bytes none))

display_none : (plant : PlantData) (bytes : List ℕ) (display : ℕ) → display < length plant.displays → first_fault plant bytes ≡ None → first_broken (display_fields plant bytes display) ≡ None
unfolding fields_of
display_none plant bytes display below none =
    each_none display (length plant.displays) (display_fields plant bytes) below
    (behind_none
    (count_fields plant bytes ++ fields_of_each (destinations_of plant) (dest_fields plant bytes) ++ fields_of_each salvo_limit (group_fields plant bytes) ++ fields_of_each (length plant.panels) (panel_fields plant bytes))
    (fields_of_each (length plant.displays) (display_fields plant bytes)) none)

is_same : (one two : ℕ) → (one == two) ≡ true → one ≡ two
is_same one two is = grind (arith, nat_tests)

is_most : (one two : ℕ) → nat_le one two ≡ true → one ≤ two
is_most one two is = grind (arith, nat_tests)

-- The counts are the plant's.
pub sources_held : (plant : PlantData) (bytes : List ℕ) → first_fault plant bytes ≡ None → four_at bytes 0 ≡ sources_of plant
unfolding count_fields
sources_held plant bytes none = is_same (four_at bytes 0) (sources_of plant) (first_held (four_at bytes 0 == sources_of plant) 0 _ (counts_none plant bytes none))

pub dests_held : (plant : PlantData) (bytes : List ℕ) → first_fault plant bytes ≡ None → four_at bytes 4 ≡ destinations_of plant
unfolding count_fields
dests_held plant bytes none =
    is_same (four_at bytes 4) (destinations_of plant)
    (first_held (four_at bytes 4 == destinations_of plant) 4 _ (rest_held (four_at bytes 0 == sources_of plant) 0 _ (counts_none plant bytes none)))

pub panels_held : (plant : PlantData) (bytes : List ℕ) → first_fault plant bytes ≡ None → four_at bytes 8 ≡ length plant.panels
unfolding count_fields
panels_held plant bytes none =
    is_same (four_at bytes 8) (length plant.panels)
    (first_held (four_at bytes 8 == length plant.panels) 8 _
    (rest_held (four_at bytes 4 == destinations_of plant) 4 _ (rest_held (four_at bytes 0 == sources_of plant) 0 _ (counts_none plant bytes none))))

pub displays_held : (plant : PlantData) (bytes : List ℕ) → first_fault plant bytes ≡ None → four_at bytes 12 ≡ length plant.displays
unfolding count_fields
displays_held plant bytes none =
    is_same (four_at bytes 12) (length plant.displays)
    (first_held (four_at bytes 12 == length plant.displays) 12 _
    (rest_held (four_at bytes 8 == length plant.panels) 8 _
    (rest_held (four_at bytes 4 == destinations_of plant) 4 _ (rest_held (four_at bytes 0 == sources_of plant) 0 _ (counts_none plant bytes none)))))

-- A destination's source, tie and owner keep their rules.
pub source_held : (plant : PlantData) (bytes : List ℕ) (dest : ℕ) → dest < destinations_of plant → first_fault plant bytes ≡ None → source_holds plant bytes dest ≡ true
unfolding dest_fields
source_held plant bytes dest below none = first_held (source_holds plant bytes dest) (place_of_dest dest) _ (dest_none plant bytes dest below none)

pub tie_held : (plant : PlantData) (bytes : List ℕ) (dest : ℕ) → dest < destinations_of plant → first_fault plant bytes ≡ None → tie_holds plant bytes dest ≡ true
unfolding dest_fields
tie_held plant bytes dest below none =
    first_held (tie_holds plant bytes dest) (place_of_dest dest + 4) _ (rest_held (source_holds plant bytes dest) (place_of_dest dest) _ (dest_none plant bytes dest below none))

pub owner_held : (plant : PlantData) (bytes : List ℕ) (dest : ℕ) → dest < destinations_of plant → first_fault plant bytes ≡ None → owner_holds plant bytes dest ≡ true
unfolding dest_fields
owner_held plant bytes dest below none =
    first_held (owner_holds plant bytes dest) (place_of_dest dest + 8) _
    (rest_held (tie_holds plant bytes dest) (place_of_dest dest + 4) _ (rest_held (source_holds plant bytes dest) (place_of_dest dest) _ (dest_none plant bytes dest below none)))

-- A group's count is at most 256, and each of its places keeps its rules.
pub count_held : (plant : PlantData) (bytes : List ℕ) (group : ℕ) → group < salvo_limit → first_fault plant bytes ≡ None → count_in plant bytes group ≤ group_limit
unfolding group_fields
count_held plant bytes group below none =
    is_most (count_in plant bytes group) group_limit
    (first_held (nat_le (count_in plant bytes group) group_limit) (place_of_group plant group) _ (group_none plant bytes group below none))

entry_none : (plant : PlantData) (bytes : List ℕ) (group index : ℕ) → group < salvo_limit → index < group_limit → first_fault plant bytes ≡ None → first_broken (entry_fields plant bytes group index) ≡ None
unfolding group_fields
entry_none plant bytes group index below inside none =
    each_none index group_limit (entry_fields plant bytes group) inside
    (rest_held (nat_le (count_in plant bytes group) group_limit) (place_of_group plant group) (first_broken (fields_of_each group_limit (entry_fields plant bytes group))) (group_none plant bytes group below none))

pub entry_dest_held : (plant : PlantData) (bytes : List ℕ) (group index : ℕ) → group < salvo_limit → index < group_limit → first_fault plant bytes ≡ None → entry_dest_holds plant bytes group index ≡ true
unfolding entry_fields
entry_dest_held plant bytes group index below inside none =
    first_held (entry_dest_holds plant bytes group index) (place_of_entry plant group index) _ (entry_none plant bytes group index below inside none)

pub entry_source_held : (plant : PlantData) (bytes : List ℕ) (group index : ℕ) → group < salvo_limit → index < group_limit → first_fault plant bytes ≡ None → entry_source_holds plant bytes group index ≡ true
unfolding entry_fields
entry_source_held plant bytes group index below inside none =
    first_held (entry_source_holds plant bytes group index) (place_of_entry plant group index + 4) _
    (rest_held (entry_dest_holds plant bytes group index) (place_of_entry plant group index) _ (entry_none plant bytes group index below inside none))

-- A panel's first byte is 0 or 1, and that of its notices of a destination at most what it may be.
pub left_held : (plant : PlantData) (bytes : List ℕ) (panel : ℕ) → panel < length plant.panels → first_fault plant bytes ≡ None → byte_at bytes (place_of_panel plant panel) ≤ 1
unfolding panel_fields
left_held plant bytes panel below none =
    is_most (byte_at bytes (place_of_panel plant panel)) 1
    (first_held (nat_le (byte_at bytes (place_of_panel plant panel)) 1) (place_of_panel plant panel) _ (panel_none plant bytes panel below none))

notices_none : (plant : PlantData) (bytes : List ℕ) (panel dest : ℕ) → panel < length plant.panels → dest < destinations_of plant → first_fault plant bytes ≡ None → first_broken (notices_fields plant bytes panel dest) ≡ None
unfolding panel_fields
notices_none plant bytes panel dest below inside none =
    each_none dest (destinations_of plant) (notices_fields plant bytes panel) inside
    (rest_held (nat_le (byte_at bytes (place_of_panel plant panel)) 1) (place_of_panel plant panel) (first_broken (fields_of_each (destinations_of plant) (notices_fields plant bytes panel)))
    (panel_none plant bytes panel below none))

pub notices_held : (plant : PlantData) (bytes : List ℕ) (panel dest : ℕ) → panel < length plant.panels → dest < destinations_of plant → first_fault plant bytes ≡ None → byte_at bytes (place_of_notices plant panel dest) ≤ most_notices plant bytes panel dest
unfolding notices_fields
notices_held plant bytes panel dest below inside none =
    is_most (byte_at bytes (place_of_notices plant panel dest)) (most_notices plant bytes panel dest)
    (first_held (nat_le (byte_at bytes (place_of_notices plant panel dest)) (most_notices plant bytes panel dest)) (place_of_notices plant panel dest) _
    (notices_none plant bytes panel dest below inside none))

-- What a display was shown keeps its rules.
pub was_shown_held : (plant : PlantData) (bytes : List ℕ) (display : ℕ) → display < length plant.displays → first_fault plant bytes ≡ None → was_shown plant bytes display ≤ 1
unfolding display_fields
was_shown_held plant bytes display below none =
    is_most (was_shown plant bytes display) 1
    (first_held (nat_le (was_shown plant bytes display) 1) (place_of_display plant display) _ (display_none plant bytes display below none))

pub shown_source_held : (plant : PlantData) (bytes : List ℕ) (display : ℕ) → display < length plant.displays → first_fault plant bytes ≡ None → shown_source_holds plant bytes display ≡ true
unfolding display_fields
shown_source_held plant bytes display below none =
    first_held (shown_source_holds plant bytes display) (place_of_display plant display + 1) _
    (rest_held (nat_le (was_shown plant bytes display) 1) (place_of_display plant display) _ (display_none plant bytes display below none))

pub air_held : (plant : PlantData) (bytes : List ℕ) (display : ℕ) → display < length plant.displays → first_fault plant bytes ≡ None → byte_at bytes (place_of_display plant display + 5) ≤ most_lamp plant bytes display
unfolding display_fields
air_held plant bytes display below none =
    is_most (byte_at bytes (place_of_display plant display + 5)) (most_lamp plant bytes display)
    (first_held (nat_le (byte_at bytes (place_of_display plant display + 5)) (most_lamp plant bytes display)) (place_of_display plant display + 5) _
    (rest_held (shown_source_holds plant bytes display) (place_of_display plant display + 1) _
    (rest_held (nat_le (was_shown plant bytes display) 1) (place_of_display plant display) _ (display_none plant bytes display below none))))

pub preview_held : (plant : PlantData) (bytes : List ℕ) (display : ℕ) → display < length plant.displays → first_fault plant bytes ≡ None → byte_at bytes (place_of_display plant display + 6) ≤ most_lamp plant bytes display
unfolding display_fields
preview_held plant bytes display below none =
    is_most (byte_at bytes (place_of_display plant display + 6)) (most_lamp plant bytes display)
    (first_held (nat_le (byte_at bytes (place_of_display plant display + 6)) (most_lamp plant bytes display)) (place_of_display plant display + 6) _
    (rest_held (nat_le (byte_at bytes (place_of_display plant display + 5)) (most_lamp plant bytes display)) (place_of_display plant display + 5) _
    (rest_held (shown_source_holds plant bytes display) (place_of_display plant display + 1) _
    (rest_held (nat_le (was_shown plant bytes display) 1) (place_of_display plant display) _ (display_none plant bytes display below none)))))

-- The ties of the destinations below one keep their rules, where none of the fields of these breaks a rule.
pub ties_held_below : (plant : PlantData) (bytes : List ℕ) (dest count : ℕ) → dest < count → first_broken (fields_of_each count (dest_fields plant bytes)) ≡ None → tie_holds plant bytes dest ≡ true
unfolding dest_fields
ties_held_below plant bytes dest count below none =
    first_held (tie_holds plant bytes dest) (place_of_dest dest + 4) _ (rest_held (source_holds plant bytes dest) (place_of_dest dest) _ (each_none dest count (dest_fields plant bytes) below none))
