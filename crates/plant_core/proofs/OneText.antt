-- Two valid states of one plant that have one text are one state.
use Rattle.std.proofs.Common.{◌≡◌, ℕ, ◌+◌, ◌<◌, ◌≤◌, List, [], length, get_or, All, Option, Some, None, IfSome, MatchOption, inl, inr, refl, sym, ap, subst, ◌∙◌, arith}
use Rattle.std.proofs.lemmas.Bool.{cases_lt}
use Rattle.std.proofs.lemmas.List.{ext_get_or}
use Rattle.std.proofs.lemmas.Option.{slice_get_cases}
use Rattle.std.specs.Cmp.{nat_cmp_total}
use Rattle.std.specs.Option.{IsSomeAnd}
use Rattle.std.specs.FinMap.{get, same_map, nat_cmp-IsAntisymmetric}
use Rattle.plant_config.specs.Plant.{PlantData, destinations_of, sources_of}
use Rattle.plant_config.specs.IsPlant.{IsPlant}
use Rattle.plant_config.specs.Sources.{pool_of}
use Rattle.plant_config.proofs.SiteLemmas.{dest_at-below, source_at-below}
use Rattle.crosspoint_state.specs.declared.spot.Spot.{Spot}
use Rattle.crosspoint_state.specs.Crosspoints.{Crosspoints}
use Rattle.crosspoint_state.specs.Ties.{size_of}
use Rattle.tie_pools.proofs.CommitLemmas.{size_few}
use Rattle.protects.specs.Owners.{Owners}
use Rattle.salvo_groups.specs.Limits.{salvo_limit}
use Rattle.salvo_groups.specs.Groups.{Group, group_of}
use Rattle.change_boards.specs.Board.{Board, blank}
use Rattle.change_boards.specs.Notices.{board_of}
use Rattle.change_boards.specs.Laws.{IsBelow}
use Rattle.change_boards.specs.Shown.{Shown, last}
use Rattle.change_boards.specs.declared.value.Value.{Value}
use Rattle.plant_core.specs.State.{State, IsCrosspoint, IsChangeOf, AreShown, IsValid}
use Rattle.plant_core.specs.StateText.{two_or_none, texts_of, counts_text, spot_text, dest_text, group_text, panel_text, display_text, state_text}
use Rattle.plant_core.proofs.BroughtLemmas.{outside}
use Rattle.plant_core.proofs.TextLengths.{texts_same, texts_long, same_parts, spot_long, dest_long, group_long, panel_long, display_long, five_same}
use Rattle.plant_core.proofs.TextFields.{spot_same, device_same, group_same, board_same, display_same, IsSmall, source_told, tie_told, IsSmallChange}

-- what a valid state has is small
source_small : (plant : PlantData) (dest : ℕ) (source : Option ℕ) → IsPlant plant → IfSome source (IsCrosspoint plant dest) → IsSmall source
source_small plant dest None is of = tt
source_small plant dest (Some source) is of =
    let below : source < sources_of plant = source_at-below plant of.matrix of.level of.source_number source is of.source_is in
    let few = is.sources in
    omega arith

tie_small : (plant : PlantData) (pool tie : Option ℕ) → IsPlant plant → MatchOption pool (tie ≡ None) (λ pool. IsSomeAnd tie (λ tie. tie < size_of plant pool)) → IsSmall tie
tie_small plant None tie is has = subst IsSmall (sym has) tt
tie_small plant (Some pool) None is has = tt
tie_small plant (Some pool) (Some tie) is has = let few : size_of plant pool ≤ 1024 = size_few plant pool is in omega arith

spot_small : (state : State) (dest : ℕ) (spot : Option Spot) → IsValid state → get state.crosspoints dest ≡ spot → IsSmall (source_told spot) × IsSmall (tie_told spot)
spot_small state dest None is carried = (tt, tt)
spot_small state dest (Some spot) is carried =
    let crosspoint = is.is_crosspoint dest spot carried in
    let inside : dest < destinations_of state.plant = dest_at-below state.plant crosspoint.matrix crosspoint.level crosspoint.dest_number dest is.is_plant crosspoint.dest_is in
    (source_small state.plant dest (Some spot.source) is.is_plant crosspoint, tie_small state.plant (pool_of state.plant spot.source) spot.tie is.is_plant (is.ties.tied dest spot (record { inside = inside; carried = carried })))

owner_small : (state : State) (dest : ℕ) (device : Option ℕ) → IsValid state → get state.owners dest ≡ device → IfSome device (λ device. device < 65535)
owner_small state dest None is owned = tt
owner_small state dest (Some device) is owned = let few = (is.owners dest device owned).1 in omega arith

no_owner : (state : State) (dest : ℕ) (device : Option ℕ) → IsValid state → get state.owners dest ≡ device → destinations_of state.plant ≤ dest → device ≡ None
no_owner state dest None is owned above = refl
no_owner state dest (Some device) is owned above = let low = (is.owners dest device owned).0 in absurd (omega arith)

change_small : (plant : PlantData) (group : Group) → IsPlant plant → All (IsChangeOf plant) group → All IsSmallChange group
change_small plant group is all index default below =
    let change = get_or group index default in
    let of = all index default below in
    let few = is.destinations in
    let low : change.dest < destinations_of plant = of.dest in
    record { dest = omega arith; source = source_small plant change.dest change.source is of.source }

value_small : (plant : PlantData) (shown : Shown) (display : ℕ) (value : Option Value) → IsPlant plant → AreShown plant shown → display < length plant.displays → last shown display ≡ value → IfSome value (λ value. IsSmall value.source)
value_small plant shown display None is are below was = tt
value_small plant shown display (Some value) is are below was = elim ((slice_get_cases plant.displays display).1) [
  | inl found ↦ source_small plant found.0.watch value.source is (are.each display found.0 value found.2 was).source
  | inr past ↦ let high = past.0 in absurd (omega arith)
]

-- the parts of two states of one plant
abbrev state_with : PlantData → Crosspoints → Owners → List Group → List Board → Shown → State
state_with plant points owners groups boards shown = record { plant = plant; crosspoints = points; owners = owners; groups = groups; boards = boards; shown = shown }

record AreParts (one other : State) : Type 0 where
  dests : (dest : ℕ) → dest < destinations_of one.plant → dest_text one.crosspoints one.owners dest ≡ dest_text other.crosspoints other.owners dest
  groups : (group : ℕ) → group < salvo_limit → group_text (group_of one.groups group) ≡ group_text (group_of other.groups group)
  panels : (panel : ℕ) → panel < length one.plant.panels → panel_text (destinations_of one.plant) (board_of one.boards panel) ≡ panel_text (destinations_of one.plant) (board_of other.boards panel)
  displays : (display : ℕ) → display < length one.plant.displays → display_text (last one.shown display) ≡ display_text (last other.shown display)

parts_same : (plant : PlantData) (points points_too : Crosspoints) (owners owners_too : Owners) (groups groups_too : List Group) (boards boards_too : List Board) (shown shown_too : Shown) →
    state_text (state_with plant points owners groups boards shown) ≡ state_text (state_with plant points_too owners_too groups_too boards_too shown_too) → AreParts (state_with plant points owners groups boards shown) (state_with plant points_too owners_too groups_too boards_too shown_too)
unfolding state_text
parts_same plant points points_too owners owners_too groups groups_too boards boards_too shown shown_too same =
    let dests = destinations_of plant in
    let group_at : List Group → ℕ → List ℕ = λ list group. group_text (group_of list group) in
    let panel_at : List Board → ℕ → List ℕ = λ list panel. panel_text dests (board_of list panel) in
    let display_at : Shown → ℕ → List ℕ = λ list display. display_text (last list display) in
    let groups_long : (list : List Group) → (group : ℕ) → length (group_at list group) ≡ 2050 = λ list group. group_long (group_of list group) in
    let panels_long : (list : List Board) → (panel : ℕ) → length (panel_at list panel) ≡ 1 + dests = λ list panel. panel_long dests (board_of list panel) in
    let displays_long : (list : Shown) → (display : ℕ) → length (display_at list display) ≡ 7 = λ list display. display_long (last list display) in
    let five = five_same (counts_text plant) (texts_of dests (dest_text points owners)) (texts_of salvo_limit (group_at groups)) (texts_of (length plant.panels) (panel_at boards)) (texts_of (length plant.displays) (display_at shown))
    (counts_text plant) (texts_of dests (dest_text points_too owners_too)) (texts_of salvo_limit (group_at groups_too)) (texts_of (length plant.panels) (panel_at boards_too)) (texts_of (length plant.displays) (display_at shown_too))
    refl
    (texts_long dests 10 (dest_text points owners) (dest_long points owners) ∙ sym (texts_long dests 10 (dest_text points_too owners_too) (dest_long points_too owners_too)))
    (texts_long salvo_limit 2050 (group_at groups) (groups_long groups) ∙ sym (texts_long salvo_limit 2050 (group_at groups_too) (groups_long groups_too)))
    (texts_long (length plant.panels) (1 + dests) (panel_at boards) (panels_long boards) ∙ sym (texts_long (length plant.panels) (1 + dests) (panel_at boards_too) (panels_long boards_too)))
    same in
    record {
      dests = texts_same dests 10 (dest_text points owners) (dest_text points_too owners_too) (dest_long points owners) (dest_long points_too owners_too) five.second;
      groups = texts_same salvo_limit 2050 (group_at groups) (group_at groups_too) (groups_long groups) (groups_long groups_too) five.third;
      panels = texts_same (length plant.panels) (1 + dests) (panel_at boards) (panel_at boards_too) (panels_long boards) (panels_long boards_too) five.fourth;
      displays = texts_same (length plant.displays) 7 (display_at shown) (display_at shown_too) (displays_long shown) (displays_long shown_too) five.fifth;
    }

dest_parts : (points points_too : Crosspoints) (owners owners_too : Owners) (dest : ℕ) → dest_text points owners dest ≡ dest_text points_too owners_too dest →
    (spot_text (get points dest) ≡ spot_text (get points_too dest)) × (two_or_none (get owners dest) ≡ two_or_none (get owners_too dest))
dest_parts points points_too owners owners_too dest same =
    same_parts (spot_text (get points dest)) (two_or_none (get owners dest)) (spot_text (get points_too dest)) (two_or_none (get owners_too dest)) (spot_long (get points dest) ∙ sym (spot_long (get points_too dest))) same

points_are : (one other : State) → IsValid one → IsValid other → one.plant ≡ other.plant → AreParts one other → one.crosspoints ≡ other.crosspoints
points_are one other is is_too plants parts = same_map nat_cmp_total nat_cmp-IsAntisymmetric one.crosspoints other.crosspoints
    (λ dest. elim (cases_lt dest (destinations_of one.plant)) [
      | inl below ↦
          let small = spot_small one dest (get one.crosspoints dest) is refl in
          let small_too = spot_small other dest (get other.crosspoints dest) is_too refl in
          spot_same (get one.crosspoints dest) (get other.crosspoints dest) small.0 small.1 small_too.0 small_too.1 (dest_parts one.crosspoints other.crosspoints one.owners other.owners dest (parts.dests dest below)).0
      | inr above ↦
          let count : destinations_of one.plant ≡ destinations_of other.plant = ap destinations_of plants in
          outside one.plant one.crosspoints dest (get one.crosspoints dest) is.is_plant is.is_crosspoint refl (λ low. omega arith)
          ∙ sym (outside other.plant other.crosspoints dest (get other.crosspoints dest) is_too.is_plant is_too.is_crosspoint refl (λ low. omega arith))
    ])

owners_are : (one other : State) → IsValid one → IsValid other → one.plant ≡ other.plant → AreParts one other → one.owners ≡ other.owners
owners_are one other is is_too plants parts = same_map nat_cmp_total nat_cmp-IsAntisymmetric one.owners other.owners
    (λ dest. elim (cases_lt dest (destinations_of one.plant)) [
      | inl below ↦
          device_same (get one.owners dest) (get other.owners dest) (owner_small one dest (get one.owners dest) is refl) (owner_small other dest (get other.owners dest) is_too refl)
          (dest_parts one.crosspoints other.crosspoints one.owners other.owners dest (parts.dests dest below)).1
      | inr above ↦
          let count : destinations_of one.plant ≡ destinations_of other.plant = ap destinations_of plants in
          no_owner one dest (get one.owners dest) is refl above ∙ sym (no_owner other dest (get other.owners dest) is_too refl (omega arith))
    ])

groups_are : (one other : State) → IsValid one → IsValid other → AreParts one other → one.groups ≡ other.groups
groups_are one other is is_too parts =
    ext_get_or [] one.groups other.groups (is.groups.count ∙ sym is_too.groups.count)
    (λ group below.
    let count = is.groups.count in
    group_same (group_of one.groups group) (group_of other.groups group) (is.groups.each group).few (is_too.groups.each group).few (change_small one.plant (group_of one.groups group) is.is_plant (is.changes group))
    (change_small other.plant (group_of other.groups group) is_too.is_plant (is_too.changes group)) (parts.groups group (omega arith)))

boards_are : (one other : State) → IsValid one → IsValid other → one.plant ≡ other.plant → AreParts one other → one.boards ≡ other.boards
boards_are one other is is_too plants parts =
    ext_get_or blank one.boards other.boards (is.boards.count ∙ ap (λ (plant : PlantData). length plant.panels) plants ∙ sym is_too.boards.count)
    (λ panel below.
    let count = is.boards.count in
    board_same (destinations_of one.plant) (board_of one.boards panel) (board_of other.boards panel) (is.boards.below panel)
    (subst (λ (plant : PlantData). IsBelow (board_of other.boards panel) (destinations_of plant)) (sym plants) (is_too.boards.below panel)) (parts.panels panel (omega arith)))

shown_are : (one other : State) → IsValid one → IsValid other → one.plant ≡ other.plant → AreParts one other → one.shown ≡ other.shown
shown_are one other is is_too plants parts =
    ext_get_or None one.shown other.shown (is.shown.count ∙ ap (λ (plant : PlantData). length plant.displays) plants ∙ sym is_too.shown.count)
    (λ display below.
    let count = is.shown.count in
    let count_too : length one.plant.displays ≡ length other.plant.displays = ap (λ (plant : PlantData). length plant.displays) plants in
    let inside : display < length one.plant.displays = omega arith in
    let inside_too : display < length other.plant.displays = omega arith in
    display_same (last one.shown display) (last other.shown display) (value_small one.plant one.shown display (last one.shown display) is.is_plant is.shown inside refl)
    (value_small other.plant other.shown display (last other.shown display) is_too.is_plant is_too.shown inside_too refl) (parts.displays display inside))

abbrev IsOne : State → PlantData → Crosspoints → Owners → List Group → List Board → Shown → Type 0
IsOne one plant points owners groups boards shown =
    IsValid (state_with plant points owners groups boards shown) → state_text one ≡ state_text (state_with plant points owners groups boards shown)
    → one ≡ state_with plant points owners groups boards shown

of_one_plant : (one : State) → IsValid one → (points : Crosspoints) (owners : Owners) (groups : List Group) (boards : List Board) (shown : Shown) → IsOne one one.plant points owners groups boards shown
of_one_plant one is points owners groups boards shown is_too same =
    let other : State = state_with one.plant points owners groups boards shown in
    let parts : AreParts one other = parts_same one.plant one.crosspoints points one.owners owners one.groups groups one.boards boards one.shown shown same in
    ap (λ (found : Crosspoints). state_with one.plant found one.owners one.groups one.boards one.shown) (points_are one other is is_too refl parts)
    ∙ ap (λ (found : Owners). state_with one.plant points found one.groups one.boards one.shown) (owners_are one other is is_too refl parts)
    ∙ ap (λ (found : List Group). state_with one.plant points owners found one.boards one.shown) (groups_are one other is is_too parts)
    ∙ ap (λ (found : List Board). state_with one.plant points owners groups found one.shown) (boards_are one other is is_too refl parts)
    ∙ ap (λ (found : Shown). state_with one.plant points owners groups boards found) (shown_are one other is is_too refl parts)

pub one_text : (one other : State) → IsValid one → IsValid other → one.plant ≡ other.plant → state_text one ≡ state_text other → one ≡ other
one_text one other is is_too plants same =
    subst (λ (plant : PlantData). IsOne one plant other.crosspoints other.owners other.groups other.boards other.shown) plants
    (of_one_plant one is other.crosspoints other.owners other.groups other.boards other.shown) is_too same
