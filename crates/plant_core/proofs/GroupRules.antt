-- The text of a valid state's groups breaks no rule.
use Rattle.std.proofs.Common.{◌≡◌, ℕ, ◌+◌, ◌*◌, ◌<◌, ◌≤◌, ◌==◌, ◌⊎◌, nat_eq, nat_lt, nat_le, zero, suc, true, false, not, ◌&&◌, List, [], ◌∷◌, ◌++◌, length, get_or, All, Option, Some, None, IfSome, inl, inr, refl, ap, sym, subst, ◌∙◌, arith, eq-eqb}
use Rattle.std.proofs.lemmas.Bool.{and_from, cases_lt, false_from_ne_true, le-leb, lt-ltb, ltb-true, not_from_false}
use Rattle.std.proofs.lemmas.Option.{slice_get_cases, slice_get_past}
use Rattle.std.specs.Prelude.{slice_get}
use Rattle.std.specs.List.{AllByRecursion, IsDistinct}
use Rattle.std.specs.Option.{option_map_or}
use Rattle.plant_config.specs.declared.records.Change.{Change}
use Rattle.plant_config.specs.IsPlant.{IsPlant}
use Rattle.plant_config.specs.Plant.{PlantData, destinations_of}
use Rattle.salvo_groups.specs.Limits.{salvo_limit, group_limit}
use Rattle.salvo_groups.specs.Groups.{Group, group_of, entry_dests}
use Rattle.plant_core.specs.State.{State, IsValid, IsCrosspoint, IsChangeOf}
use Rattle.plant_core.specs.Short.{StaysShort, IsShortSource, IsShortChange}
use Rattle.plant_core.specs.StateText.{four, two, four_or_none, texts_of, entry_text, group_text}
use Rattle.plant_core.specs.StateFields.{four_at, place_of_group, place_of_entry}
use Rattle.plant_core.specs.StateFault.{first_broken, fields_of_each, is_of_level, has_short_number, has_short_source_number, count_in, entry_dest_in, entry_source_in, is_before, entry_dest_holds, entry_source_holds, entry_fields, group_fields}
use Rattle.plant_core.specs.ReadInside.{part}
use Rattle.plant_core.proofs.TextLengths.{entry_long}
use Rattle.plant_core.proofs.TextParts.{part_within, part_back, text_of_number, four_is, two_is, some_four_is}
use Rattle.plant_core.proofs.TextPlaces.{StandIn}
use Rattle.plant_core.proofs.TextRules.{crosspoint_level, dest_short, source_short, none_pass, holds_then, holds_else, holds_before, none_in_all}
use Rattle.plant_core.proofs.DestRules.{source_small}

-- the parts of a group's text, and of a change's
count_part : (count : ℕ) (entries : List ℕ) → part (two count ++ entries) 0 2 ≡ two count
unfolding part
count_part count entries = refl

front_part : (dest : ℕ) (source : Option ℕ) → part (four dest ++ four_or_none source) 0 4 ≡ four dest
unfolding part
front_part dest source = refl

last_part : (dest : ℕ) (source : Option ℕ) → part (four dest ++ four_or_none source) 4 4 ≡ four_or_none source
unfolding part
last_part dest None = refl
last_part dest (Some source) = refl

count_is : (bytes : List ℕ) (state : State) (group : ℕ) → IsValid state → StandIn bytes state → group < salvo_limit → count_in state.plant bytes group ≡ length (group_of state.groups group)
unfolding count_in
count_is bytes state group is stand below =
    let changes = group_of state.groups group in
    let place = place_of_group state.plant group in
    let few = (is.groups.each group).few in
    two_is bytes place (length changes) (omega arith)
    (part_within bytes (group_text changes) place 2050 place 0 2 (stand.group group below) (omega arith) (omega arith)
    ∙ count_part (length changes) (texts_of group_limit (λ index. entry_text (slice_get changes index))))

entry_stands : (bytes : List ℕ) (state : State) (group index : ℕ) → StandIn bytes state → group < salvo_limit → index < group_limit → part bytes (place_of_entry state.plant group index) 8 ≡ entry_text (slice_get (group_of state.groups group) index)
entry_stands bytes state group index stand below inside =
    let changes = group_of state.groups group in
    let entry_at : ℕ → List ℕ = λ index. entry_text (slice_get changes index) in
    let long : length (two (length changes)) ≡ 2 = refl in
    part_within bytes (group_text changes) (place_of_group state.plant group) 2050 (place_of_entry state.plant group index) (2 + 8 * index) 8 (stand.group group below) (omega arith) (omega arith)
    ∙ part_back (two (length changes)) (texts_of group_limit entry_at) (2 + 8 * index) (index * 8) 8 (omega (arith, long))
    ∙ text_of_number group_limit 8 index entry_at (λ index. entry_long (slice_get changes index)) inside

-- what the text tells of a place that a group uses is its change
record Tells (plant : PlantData) (bytes : List ℕ) (group index : ℕ) (change : Change) : Type 0 where
  pub dest : entry_dest_in plant bytes group index ≡ change.dest
  pub source : entry_source_in plant bytes group index ≡ change.source

tells_by : (plant : PlantData) (bytes : List ℕ) (group index : ℕ) (change : Change) → IsPlant plant → IsChangeOf plant change → part bytes (place_of_entry plant group index) 8 ≡ entry_text (Some change) → Tells plant bytes group index change
unfolding entry_dest_in entry_source_in
tells_by plant bytes group index change is of stands =
    let place = place_of_entry plant group index in
    let few = is.destinations in
    let low : change.dest < destinations_of plant = of.dest in
    record {
      dest = four_is bytes place change.dest (omega arith) (part_within bytes (entry_text (Some change)) place 8 place 0 4 stands (omega arith) (omega arith) ∙ front_part change.dest change.source);
      source = some_four_is bytes (place + 4) change.source (source_small plant change.dest change.source is of.source) (part_within bytes (entry_text (Some change)) place 8 (place + 4) 4 4 stands refl (omega arith) ∙ last_part change.dest change.source);
    }

-- a change of a group, by its place
record Has (state : State) (bytes : List ℕ) (group index : ℕ) : Type 0 where
  pub change : Change
  pub there : slice_get (group_of state.groups group) index ≡ Some change
  pub of : IsChangeOf state.plant change
  pub short : IsShortChange state.plant change
  pub told : Tells state.plant bytes group index change

at_place : (P : Change → Type 0) (group : Group) (index : ℕ) (change : Change) → All P group → index < length group → get_or group index change ≡ change → P change
at_place P group index change all below same = subst P same (all index change below)

has : (bytes : List ℕ) (state : State) (group index : ℕ) → IsValid state → StaysShort state → StandIn bytes state → group < salvo_limit → index < length (group_of state.groups group) → Has state bytes group index
has bytes state group index is short stand below inside =
    let few = (is.groups.each group).few in
    let stands = entry_stands bytes state group index stand below (omega arith) in
    elim ((slice_get_cases (group_of state.groups group) index).1) [
      | inl found ↦
          let of = at_place (IsChangeOf state.plant) (group_of state.groups group) index found.0 (is.changes group) inside found.3 in
          record {
            change = found.0;
            there = found.2;
            of = of;
            short = at_place (IsShortChange state.plant) (group_of state.groups group) index found.0 (short.changes group) inside found.3;
            told = tells_by state.plant bytes group index found.0 is.is_plant of (stands ∙ ap entry_text found.2);
          }
      | inr past ↦ let high = past.0 in absurd (omega arith)
    ]

-- the changes of a group are of different destinations
behind_differ : (dest : ℕ) (group : Group) (index : ℕ) (change : Change) → AllByRecursion (λ other. nat_eq dest other ≡ false) (entry_dests group) → slice_get group index ≡ Some change → (dest == change.dest) ≡ false
behind_differ dest [] index change all there = absurd (cc)
behind_differ dest (entry ∷ group) zero change all there =
    let same : entry ≡ change = (cc) in
    ap (λ (found : Change). dest == found.dest) (sym same) ∙ all.0
behind_differ dest (entry ∷ group) (suc index) change all there = behind_differ dest group index change all.1 there

differ : (group : Group) (earlier index : ℕ) (one other : Change) → IsDistinct nat_eq (entry_dests group) → earlier < index → slice_get group earlier ≡ Some one → slice_get group index ≡ Some other → (one.dest == other.dest) ≡ false
unfolding IsDistinct
differ [] earlier index one other distinct before there there_too = absurd (cc)
differ (entry ∷ group) zero zero one other distinct before there there_too = absurd (omega arith)
differ (entry ∷ group) zero (suc index) one other distinct before there there_too =
    let same : entry ≡ one = (cc) in
    ap (λ (found : Change). found.dest == other.dest) (sym same) ∙ behind_differ entry.dest group index other distinct.0 there_too
differ (entry ∷ group) (suc earlier) zero one other distinct before there there_too = absurd (omega arith)
differ (entry ∷ group) (suc earlier) (suc index) one other distinct before there there_too = differ group earlier index one other distinct.1 (omega arith) there there_too

none_before_it : (bytes : List ℕ) (state : State) (group index : ℕ) → IsValid state → StaysShort state → StandIn bytes state → group < salvo_limit → index < length (group_of state.groups group) → Has state bytes group index → is_before state.plant bytes group index (entry_dest_in state.plant bytes group index) ≡ false
unfolding is_before
none_before_it bytes state group index is short stand below inside here =
    none_pass (λ (earlier : ℕ). entry_dest_in state.plant bytes group earlier == entry_dest_in state.plant bytes group index) index
    (λ earlier before.
    let other = has bytes state group earlier is short stand below (omega (arith, before, inside)) in
    ap (λ (dest : ℕ). dest == entry_dest_in state.plant bytes group index) other.told.dest
    ∙ ap (λ (dest : ℕ). other.change.dest == dest) here.told.dest
    ∙ differ (group_of state.groups group) earlier index other.change here.change (is.groups.each group).distinct before other.there here.there)

-- a place that is used
source_case : (plant : PlantData) (dest : ℕ) (source : Option ℕ) → IsPlant plant → IfSome source (IsCrosspoint plant dest) → IsShortSource plant source → option_map_or (λ (source : ℕ). is_of_level plant dest source && has_short_source_number plant source) source true ≡ true
source_case plant dest None is at short = refl
source_case plant dest (Some source) is at short = and_from (is_of_level plant dest source) (has_short_source_number plant source) (crosspoint_level plant dest source is at) (source_short plant dest source is at short)

is_used : (bytes : List ℕ) (state : State) (group index : ℕ) → IsValid state → StandIn bytes state → group < salvo_limit → index < length (group_of state.groups group) → nat_lt index (count_in state.plant bytes group) ≡ true
is_used bytes state group index is stand below inside = ap (λ (count : ℕ). nat_lt index count) (count_is bytes state group is stand below) ∙ lt-ltb index (length (group_of state.groups group)) inside

used_dest : (bytes : List ℕ) (state : State) (group index : ℕ) → IsValid state → StaysShort state → StandIn bytes state → group < salvo_limit → index < length (group_of state.groups group) → entry_dest_holds state.plant bytes group index ≡ true
unfolding entry_dest_holds
used_dest bytes state group index is short stand below inside =
    let plant = state.plant in
    let here = has bytes state group index is short stand below inside in
    let dest = entry_dest_in plant bytes group index in
    holds_then (nat_lt index (count_in plant bytes group)) (has_short_number plant dest && not (is_before plant bytes group index dest)) (dest == 0) (is_used bytes state group index is stand below inside)
    (and_from (has_short_number plant dest) (not (is_before plant bytes group index dest))
    (ap (has_short_number plant) here.told.dest ∙ dest_short plant here.change.dest is.is_plant here.of.dest here.short.dest)
    (not_from_false (is_before plant bytes group index dest) (none_before_it bytes state group index is short stand below inside here)))

used_source : (bytes : List ℕ) (state : State) (group index : ℕ) → IsValid state → StaysShort state → StandIn bytes state → group < salvo_limit → index < length (group_of state.groups group) → entry_source_holds state.plant bytes group index ≡ true
unfolding entry_source_holds
used_source bytes state group index is short stand below inside =
    let plant = state.plant in
    let here = has bytes state group index is short stand below inside in
    holds_then (nat_lt index (count_in plant bytes group))
    (option_map_or (λ (source : ℕ). is_of_level plant (entry_dest_in plant bytes group index) source && has_short_source_number plant source) (entry_source_in plant bytes group index) true)
    (four_at bytes (place_of_entry plant group index + 4) == 0) (is_used bytes state group index is stand below inside)
    (ap (λ (dest : ℕ). option_map_or (λ (source : ℕ). is_of_level plant dest source && has_short_source_number plant source) (entry_source_in plant bytes group index) true) here.told.dest
    ∙ ap (λ (source : Option ℕ). option_map_or (λ (source : ℕ). is_of_level plant here.change.dest source && has_short_source_number plant source) source true) here.told.source
    ∙ source_case plant here.change.dest here.change.source is.is_plant here.of.source here.short.source)

-- a place that isn't
is_unused : (bytes : List ℕ) (state : State) (group index : ℕ) → IsValid state → StandIn bytes state → group < salvo_limit → length (group_of state.groups group) ≤ index → nat_lt index (count_in state.plant bytes group) ≡ false
is_unused bytes state group index is stand below past =
    ap (λ (count : ℕ). nat_lt index count) (count_is bytes state group is stand below)
    ∙ false_from_ne_true (nat_lt index (length (group_of state.groups group))) (λ is. let less : index < length (group_of state.groups group) = ltb-true index (length (group_of state.groups group)) is in absurd (omega arith))

zeros : (bytes : List ℕ) (state : State) (group index : ℕ) → StandIn bytes state → group < salvo_limit → index < group_limit → length (group_of state.groups group) ≤ index →
    (four_at bytes (place_of_entry state.plant group index) ≡ 0) × (four_at bytes (place_of_entry state.plant group index + 4) ≡ 0)
unfolding part
zeros bytes state group index stand below few past =
    let place = place_of_entry state.plant group index in
    let stands : part bytes place 8 ≡ entry_text None = entry_stands bytes state group index stand below few ∙ ap entry_text (slice_get_past (group_of state.groups group) index past) in (
      four_is bytes place 0 (omega arith) (part_within bytes (entry_text None) place 8 place 0 4 stands (omega arith) (omega arith)),
      four_is bytes (place + 4) 0 (omega arith) (part_within bytes (entry_text None) place 8 (place + 4) 4 4 stands refl (omega arith)),
    )

unused_dest : (bytes : List ℕ) (state : State) (group index : ℕ) → IsValid state → StandIn bytes state → group < salvo_limit → index < group_limit → length (group_of state.groups group) ≤ index → entry_dest_holds state.plant bytes group index ≡ true
unfolding entry_dest_holds entry_dest_in
unused_dest bytes state group index is stand below few past =
    let plant = state.plant in
    let dest = four_at bytes (place_of_entry plant group index) in
    holds_else (nat_lt index (count_in plant bytes group)) (has_short_number plant dest && not (is_before plant bytes group index dest)) (dest == 0) (is_unused bytes state group index is stand below past)
    (eq-eqb dest 0 (zeros bytes state group index stand below few past).0)

unused_source : (bytes : List ℕ) (state : State) (group index : ℕ) → IsValid state → StandIn bytes state → group < salvo_limit → index < group_limit → length (group_of state.groups group) ≤ index → entry_source_holds state.plant bytes group index ≡ true
unfolding entry_source_holds
unused_source bytes state group index is stand below few past =
    let plant = state.plant in
    let source = four_at bytes (place_of_entry plant group index + 4) in
    holds_else (nat_lt index (count_in plant bytes group))
    (option_map_or (λ (source : ℕ). is_of_level plant (entry_dest_in plant bytes group index) source && has_short_source_number plant source) (entry_source_in plant bytes group index) true)
    (source == 0) (is_unused bytes state group index is stand below past)
    (eq-eqb source 0 (zeros bytes state group index stand below few past).1)

-- a place, and a group
dest_case : (bytes : List ℕ) (state : State) (group index : ℕ) → IsValid state → StaysShort state → StandIn bytes state → group < salvo_limit → index < group_limit → (index < length (group_of state.groups group)) ⊎ (length (group_of state.groups group) ≤ index) → entry_dest_holds state.plant bytes group index ≡ true
dest_case bytes state group index is short stand below few (inl inside) = used_dest bytes state group index is short stand below inside
dest_case bytes state group index is short stand below few (inr past) = unused_dest bytes state group index is stand below few past

change_case : (bytes : List ℕ) (state : State) (group index : ℕ) → IsValid state → StaysShort state → StandIn bytes state → group < salvo_limit → index < group_limit → (index < length (group_of state.groups group)) ⊎ (length (group_of state.groups group) ≤ index) → entry_source_holds state.plant bytes group index ≡ true
change_case bytes state group index is short stand below few (inl inside) = used_source bytes state group index is short stand below inside
change_case bytes state group index is short stand below few (inr past) = unused_source bytes state group index is stand below few past

entry_whole : (bytes : List ℕ) (state : State) (group index : ℕ) → IsValid state → StaysShort state → StandIn bytes state → group < salvo_limit → index < group_limit → first_broken (entry_fields state.plant bytes group index) ≡ None
unfolding entry_fields
entry_whole bytes state group index is short stand below few =
    let place = place_of_entry state.plant group index in
    let either = cases_lt index (length (group_of state.groups group)) in
    holds_before place (entry_dest_holds state.plant bytes group index) _ (dest_case bytes state group index is short stand below few either)
    (holds_before (place + 4) (entry_source_holds state.plant bytes group index) None (change_case bytes state group index is short stand below few either) refl)

pub group_whole : (bytes : List ℕ) (state : State) (group : ℕ) → IsValid state → StaysShort state → StandIn bytes state → group < salvo_limit → first_broken (group_fields state.plant bytes group) ≡ None
unfolding group_fields
group_whole bytes state group is short stand below =
    let plant = state.plant in
    holds_before (place_of_group plant group) (nat_le (count_in plant bytes group) group_limit) (first_broken (fields_of_each group_limit (entry_fields plant bytes group)))
    (ap (λ (count : ℕ). nat_le count group_limit) (count_is bytes state group is stand below) ∙ le-leb (length (group_of state.groups group)) group_limit (is.groups.each group).few)
    (none_in_all group_limit (entry_fields plant bytes group) (λ index few. entry_whole bytes state group index is short stand below few))
