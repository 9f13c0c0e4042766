-- The groups that a text tells, change by change.
use Rattle.std.proofs.Common.{◌≡◌, ℕ, ◌+◌, ◌*◌, ◌<◌, ◌≤◌, ◌==◌, nat_lt, ◌||◌, ◌&&◌, not, zero, suc, Bool, true, false, if◌then◌else◌, List, [], ◌∷◌, ◌++◌, length, map, replicate, All, Option, Some, None, IfSome, inl, inr, refl, ap, sym, subst, ◌∙◌, arith}
use Rattle.std.specs.Prelude.{slice_get}
use Rattle.std.specs.List.{list_any, range_with_len}
use Rattle.std.specs.Option.{option_map_or}
use Rattle.std.proofs.lemmas.Bool.{cases_eq, cases_lt, and_parts, lt-ltb}
use Rattle.std.proofs.lemmas.Bool.Decides.{nat_tests}
use Rattle.std.proofs.lemmas.List.Elements.{All-nil, All-push}
use Rattle.std.proofs.lemmas.List.FromFn.{length-map-range_with_len, get_or-map-range_with_len, map-range_with_len_more}
use Rattle.std.proofs.lemmas.Option.{slice_get_past, slice_get-get_or}
use Rattle.plant_config.specs.declared.records.Change.{Change}
use Rattle.plant_config.specs.Plant.{PlantData}
use Rattle.plant_config.specs.IsPlant.{IsPlant}
use Rattle.salvo_groups.specs.Limits.{salvo_limit, group_limit}
use Rattle.salvo_groups.specs.Groups.{Group, group_of, start_groups, has_entry, stored, with_store, AreGroups}
use Rattle.salvo_groups.specs.Laws.{SameGroupsBut}
use Rattle.salvo_groups.proofs.AllGroups.{group_stored, store_others, AreGroups-start, AreGroups-store}
use Rattle.plant_core.specs.State.{IsChangeOf, IsCrosspoint}
use Rattle.plant_core.specs.Short.{IsShortChange, IsShortSource}
use Rattle.plant_core.specs.StateText.{four, two, entry_text, group_text, texts_of, state_size}
use Rattle.plant_core.specs.StateFields.{four_at, two_at, place_of_group, place_of_entry}
use Rattle.plant_core.specs.StateFault.{is_of_level, has_short_number, has_short_source_number, count_in, entry_dest_in, entry_source_in, is_before, entry_dest_holds, entry_source_holds, first_fault}
use Rattle.plant_core.specs.ReadInside.{part, AreGroupsIn}
use Rattle.plant_core.specs.ReadParts.{change_in, changes_in}
use Rattle.plant_core.proofs.HoldLemmas.{count_held, entry_dest_held, entry_source_held}
use Rattle.plant_core.proofs.LevelLemmas.{level_crosspoint, short_dest, short_dest-below, short_source}
use Rattle.plant_core.proofs.PartLemmas.{AreBytes, part_two, part_four, part_some_four, part_texts, parts_join}

-- one change

-- A place that a group uses keeps the rules.
record IsUsed (plant : PlantData) (bytes : List ℕ) (group index : ℕ) : Type 0 where
  pub short : has_short_number plant (entry_dest_in plant bytes group index) ≡ true
  pub new : is_before plant bytes group index (entry_dest_in plant bytes group index) ≡ false
  pub source : option_map_or (λ (source : ℕ). is_of_level plant (entry_dest_in plant bytes group index) source && has_short_source_number plant source) (entry_source_in plant bytes group index) true ≡ true

dest_used : (used short before other : Bool) → used ≡ true → (if used then short && not before else other) ≡ true → (short ≡ true) × (before ≡ false)
dest_used true true false other is holds = (refl, refl)
dest_used true true true other is holds = absurd (cc)
dest_used true false before other is holds = absurd (cc)
dest_used false short before other is holds = absurd (cc)

source_used : (used source other : Bool) → used ≡ true → (if used then source else other) ≡ true → source ≡ true
source_used true source other is holds = holds
source_used false source other is holds = absurd (cc)

used_dest : (plant : PlantData) (bytes : List ℕ) (group index : ℕ) → nat_lt index (count_in plant bytes group) ≡ true → entry_dest_holds plant bytes group index ≡ true →
    (has_short_number plant (entry_dest_in plant bytes group index) ≡ true) × (is_before plant bytes group index (entry_dest_in plant bytes group index) ≡ false)
unfolding entry_dest_holds
used_dest plant bytes group index used holds =
    dest_used (nat_lt index (count_in plant bytes group)) (has_short_number plant (entry_dest_in plant bytes group index)) (is_before plant bytes group index (entry_dest_in plant bytes group index)) (entry_dest_in plant bytes group index == 0) used holds

used_source : (plant : PlantData) (bytes : List ℕ) (group index : ℕ) → nat_lt index (count_in plant bytes group) ≡ true → entry_source_holds plant bytes group index ≡ true →
    option_map_or (λ (source : ℕ). is_of_level plant (entry_dest_in plant bytes group index) source && has_short_source_number plant source) (entry_source_in plant bytes group index) true ≡ true
unfolding entry_source_holds
used_source plant bytes group index used holds =
    source_used (nat_lt index (count_in plant bytes group))
    (option_map_or (λ (source : ℕ). is_of_level plant (entry_dest_in plant bytes group index) source && has_short_source_number plant source) (entry_source_in plant bytes group index) true)
    (four_at bytes (place_of_entry plant group index + 4) == 0) used holds

used : (plant : PlantData) (bytes : List ℕ) (group index : ℕ) → first_fault plant bytes ≡ None → group < salvo_limit → index < count_in plant bytes group → IsUsed plant bytes group index
used plant bytes group index none below inside =
    let few : index < group_limit = omega (arith, inside, count_held plant bytes group below none) in
    let is : nat_lt index (count_in plant bytes group) ≡ true = lt-ltb index (count_in plant bytes group) inside in
    let dest = used_dest plant bytes group index is (entry_dest_held plant bytes group index below few none) in
    record {
      short = dest.0;
      new = dest.1;
      source = used_source plant bytes group index is (entry_source_held plant bytes group index below few none);
    }

source_can : (plant : PlantData) (dest : ℕ) (source : Option ℕ) → IsPlant plant → option_map_or (λ (source : ℕ). is_of_level plant dest source && has_short_source_number plant source) source true ≡ true → IfSome source (IsCrosspoint plant dest)
source_can plant dest None is holds = tt
source_can plant dest (Some source) is holds = level_crosspoint plant dest source is (and_parts (is_of_level plant dest source) (has_short_source_number plant source) holds).0

source_short : (plant : PlantData) (dest : ℕ) (source : Option ℕ) → option_map_or (λ (source : ℕ). is_of_level plant dest source && has_short_source_number plant source) source true ≡ true → IsShortSource plant source
source_short plant dest None holds = tt
source_short plant dest (Some source) holds = short_source plant source (and_parts (is_of_level plant dest source) (has_short_source_number plant source) holds).1

change_is : (plant : PlantData) (bytes : List ℕ) (group index : ℕ) → IsPlant plant → first_fault plant bytes ≡ None → group < salvo_limit → index < count_in plant bytes group → IsChangeOf plant (change_in plant bytes group index)
change_is plant bytes group index is none below inside =
    let entry = used plant bytes group index none below inside in
    record {
      dest = short_dest-below plant (entry_dest_in plant bytes group index) is entry.short;
      source = source_can plant (entry_dest_in plant bytes group index) (entry_source_in plant bytes group index) is entry.source;
    }

change_short : (plant : PlantData) (bytes : List ℕ) (group index : ℕ) → first_fault plant bytes ≡ None → group < salvo_limit → index < count_in plant bytes group → IsShortChange plant (change_in plant bytes group index)
change_short plant bytes group index none below inside =
    let entry = used plant bytes group index none below inside in
    record {
      dest = short_dest plant (entry_dest_in plant bytes group index) entry.short;
      source = source_short plant (entry_dest_in plant bytes group index) (entry_source_in plant bytes group index) entry.source;
    }

-- a group, change by change

changes_more : (plant : PlantData) (bytes : List ℕ) (group count : ℕ) → changes_in plant bytes group (count + 1) ≡ changes_in plant bytes group count ++ change_in plant bytes group count ∷ []
unfolding changes_in
changes_more plant bytes group count = map-range_with_len_more (change_in plant bytes group) 0 count count (omega arith)

pub changes_none : (plant : PlantData) (bytes : List ℕ) (group : ℕ) → changes_in plant bytes group 0 ≡ []
unfolding changes_in
changes_none plant bytes group = refl

length-changes : (plant : PlantData) (bytes : List ℕ) (group count : ℕ) → length (changes_in plant bytes group count) ≡ count
unfolding changes_in
length-changes plant bytes group count = length-map-range_with_len (change_in plant bytes group) 0 count

all_changes : (P : Change → Type 0) (plant : PlantData) (bytes : List ℕ) (group count : ℕ) → ((index : ℕ) → index < count → P (change_in plant bytes group index)) → All P (changes_in plant bytes group count)
all_changes P plant bytes group zero each = subst (All P) (sym (changes_none plant bytes group)) (All-nil P)
all_changes P plant bytes group (suc count) each =
    let same : count + 1 ≡ suc count = omega arith in
    subst (λ (n : ℕ). All P (changes_in plant bytes group n)) same
    (subst (All P) (sym (changes_more plant bytes group count))
    (All-push P (changes_in plant bytes group count) (change_in plant bytes group count) (all_changes P plant bytes group count (λ index below. each index (omega (arith, below)))) (each count (omega arith))))

any_of_map : (plant : PlantData) (bytes : List ℕ) (group dest : ℕ) (numbers : List ℕ) → list_any (λ (entry : Change). entry.dest == dest) (map (change_in plant bytes group) numbers) ≡ list_any (λ (earlier : ℕ). entry_dest_in plant bytes group earlier == dest) numbers
any_of_map plant bytes group dest [] = refl
any_of_map plant bytes group dest (number ∷ numbers) = ap (λ (rest : Bool). (entry_dest_in plant bytes group number == dest) || rest) (any_of_map plant bytes group dest numbers)

has_before : (plant : PlantData) (bytes : List ℕ) (group index dest : ℕ) → has_entry (changes_in plant bytes group index) dest ≡ is_before plant bytes group index dest
unfolding changes_in is_before
has_before plant bytes group index dest = any_of_map plant bytes group dest (range_with_len 0 index)

may_by : (has few : Bool) → few ≡ true → (has || few) ≡ true
may_by true few is = refl
may_by false few is = is

stored_new : (group : Group) (change : Change) → has_entry group change.dest ≡ false → stored group change ≡ group ++ change ∷ []
stored_new group change new = rw new refl

-- one change more is stored in its group
pub store_more : (plant : PlantData) (bytes : List ℕ) (groups : List Group) (group index : ℕ) → first_fault plant bytes ≡ None → AreGroups groups → group < salvo_limit → index < count_in plant bytes group → group_of groups group ≡ changes_in plant bytes group index →
    group_of (with_store groups group (change_in plant bytes group index)) group ≡ changes_in plant bytes group (index + 1)
store_more plant bytes groups group index none are below inside is =
    let change : Change = change_in plant bytes group index in
    let entry = used plant bytes group index none below inside in
    let new : has_entry (group_of groups group) change.dest ≡ false = ap (λ (g : Group). has_entry g change.dest) is ∙ has_before plant bytes group index change.dest ∙ entry.new in
    let count : length (group_of groups group) ≡ index = ap (λ (g : Group). length g) is ∙ length-changes plant bytes group index in
    let few : nat_lt (length (group_of groups group)) group_limit ≡ true = lt-ltb (length (group_of groups group)) group_limit (omega (arith, count, inside, count_held plant bytes group below none)) in
    group_stored groups group change (omega (arith, are.count, below)) (may_by (has_entry (group_of groups group) change.dest) (nat_lt (length (group_of groups group)) group_limit) few)
    ∙ stored_new (group_of groups group) change new
    ∙ ap (λ (g : Group). g ++ change ∷ []) is
    ∙ sym (changes_more plant bytes group index)

pub others_stored : (old groups : List Group) (group : ℕ) (change : Change) → SameGroupsBut old groups group → SameGroupsBut old (with_store groups group change) group
others_stored old groups group change same number other = store_others groups group change number other ∙ same number other

pub are_stored : (groups : List Group) (group : ℕ) (change : Change) → AreGroups groups → AreGroups (with_store groups group change)
are_stored groups group change are = AreGroups-store groups group change are

-- its text

slice_changes : (plant : PlantData) (bytes : List ℕ) (group count index : ℕ) → index < count → slice_get (changes_in plant bytes group count) index ≡ Some (change_in plant bytes group index)
unfolding changes_in
slice_changes plant bytes group count index below =
    let changes = map (change_in plant bytes group) (range_with_len 0 count) in
    let default : Change = change_in plant bytes group 0 in
    slice_get-get_or changes index default (omega (arith, below, length-map-range_with_len (change_in plant bytes group) 0 count))
    ∙ ap Some (get_or-map-range_with_len (change_in plant bytes group) 0 count index index default below (omega arith))

used_text : (plant : PlantData) (bytes : List ℕ) (group index : ℕ) → AreBytes bytes → place_of_entry plant group index + 8 ≤ length bytes → entry_text (Some (change_in plant bytes group index)) ≡ part bytes (place_of_entry plant group index) 8
unfolding entry_dest_in entry_source_in
used_text plant bytes group index are inside =
    let place : ℕ = place_of_entry plant group index in
    parts_join bytes (four (four_at bytes place)) _ place (place + 4) 4 4 (part_four bytes place are (omega (arith, inside))) (part_some_four bytes (place + 4) are (omega (arith, inside))) refl

zero_four : (bytes : List ℕ) (place : ℕ) → AreBytes bytes → place + 4 ≤ length bytes → four_at bytes place ≡ 0 → replicate 4 0 ≡ part bytes place 4
zero_four bytes place are inside zero_is =
    let same : four 0 ≡ four (four_at bytes place) = ap four (sym zero_is) in
    same ∙ part_four bytes place are inside

unused_text : (bytes : List ℕ) (place : ℕ) → AreBytes bytes → place + 8 ≤ length bytes → four_at bytes place ≡ 0 → four_at bytes (place + 4) ≡ 0 → entry_text None ≡ part bytes place 8
unused_text bytes place are inside dest source =
    parts_join bytes (replicate 4 0) (replicate 4 0) place (place + 4) 4 4 (zero_four bytes place are (omega (arith, inside)) dest) (zero_four bytes (place + 4) are (omega (arith, inside)) source) refl

unused_by : (used other is_zero : Bool) → used ≡ false → (if used then other else is_zero) ≡ true → is_zero ≡ true
unused_by true other is_zero is holds = absurd (cc)
unused_by false other is_zero is holds = holds

is_zero : (number : ℕ) → (number == 0) ≡ true → number ≡ 0
is_zero number is = grind (arith, nat_tests)

unused_dest : (plant : PlantData) (bytes : List ℕ) (group index : ℕ) → nat_lt index (count_in plant bytes group) ≡ false → entry_dest_holds plant bytes group index ≡ true → four_at bytes (place_of_entry plant group index) ≡ 0
unfolding entry_dest_holds entry_dest_in
unused_dest plant bytes group index unused holds =
    let dest : ℕ = four_at bytes (place_of_entry plant group index) in
    is_zero dest (unused_by (nat_lt index (count_in plant bytes group)) (has_short_number plant dest && not (is_before plant bytes group index dest)) (dest == 0) unused holds)

unused_source : (plant : PlantData) (bytes : List ℕ) (group index : ℕ) → nat_lt index (count_in plant bytes group) ≡ false → entry_source_holds plant bytes group index ≡ true → four_at bytes (place_of_entry plant group index + 4) ≡ 0
unfolding entry_source_holds
unused_source plant bytes group index unused holds =
    is_zero (four_at bytes (place_of_entry plant group index + 4))
    (unused_by (nat_lt index (count_in plant bytes group))
    (option_map_or (λ (source : ℕ). is_of_level plant (entry_dest_in plant bytes group index) source && has_short_source_number plant source) (entry_source_in plant bytes group index) true)
    (four_at bytes (place_of_entry plant group index + 4) == 0) unused holds)

not_below : (index count : ℕ) → count ≤ index → nat_lt index count ≡ false
not_below index count above = grind (arith, nat_tests)

one_entry : (plant : PlantData) (bytes : List ℕ) (group index : ℕ) → first_fault plant bytes ≡ None → AreBytes bytes → group < salvo_limit → index < group_limit → place_of_entry plant group index + 8 ≤ length bytes →
    entry_text (slice_get (changes_in plant bytes group (count_in plant bytes group)) index) ≡ part bytes (place_of_entry plant group index) 8
one_entry plant bytes group index none are below few inside = elim (cases_lt index (count_in plant bytes group)) [
  | inl used ↦ ap entry_text (slice_changes plant bytes group (count_in plant bytes group) index used) ∙ used_text plant bytes group index are inside
  | inr unused ↦
      let count : ℕ = count_in plant bytes group in
      let is : nat_lt index count ≡ false = not_below index count unused in
      ap entry_text (slice_get_past (changes_in plant bytes group count) index (omega (arith, unused, length-changes plant bytes group count)))
      ∙ unused_text bytes (place_of_entry plant group index) are inside (unused_dest plant bytes group index is (entry_dest_held plant bytes group index below few none)) (unused_source plant bytes group index is (entry_source_held plant bytes group index below few none))
]

count_text : (plant : PlantData) (bytes : List ℕ) (group : ℕ) → AreBytes bytes → place_of_group plant group + 2 ≤ length bytes → two (length (changes_in plant bytes group (count_in plant bytes group))) ≡ part bytes (place_of_group plant group) 2
unfolding count_in
count_text plant bytes group are inside =
    ap two (length-changes plant bytes group (two_at bytes (place_of_group plant group))) ∙ part_two bytes (place_of_group plant group) are inside

one_group : (plant : PlantData) (bytes : List ℕ) (group : ℕ) → first_fault plant bytes ≡ None → length bytes ≡ state_size plant → AreBytes bytes → group < salvo_limit → group_text (changes_in plant bytes group (count_in plant bytes group)) ≡ part bytes (place_of_group plant group) (2 + 8 * group_limit)
one_group plant bytes group none size are below =
    let changes : Group = changes_in plant bytes group (count_in plant bytes group) in
    parts_join bytes (two (length changes)) (texts_of group_limit (λ index. entry_text (slice_get changes index))) (place_of_group plant group) (place_of_group plant group + 2) 2 (group_limit * 8)
    (count_text plant bytes group are (omega (arith, size, below)))
    (part_texts bytes (place_of_group plant group + 2) 8 group_limit (λ index. entry_text (slice_get changes index)) (λ index few.
    let same : place_of_entry plant group index ≡ place_of_group plant group + 2 + index * 8 = omega arith in
    one_entry plant bytes group index none are below few (omega (arith, size, below, few)) ∙ ap (λ (place : ℕ). part bytes place 8) same)) refl

-- all groups

-- The groups below a count are read, and those above are empty.
pub record AreGroupsTo (plant : PlantData) (bytes : List ℕ) (groups : List Group) (count : ℕ) : Type 0 where
  pub are : AreGroups groups
  pub below : (group : ℕ) → group < count → group_of groups group ≡ changes_in plant bytes group (count_in plant bytes group)
  pub above : (group : ℕ) → count ≤ group → group_of groups group ≡ []

start_empty : (count group : ℕ) → group_of (replicate count []) group ≡ []
start_empty zero group = refl
start_empty (suc count) zero = refl
start_empty (suc count) (suc group) = start_empty count group

pub groups_none : (plant : PlantData) (bytes : List ℕ) (groups : List Group) → groups ≡ start_groups → AreGroupsTo plant bytes groups 0
groups_none plant bytes groups is = record {
  are = subst AreGroups (sym is) AreGroups-start;
  below = λ group below. absurd (omega (arith, below));
  above = λ group above. ap (λ (all : List Group). group_of all group) is ∙ start_empty salvo_limit group;
}

below_more : (plant : PlantData) (bytes : List ℕ) (old new : List Group) (group : ℕ) → AreGroupsTo plant bytes old group → group_of new group ≡ changes_in plant bytes group (count_in plant bytes group) → SameGroupsBut old new group →
    (number : ℕ) → number < group + 1 → group_of new number ≡ changes_in plant bytes number (count_in plant bytes number)
below_more plant bytes old new group read here others number below = elim (cases_eq number group) [
  | inl same ↦ subst (λ (at : ℕ). group_of new at ≡ changes_in plant bytes at (count_in plant bytes at)) (sym same) here
  | inr other ↦ others number other ∙ read.below number (omega (arith, below, other))
]

pub groups_more : (plant : PlantData) (bytes : List ℕ) (old new : List Group) (group : ℕ) → AreGroupsTo plant bytes old group → group_of new group ≡ changes_in plant bytes group (count_in plant bytes group) → SameGroupsBut old new group → AreGroups new → AreGroupsTo plant bytes new (group + 1)
groups_more plant bytes old new group read here others are = record {
  are = are;
  below = below_more plant bytes old new group read here others;
  above = λ number above. others number (λ e. omega (arith, above, e)) ∙ read.above number (omega (arith, above));
}

all_of_group : (P : Change → Type 0) (plant : PlantData) (bytes : List ℕ) (groups : List Group) → AreGroupsTo plant bytes groups salvo_limit → ((group index : ℕ) → group < salvo_limit → index < count_in plant bytes group → P (change_in plant bytes group index)) → (group : ℕ) → All P (group_of groups group)
all_of_group P plant bytes groups read each group = elim (cases_lt group salvo_limit) [
  | inl below ↦ subst (All P) (sym (read.below group below)) (all_changes P plant bytes group (count_in plant bytes group) (λ index inside. each group index below inside))
  | inr past ↦ subst (All P) (sym (read.above group past)) (All-nil P)
]

pub groups_whole : (plant : PlantData) (bytes : List ℕ) (groups : List Group) (count : ℕ) → IsPlant plant → first_fault plant bytes ≡ None → length bytes ≡ state_size plant → AreBytes bytes → count ≡ salvo_limit → AreGroupsTo plant bytes groups count → AreGroupsIn plant bytes groups
groups_whole plant bytes groups count is none size are all to =
    let read : AreGroupsTo plant bytes groups salvo_limit = subst (AreGroupsTo plant bytes groups) all to in
    record {
      text =
          part_texts bytes (place_of_group plant 0) (2 + 8 * group_limit) salvo_limit (λ group. group_text (group_of groups group)) (λ group below.
          let same : place_of_group plant group ≡ place_of_group plant 0 + group * (2 + 8 * group_limit) = omega arith in
          ap group_text (read.below group below) ∙ one_group plant bytes group none size are below ∙ ap (λ (place : ℕ). part bytes place (2 + 8 * group_limit)) same);
      are_groups = read.are;
      changes = all_of_group (IsChangeOf plant) plant bytes groups read (λ group index below inside. change_is plant bytes group index is none below inside);
      short = all_of_group (IsShortChange plant) plant bytes groups read (λ group index below inside. change_short plant bytes group index none below inside);
    }
