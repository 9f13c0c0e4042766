-- The first field of a list that breaks a rule, where the list is made part by part.
use Rattle.std.proofs.Common.{◌≡◌, ℕ, ◌+◌, ◌-◌, ◌<◌, ◌≤◌, ◌==◌, nat_le, zero, suc, Bool, true, false, if◌then◌else◌, List, [], ◌∷◌, ◌++◌, length, Option, Some, None, refl, ap, sym, subst, ◌∙◌, arith}
use Rattle.std.proofs.lemmas.Bool.{le-leb}
use Rattle.std.proofs.lemmas.List.Concat.{flat_map-append}
use Rattle.std.specs.List.{flat_map, range_with_len}
use Rattle.plant_config.proofs.OneMore.{flat_map-range_more}
use Rattle.plant_config.specs.Plant.{PlantData, destinations_of}
use Rattle.salvo_groups.specs.Limits.{salvo_limit}
use Rattle.plant_core.specs.StateFault.{Field, first_broken, fields_of_each, count_fields, dest_fields, group_fields, notices_fields, panel_fields, display_fields, fields_of, first_fault, has_short_number, most_notices}
use Rattle.plant_core.specs.StateFields.{byte_at, place_of_panel, place_of_notices}

none_by : (holds : Bool) (place : ℕ) (one two : List Field) → (first_broken one ≡ None → first_broken (one ++ two) ≡ first_broken two) → (if holds then first_broken one else Some place) ≡ None → (if holds then first_broken (one ++ two) else Some place) ≡ first_broken two
none_by true place one two more none = more none
none_by false place one two more none = (cc)

-- behind fields that all hold
pub none_before : (one two : List Field) → first_broken one ≡ None → first_broken (one ++ two) ≡ first_broken two
none_before [] two none = refl
none_before (first ∷ one) two none = none_by first.holds first.place one two (none_before one two) none

found_by : (holds : Bool) (place found : ℕ) (one two : List Field) → (first_broken one ≡ Some found → first_broken (one ++ two) ≡ Some found) → (if holds then first_broken one else Some place) ≡ Some found → (if holds then first_broken (one ++ two) else Some place) ≡ Some found
found_by true place found one two more is = more is
found_by false place found one two more is = is

-- among the first of several
pub found_before : (found : ℕ) (one two : List Field) → first_broken one ≡ Some found → first_broken (one ++ two) ≡ Some found
found_before found [] two is = (cc)
found_before found (first ∷ one) two is = found_by first.holds first.place found one two (found_before found one two) is

-- numbers in a row, parted
pub range-append : (from count rest : ℕ) → range_with_len from (count + rest) ≡ range_with_len from count ++ range_with_len (from + count) rest
range-append from zero rest =
    let same : zero + rest ≡ rest = omega arith in
    let start : from ≡ from + zero = omega arith in
    ap (range_with_len from) same ∙ ap (λ (first : ℕ). range_with_len first rest) start
range-append from (suc count) rest =
    let same : suc count + rest ≡ suc (count + rest) = omega arith in
    let start : from + 1 + count ≡ from + suc count = omega arith in
    ap (range_with_len from) same
    ∙ ap (λ numbers. from ∷ numbers) (range-append (from + 1) count rest ∙ ap (λ (first : ℕ). range_with_len (from + 1) count ++ range_with_len first rest) start)

pub range-split : (number count : ℕ) → number < count → range_with_len 0 count ≡ range_with_len 0 number ++ (number ∷ range_with_len (number + 1) (count - number - 1))
range-split number count below =
    let parts : count ≡ number + suc (count - number - 1) = omega arith in
    let start : 0 + number ≡ number = omega arith in
    ap (range_with_len 0) parts ∙ range-append 0 number (suc (count - number - 1)) ∙ ap (λ (first : ℕ). range_with_len 0 number ++ range_with_len first (suc (count - number - 1))) start

-- what isn't some place is none
pub none_unless : (answer wanted : Option ℕ) → ((place : ℕ) → answer ≡ Some place → ⊥) → answer ≡ wanted → None ≡ wanted
none_unless None wanted other is = is
none_unless (Some place) wanted other is = absurd (other place refl)

pub none_at_first : (fields : ℕ → List Field) → first_broken (fields_of_each 0 fields) ≡ None
unfolding fields_of_each
none_at_first fields = refl

-- one number more, whose fields hold
pub none_more : (count : ℕ) (fields : ℕ → List Field) → first_broken (fields_of_each count fields) ≡ None → None ≡ first_broken (fields count) → first_broken (fields_of_each (count + 1) fields) ≡ None
unfolding fields_of_each
none_more count fields before here =
    ap first_broken (flat_map-range_more fields count)
    ∙ none_before (flat_map fields (range_with_len 0 count)) (fields count) before
    ∙ sym here

-- all numbers
pub none_of_all : (number count : ℕ) (fields : ℕ → List Field) → number ≡ count → first_broken (fields_of_each number fields) ≡ None → None ≡ first_broken (fields_of_each count fields)
none_of_all number count fields same none = sym none ∙ ap (λ (all : ℕ). first_broken (fields_of_each all fields)) same

-- a number whose fields don't all hold, behind those whose fields do
pub found_at : (number count place : ℕ) (fields : ℕ → List Field) → number < count → first_broken (fields_of_each number fields) ≡ None → Some place ≡ first_broken (fields number) → Some place ≡ first_broken (fields_of_each count fields)
unfolding fields_of_each
found_at number count place fields below before here =
    let rest = range_with_len (number + 1) (count - number - 1) in
    sym (
    ap (λ numbers. first_broken (flat_map fields numbers)) (range-split number count below)
    ∙ ap first_broken (flat_map-append fields (range_with_len 0 number) (number ∷ rest))
    ∙ none_before (flat_map fields (range_with_len 0 number)) (flat_map fields (number ∷ rest)) before
    ∙ found_before place (fields number) (flat_map fields rest) (sym here)
    )

found : (place : ℕ) (one two : List Field) → Some place ≡ first_broken one → Some place ≡ first_broken (one ++ two)
found place one two is = sym (found_before place one two (sym is))

behind : (answer : Option ℕ) (one two : List Field) → None ≡ first_broken one → answer ≡ first_broken two → answer ≡ first_broken (one ++ two)
behind answer one two none is = is ∙ sym (none_before one two (sym none))

-- where the first field that breaks a rule is in one of the parts of a text
pub in_counts : (plant : PlantData) (bytes : List ℕ) (place : ℕ) → Some place ≡ first_broken (count_fields plant bytes) → Some place ≡ first_fault plant bytes
unfolding fields_of
in_counts plant bytes place is =
    let counts = count_fields plant bytes in
    let dests = fields_of_each (destinations_of plant) (dest_fields plant bytes) in
    let groups = fields_of_each salvo_limit (group_fields plant bytes) in
    let panels = fields_of_each (length plant.panels) (panel_fields plant bytes) in
    let displays = fields_of_each (length plant.displays) (display_fields plant bytes) in
    found place (counts ++ dests ++ groups ++ panels) displays
    (found place (counts ++ dests ++ groups) panels (found place (counts ++ dests) groups (found place counts dests is)))

pub in_dests : (plant : PlantData) (bytes : List ℕ) (place : ℕ) → None ≡ first_broken (count_fields plant bytes) → Some place ≡ first_broken (fields_of_each (destinations_of plant) (dest_fields plant bytes)) → Some place ≡ first_fault plant bytes
unfolding fields_of
in_dests plant bytes place none is =
    let counts = count_fields plant bytes in
    let dests = fields_of_each (destinations_of plant) (dest_fields plant bytes) in
    let groups = fields_of_each salvo_limit (group_fields plant bytes) in
    let panels = fields_of_each (length plant.panels) (panel_fields plant bytes) in
    let displays = fields_of_each (length plant.displays) (display_fields plant bytes) in
    found place (counts ++ dests ++ groups ++ panels) displays
    (found place (counts ++ dests ++ groups) panels (found place (counts ++ dests) groups (behind (Some place) counts dests none is)))

pub in_groups : (plant : PlantData) (bytes : List ℕ) (place : ℕ) → None ≡ first_broken (count_fields plant bytes) → None ≡ first_broken (fields_of_each (destinations_of plant) (dest_fields plant bytes)) → Some place ≡ first_broken (fields_of_each salvo_limit (group_fields plant bytes)) → Some place ≡ first_fault plant bytes
unfolding fields_of
in_groups plant bytes place none none_of_dests is =
    let counts = count_fields plant bytes in
    let dests = fields_of_each (destinations_of plant) (dest_fields plant bytes) in
    let groups = fields_of_each salvo_limit (group_fields plant bytes) in
    let panels = fields_of_each (length plant.panels) (panel_fields plant bytes) in
    let displays = fields_of_each (length plant.displays) (display_fields plant bytes) in
    found place (counts ++ dests ++ groups ++ panels) displays
    (found place (counts ++ dests ++ groups) panels
    (behind (Some place) (counts ++ dests) groups (behind None counts dests none none_of_dests) is))

pub in_panels : (plant : PlantData) (bytes : List ℕ) (place : ℕ) → None ≡ first_broken (count_fields plant bytes) → None ≡ first_broken (fields_of_each (destinations_of plant) (dest_fields plant bytes)) → None ≡ first_broken (fields_of_each salvo_limit (group_fields plant bytes)) → Some place ≡ first_broken (fields_of_each (length plant.panels) (panel_fields plant bytes)) → Some place ≡ first_fault plant bytes
unfolding fields_of
in_panels plant bytes place none none_of_dests none_of_groups is =
    let counts = count_fields plant bytes in
    let dests = fields_of_each (destinations_of plant) (dest_fields plant bytes) in
    let groups = fields_of_each salvo_limit (group_fields plant bytes) in
    let panels = fields_of_each (length plant.panels) (panel_fields plant bytes) in
    let displays = fields_of_each (length plant.displays) (display_fields plant bytes) in
    found place (counts ++ dests ++ groups ++ panels) displays
    (behind (Some place) (counts ++ dests ++ groups) panels
    (behind None (counts ++ dests) groups (behind None counts dests none none_of_dests) none_of_groups) is)

pub in_displays : (plant : PlantData) (bytes : List ℕ) (answer : Option ℕ) → None ≡ first_broken (count_fields plant bytes) → None ≡ first_broken (fields_of_each (destinations_of plant) (dest_fields plant bytes)) → None ≡ first_broken (fields_of_each salvo_limit (group_fields plant bytes)) → None ≡ first_broken (fields_of_each (length plant.panels) (panel_fields plant bytes)) → answer ≡ first_broken (fields_of_each (length plant.displays) (display_fields plant bytes)) → answer ≡ first_fault plant bytes
unfolding fields_of
in_displays plant bytes answer none none_of_dests none_of_groups none_of_panels is =
    let counts = count_fields plant bytes in
    let dests = fields_of_each (destinations_of plant) (dest_fields plant bytes) in
    let groups = fields_of_each salvo_limit (group_fields plant bytes) in
    let panels = fields_of_each (length plant.panels) (panel_fields plant bytes) in
    let displays = fields_of_each (length plant.displays) (display_fields plant bytes) in
    behind answer (counts ++ dests ++ groups ++ panels) displays
    (behind None (counts ++ dests ++ groups) panels
    (behind None (counts ++ dests) groups (behind None counts dests none none_of_dests) none_of_groups) none_of_panels) is

least_by : (left short : Bool) → (if left then 0 else 1) ≤ (if left then 0 else if short then 3 else 1)
least_by true short = omega arith
least_by false true = omega arith
least_by false false = omega arith

-- what every destination may have of notices
pub few_may : (plant : PlantData) (bytes : List ℕ) (panel dest few : ℕ) → few ≡ (if byte_at bytes (place_of_panel plant panel) == 1 then 0 else 1) → few ≤ most_notices plant bytes panel dest
unfolding most_notices
few_may plant bytes panel dest few is =
    let least : (if byte_at bytes (place_of_panel plant panel) == 1 then 0 else 1) ≤ most_notices plant bytes panel dest = least_by (byte_at bytes (place_of_panel plant panel) == 1) (has_short_number plant dest) in
    subst (λ (number : ℕ). number ≤ most_notices plant bytes panel dest) (sym is) least

-- the byte of some notices, where it is at most what they may be, and where it isn't
notices_by : (holds : Bool) (place : ℕ) → holds ≡ true → None ≡ (if holds then None else Some place)
notices_by true place is = refl
notices_by false place is = absurd (cc)

pub notices_few : (plant : PlantData) (bytes : List ℕ) (panel dest few : ℕ) → byte_at bytes (place_of_notices plant panel dest) ≤ few → few ≤ most_notices plant bytes panel dest → None ≡ first_broken (notices_fields plant bytes panel dest)
unfolding notices_fields
notices_few plant bytes panel dest few is may =
    notices_by (nat_le (byte_at bytes (place_of_notices plant panel dest)) (most_notices plant bytes panel dest)) (place_of_notices plant panel dest)
    (le-leb (byte_at bytes (place_of_notices plant panel dest)) (most_notices plant bytes panel dest) (omega (arith, is, may)))

pub notices_kept : (plant : PlantData) (bytes : List ℕ) (panel dest : ℕ) → nat_le (byte_at bytes (place_of_notices plant panel dest)) (most_notices plant bytes panel dest) ≡ true → None ≡ first_broken (notices_fields plant bytes panel dest)
unfolding notices_fields
notices_kept plant bytes panel dest is = notices_by (nat_le (byte_at bytes (place_of_notices plant panel dest)) (most_notices plant bytes panel dest)) (place_of_notices plant panel dest) is

broken_by : (holds : Bool) (place : ℕ) → holds ≡ false → Some place ≡ (if holds then None else Some place)
broken_by true place is = absurd (cc)
broken_by false place is = refl

pub notices_broken : (plant : PlantData) (bytes : List ℕ) (panel dest place : ℕ) → place ≡ place_of_notices plant panel dest → nat_le (byte_at bytes (place_of_notices plant panel dest)) (most_notices plant bytes panel dest) ≡ false → Some place ≡ first_broken (notices_fields plant bytes panel dest)
unfolding notices_fields
notices_broken plant bytes panel dest place at is = ap Some at ∙ broken_by (nat_le (byte_at bytes (place_of_notices plant panel dest)) (most_notices plant bytes panel dest)) (place_of_notices plant panel dest) is
