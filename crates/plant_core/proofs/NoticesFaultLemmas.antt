-- The first notices of a panel that are more than they may be, 64 destinations at once.
use Rattle.std.proofs.Common.{◌≡◌, ℕ, ◌+◌, ◌-◌, ◌<◌, ◌≤◌, ◌==◌, zero, suc, Bool, true, false, if◌then◌else◌, List, Option, Some, None, IsSome, inl, inr, refl, ap, sym, ◌∙◌, arith}
use Rattle.std.proofs.lemmas.Bool.{cases_lt, lt-ltb, le-leb}
use Rattle.std.proofs.lemmas.List.Concat.{flat_map-append}
use Rattle.std.specs.List.{flat_map, range_with_len}
use Rattle.std.specs.Option.{option_map, option_map_or}
use Rattle.plant_config.specs.IsPlant.{IsPlant}
use Rattle.plant_config.specs.Plant.{PlantData, dest_numbers, destinations_of}
use Rattle.plant_config.specs.Sites.{Site, has_number, level_of, point_of}
use Rattle.plant_config.specs.declared.records.Level.{Level}
use Rattle.plant_config.specs.declared.records.Point.{Point}
use Rattle.plant_config.proofs.Numbering.{find-has_number}
use Rattle.plant_config.proofs.SiteLemmas.{dests_are, level_of-is, IsSome-level_of}
use Rattle.plant_core.specs.Wide.{is_short_dest}
use Rattle.plant_core.specs.StateFault.{Field, first_broken, fields_of_each, notices_fields, most_notices, has_short_number}
use Rattle.plant_core.specs.StateFields.{byte_at, place_of_panel, place_of_notices}
use Rattle.plant_core.proofs.FaultLemmas.{range-append, found_before, none_more, notices_kept}

-- the first among some is the first among more
pub found_below : (number count place : ℕ) (fields : ℕ → List Field) → number ≤ count → Some place ≡ first_broken (fields_of_each number fields) → Some place ≡ first_broken (fields_of_each count fields)
unfolding fields_of_each
found_below number count place fields below here =
    let parts : count ≡ number + (count - number) = omega arith in
    let rest = range_with_len (0 + number) (count - number) in
    sym (
    ap (λ (all : ℕ). first_broken (flat_map fields (range_with_len 0 all))) parts
    ∙ ap (λ numbers. first_broken (flat_map fields numbers)) (range-append 0 number (count - number))
    ∙ ap first_broken (flat_map-append fields (range_with_len 0 number) rest)
    ∙ found_before place (flat_map fields (range_with_len 0 number)) (flat_map fields rest) (sym here)
    )

-- many numbers more, whose fields hold
pub none_many : (first count : ℕ) (fields : ℕ → List Field) → first_broken (fields_of_each first fields) ≡ None → ((more : ℕ) → more < count → None ≡ first_broken (fields (first + more))) → first_broken (fields_of_each (first + count) fields) ≡ None
none_many first zero fields before each =
    let same : first + zero ≡ first = omega arith in
    ap (λ (number : ℕ). first_broken (fields_of_each number fields)) same ∙ before
none_many first (suc count) fields before each =
    let next : first + suc count ≡ first + count + 1 = omega arith in
    ap (λ (number : ℕ). first_broken (fields_of_each number fields)) next
    ∙ none_more (first + count) fields (none_many first count fields before (λ more below. each more (omega (arith, below)))) (each count (omega arith))

-- the level of a destination, and its number there
point_in : (dest : ℕ) (level : Option Level) (at : Point) →
    option_map (λ (place : Site). let p : Point = record { matrix = place.matrix; level = place.level; dest = place.number } in p)
    (option_map (λ (found : Level). let p : Site = record { matrix = found.matrix; level = found.level; number = dest - found.first_dest } in p) level) ≡ Some at →
    (found : Level) × (level ≡ Some found) × (dest - found.first_dest ≡ at.dest)
point_in dest None at is = absurd (cc)
point_in dest (Some found) at is =
    let same : (let p : Point = record { matrix = found.matrix; level = found.level; dest = dest - found.first_dest } in p) ≡ at = cc in
    (found, refl, ap (λ (p : Point). p.dest) same)

short_in : (dest : ℕ) (level : Option Level) → IsSome level → ((found : Level) → level ≡ Some found → dest - found.first_dest < 1024) →
    option_map_or (λ (at : Point). is_short_dest at.dest)
    (option_map (λ (place : Site). let p : Point = record { matrix = place.matrix; level = place.level; dest = place.number } in p)
    (option_map (λ (found : Level). let p : Site = record { matrix = found.matrix; level = found.level; number = dest - found.first_dest } in p) level)) false ≡ true
short_in dest None some low = absurd (cc)
short_in dest (Some found) some low = lt-ltb (dest - found.first_dest) 1024 (low found refl)

-- the number of a later destination is greater by no more than the later one is
number_near : (plant : PlantData) (first more : ℕ) (level found : Level) → IsPlant plant → level_of dest_numbers plant first ≡ Some level → level_of dest_numbers plant (first + more) ≡ Some found →
    first + more - found.first_dest ≤ first - level.first_dest + more
number_near plant first more level found is here there =
    let are = dests_are plant is in
    let among = level_of-is dest_numbers plant are first level here in
    let later = level_of-is dest_numbers plant are (first + more) found there in
    elim (cases_lt first found.first_dest) [
      | inl before ↦ omega (arith, before)
      | inr from ↦
          let one : level_of dest_numbers plant first ≡ Some found = find-has_number dest_numbers (has_number dest_numbers (first + more)) 0 plant.levels found first are.numbered there from (omega (arith, later.high)) in
          let same : level ≡ found = cc in
          omega (arith, from, ap (λ (at : Level). at.first_dest) same)
    ]

pub short_near : (plant : PlantData) (first more : ℕ) (at : Point) → IsPlant plant → point_of plant first ≡ Some at → at.dest + more < 1024 → first + more < destinations_of plant → has_short_number plant (first + more) ≡ true
unfolding has_short_number
short_near plant first more at is placed low below =
    let here = point_in first (level_of dest_numbers plant first) at placed in
    short_in (first + more) (level_of dest_numbers plant (first + more)) (IsSome-level_of dest_numbers plant (dests_are plant is) (first + more) below)
    (λ found there. omega (arith, low, here.2, number_near plant first more here.0 found is here.1 there))

-- Notices of a panel that is there hold up to 3 where the number is short.
most_by : (left short : Bool) → (let few : ℕ = if left then 0 else 1 in few) ≡ 1 → short ≡ true → (let most : ℕ = if left then 0 else if short then 3 else 1 in most) ≡ 3
most_by true short stays is = absurd (omega (arith, stays))
most_by false true stays is = refl
most_by false false stays is = absurd (cc)

pub notices_short : (plant : PlantData) (bytes : List ℕ) (panel dest : ℕ) → (let few : ℕ = if byte_at bytes (place_of_panel plant panel) == 1 then 0 else 1 in few) ≡ 1 → has_short_number plant dest ≡ true → byte_at bytes (place_of_notices plant panel dest) ≤ 3 → None ≡ first_broken (notices_fields plant bytes panel dest)
unfolding most_notices
notices_short plant bytes panel dest stays short few =
    let most : most_notices plant bytes panel dest ≡ 3 = most_by (byte_at bytes (place_of_panel plant panel) == 1) (has_short_number plant dest) stays short in
    notices_kept plant bytes panel dest (le-leb (byte_at bytes (place_of_notices plant panel dest)) (most_notices plant bytes panel dest) (omega (arith, few, most)))

pub few_top : (left : Bool) → (let few : ℕ = if left then 0 else 1 in few) ≤ 1
few_top true = omega arith
few_top false = omega arith
