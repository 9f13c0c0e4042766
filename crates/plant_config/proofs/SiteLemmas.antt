-- Numbers and their places, said of destinations and of sources at once: `numbers` are either, and `AreOf` says what a
-- plant has for both.
use Rattle.std.proofs.Common.{◌≡◌, ℕ, ◌+◌, ◌-◌, ◌<◌, ◌≤◌, ◌==◌, Bool, true, false, cond, ◌&&◌, find, Option, Some, None, IsSome, refl, ap, subst, arith, if◌then◌else◌, nat_lt, nat_le}
use Rattle.std.specs.Option.{option_map, option_and_then}
use Rattle.std.proofs.lemmas.Bool.{and_parts, eqb-true, leb-true, ltb-true, lt-ltb}
use Rattle.plant_config.specs.declared.records.Level.{Level}
use Rattle.plant_config.specs.declared.records.Point.{Point}
use Rattle.plant_config.specs.Plant.{PlantData, Numbering, dest_numbers, source_numbers, total, destinations_of, sources_of, AreNumberedFrom}
use Rattle.plant_config.specs.IsPlant.{HasSome, IsLevel, IsPlant}
use Rattle.plant_config.specs.Sites.{Site, level_at, number_at, has_number, level_of, site_of, dest_at, source_at, point_of, source_number_of, IsSite, LeadBothWays}
use Rattle.plant_config.proofs.Found.{All-find, find-passes}
use Rattle.plant_config.proofs.Order.{find-is_at}
use Rattle.plant_config.proofs.Numbering.{find-IsWithin, find-has_number, IsSome-find}

-- The levels of a plant have these numbers, one level behind the other, and each level has some within the limit.
pub record AreOf (numbers : Numbering) (plant : PlantData) : Type 0 where
  pub is : IsPlant plant
  pub numbered : AreNumberedFrom numbers 0 plant.levels
  pub some : (at : Level) → IsLevel at → HasSome numbers at

pub dests_are : (plant : PlantData) → IsPlant plant → AreOf dest_numbers plant
dests_are plant is = record { is = is; numbered = is.dests_numbered; some = λ at level. level.destinations }

pub sources_are : (plant : PlantData) → IsPlant plant → AreOf source_numbers plant
sources_are plant is = record { is = is; numbered = is.sources_numbered; some = λ at level. level.sources }

-- A number is among those of its level.
pub record IsOf (numbers : Numbering) (at : Level) (number : ℕ) : Type 0 where
  pub low : numbers.first at ≤ number
  pub high : number < numbers.first at + numbers.count at
  pub most : numbers.count at ≤ numbers.limit
  pub level : IsLevel at

-- the level of a place has its matrix and its level number
level_at-is : (plant : PlantData) (matrix number : ℕ) (at : Level) → level_at plant matrix number ≡ Some at → (at.matrix ≡ matrix) × (at.level ≡ number)
level_at-is plant matrix number at found =
    let passes = and_parts (at.matrix == matrix) (at.level == number) (find-passes (λ (level : Level). level.matrix == matrix && level.level == number) plant.levels at found) in
    (eqb-true at.matrix matrix passes.0, eqb-true at.level number passes.1)

module _ (numbers : Numbering) (plant : PlantData) (are : AreOf numbers plant) where
  -- the numbers of a level that is found are below the count of all
  pub numbers_within : (test : Level → Bool) (at : Level) → find test plant.levels ≡ Some at → numbers.first at + numbers.count at ≤ total numbers plant
  numbers_within test at found =
      let within = find-IsWithin numbers test 0 plant.levels at are.numbered found in
      omega (arith, within.1)

  -- a number below the count of all has a level
  pub IsSome-level_of : (number : ℕ) → number < total numbers plant → IsSome (level_of numbers plant number)
  IsSome-level_of number below = IsSome-find numbers 0 plant.levels number are.numbered (omega arith) (omega arith)

  pub level_of-is : (number : ℕ) (at : Level) → level_of numbers plant number ≡ Some at → IsOf numbers at number
  level_of-is number at found =
      let passes = and_parts (nat_le (numbers.first at) number) (nat_lt number (numbers.first at + numbers.count at)) (find-passes (has_number numbers number) plant.levels at found) in
      let level = All-find IsLevel (has_number numbers number) plant.levels at are.is.each_level found in
      record {
        low = leb-true (numbers.first at) number passes.0;
        high = ltb-true number (numbers.first at + numbers.count at) passes.1;
        most = (are.some at level).most;
        level = level;
      }

-- a place is of a level that has its number
numbered_at : (numbers : Numbering) (found : Option Level) (number of_plant : ℕ) →
    option_and_then (λ at. if nat_lt number (numbers.count at) then Some (numbers.first at + number) else None) found ≡ Some of_plant →
    (at : Level) × (found ≡ Some at) × (number < numbers.count at) × (numbers.first at + number ≡ of_plant)
numbered_at numbers None number of_plant h = cc
numbered_at numbers (Some at) number of_plant h =
    elim (nat_lt number (numbers.count at)) as (λ b. nat_lt number (numbers.count at) ≡ b → cond b (Some (numbers.first at + number)) None ≡ Some of_plant → (at' : Level) × (Some at ≡ Some at') × (number < numbers.count at') × (numbers.first at' + number ≡ of_plant)) [
      | true ↦ λ below e. (at, refl, ltb-true number (numbers.count at) below, cc)
      | false ↦ λ above e. cc
    ] refl h

-- a number's place is of a level that has it
placed_of : (numbers : Numbering) (found : Option Level) (number : ℕ) (place : Site) →
    option_map (λ (at : Level). let p : Site = record { matrix = at.matrix; level = at.level; number = number - numbers.first at } in p) found ≡ Some place →
    (at : Level) × (found ≡ Some at) × (let p : Site = record { matrix = at.matrix; level = at.level; number = number - numbers.first at } in p ≡ place)
placed_of numbers None number place h = cc
placed_of numbers (Some at) number place h = (at, refl, cc)

module _ (numbers : Numbering) (plant : PlantData) (are : AreOf numbers plant) where
  pub number_at-site_of : (matrix level number found : ℕ) → number_at numbers plant matrix level number ≡ Some found →
      site_of numbers plant found ≡ Some (record { matrix = matrix; level = level; number = number })
  number_at-site_of matrix level number found h =
      let place = numbered_at numbers (level_at plant matrix level) number found h in
      let at : Level = place.0 in
      let has : level_of numbers plant found ≡ Some at = find-has_number numbers (λ (at : Level). at.matrix == matrix && at.level == level) 0 plant.levels at found are.numbered place.1 (omega (arith, place.3)) (omega (arith, place.2, place.3)) in
      let same = level_at-is plant matrix level at place.1 in
      let number_is : found - numbers.first at ≡ number = omega (arith, place.3) in
      rw has (λ i. Some (record { matrix = same.0 i; level = same.1 i; number = number_is i }))

  pub number_at-below : (matrix level number found : ℕ) → number_at numbers plant matrix level number ≡ Some found → found < total numbers plant
  number_at-below matrix level number found h =
      let place = numbered_at numbers (level_at plant matrix level) number found h in
      omega (arith, place.2, place.3, numbers_within numbers plant are _ place.0 place.1)

  pub site_of-number_at : (found : ℕ) (at : Site) → site_of numbers plant found ≡ Some at → number_at numbers plant at.matrix at.level at.number ≡ Some found
  site_of-number_at found at h =
      let place = placed_of numbers (level_of numbers plant found) found at h in
      let level : Level = place.0 in
      let among = level_of-is numbers plant are found level place.1 in
      let back : numbers.first level + (found - numbers.first level) ≡ found = omega (arith, among.low) in
      subst (λ (at : Site). number_at numbers plant at.matrix at.level at.number ≡ Some found) place.2
      (rw (find-is_at (has_number numbers found) plant.levels level are.is.in_order place.1, lt-ltb (found - numbers.first level) (numbers.count level) (omega (arith, among.low, among.high))) (ap Some back))

  pub IsSome-site_of : (found : ℕ) → found < total numbers plant → IsSome (site_of numbers plant found)
  IsSome-site_of found below =
      elim (level_of numbers plant found) as (λ o. IsSome o → IsSome (option_map (λ (at : Level). let p : Site = record { matrix = at.matrix; level = at.level; number = found - numbers.first at } in p) o)) [
        | None ↦ λ h. h
        | Some at ↦ λ h. refl
      ] (IsSome-level_of numbers plant are found below)

  pub site_of-IsSite : (found : ℕ) (at : Site) → site_of numbers plant found ≡ Some at → IsSite numbers at
  site_of-IsSite found at h =
      let place = placed_of numbers (level_of numbers plant found) found at h in
      let among = level_of-is numbers plant are found place.0 place.1 in
      subst (IsSite numbers) place.2 (record { matrix = among.level.matrix; level = among.level.level; number = omega (arith, among.low, among.high, among.most) })

  pub lead_both_ways : LeadBothWays numbers plant
  lead_both_ways = record {
    place = number_at-site_of;
    number = site_of-number_at;
    below = number_at-below;
    placed = IsSome-site_of;
    in_range = site_of-IsSite;
  }

-- what the crates above use of destinations and of sources
pub dest_at-point_of : (plant : PlantData) (matrix level number dest : ℕ) → IsPlant plant → dest_at plant matrix level number ≡ Some dest →
    point_of plant dest ≡ Some (record { matrix = matrix; level = level; dest = number })
dest_at-point_of plant matrix level number dest is h =
    ap (option_map (λ (at : Site). let p : Point = record { matrix = at.matrix; level = at.level; dest = at.number } in p)) (number_at-site_of dest_numbers plant (dests_are plant is) matrix level number dest h)

pub dest_at-below : (plant : PlantData) (matrix level number dest : ℕ) → IsPlant plant → dest_at plant matrix level number ≡ Some dest → dest < destinations_of plant
dest_at-below plant matrix level number dest is h = number_at-below dest_numbers plant (dests_are plant is) matrix level number dest h

pub source_at-source_number_of : (plant : PlantData) (matrix level number source : ℕ) → IsPlant plant → source_at plant matrix level number ≡ Some source → source_number_of plant source ≡ Some number
source_at-source_number_of plant matrix level number source is h =
    ap (option_map (λ (at : Site). at.number)) (number_at-site_of source_numbers plant (sources_are plant is) matrix level number source h)

pub source_at-below : (plant : PlantData) (matrix level number source : ℕ) → IsPlant plant → source_at plant matrix level number ≡ Some source → source < sources_of plant
source_at-below plant matrix level number source is h = number_at-below source_numbers plant (sources_are plant is) matrix level number source h
