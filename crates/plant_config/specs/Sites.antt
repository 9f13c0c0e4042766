-- Where the destinations and sources of a plant are, and how their numbers say so. All is said once, for both.
use Rattle.std.specs.Prelude.{◌≡◌, ℕ, ◌+◌, ◌-◌, ◌<◌, ◌==◌, ◌&&◌, nat_lt, nat_le, Bool, if◌then◌else◌, List, find, Option, Some, None, IsSome}
use Rattle.std.specs.Option.{option_map, option_and_then}
use Rattle.plant_config.specs.declared.records.Level.{Level}
use Rattle.plant_config.specs.declared.records.Point.{Point}
use Rattle.plant_config.specs.Limits.{matrix_limit, level_limit}
use Rattle.plant_config.specs.Plant.{PlantData, Numbering, dest_numbers, source_numbers, total}

-- a destination or a source by its level, and its number in that level
pub record Site : Type 0 where
  pub matrix : ℕ
  pub level : ℕ
  pub number : ℕ

-- the level of this matrix and this level number
abbrev pub level_among : List Level → ℕ → ℕ → Option Level
level_among levels matrix number =
    find (λ level. level.matrix == matrix && level.level == number) levels

abbrev pub level_at : PlantData → ℕ → ℕ → Option Level
level_at plant = level_among plant.levels

-- the number in the whole plant of what has this number at a level, `None` where the plant has no such level or the
-- level no such number
abbrev pub number_among : Numbering → List Level → ℕ → ℕ → ℕ → Option ℕ
number_among numbers levels matrix level number =
    option_and_then
    (λ at. if nat_lt number (numbers.count at) then Some (numbers.first at + number) else None)
    (level_among levels matrix level)

abbrev pub number_at : Numbering → PlantData → ℕ → ℕ → ℕ → Option ℕ
number_at numbers plant = number_among numbers plant.levels

-- whether a number of the whole plant is among those of a level
abbrev pub has_number : Numbering → ℕ → Level → Bool
has_number numbers number level =
    nat_le (numbers.first level) number && nat_lt number (numbers.first level + numbers.count level)

-- the level that has a number
abbrev pub level_of : Numbering → PlantData → ℕ → Option Level
level_of numbers plant number = find (has_number numbers number) plant.levels

-- the place of what has a number
abbrev pub site_of : Numbering → PlantData → ℕ → Option Site
site_of numbers plant number =
    option_map (λ at. record {
      matrix = at.matrix;
      level = at.level;
      number = number - numbers.first at;
    }) (level_of numbers plant number)

-- the number of a destination by its place, and of a source by its place
abbrev pub dest_at : PlantData → ℕ → ℕ → ℕ → Option ℕ
dest_at = number_at dest_numbers

abbrev pub source_at : PlantData → ℕ → ℕ → ℕ → Option ℕ
source_at = number_at source_numbers

-- the place of a destination
abbrev pub point_of : PlantData → ℕ → Option Point
point_of plant dest =
    option_map (λ place. record { matrix = place.matrix; level = place.level; dest = place.number })
    (site_of dest_numbers plant dest)

-- the number of a source in its level
abbrev pub source_number_of : PlantData → ℕ → Option ℕ
source_number_of plant source =
    option_map (λ place. place.number) (site_of source_numbers plant source)

-- A place is within the limits of a plant.
pub record IsSite (numbers : Numbering) (at : Site) : Type 0 where
  pub matrix : at.matrix < matrix_limit
  pub level : at.level < level_limit
  pub number : at.number < numbers.limit

-- The number that a place has leads back to that place, so no two places have one number.
abbrev pub NumbersLeadBack : Numbering → PlantData → Type 0
NumbersLeadBack numbers plant =
    (matrix level number found : ℕ) → number_at numbers plant matrix level number ≡ Some found
    → site_of numbers plant found
    ≡ Some (record { matrix = matrix; level = level; number = number })

-- The place that a number has leads back to that number, so no place has two.
abbrev pub PlacesLeadBack : Numbering → PlantData → Type 0
PlacesLeadBack numbers plant = (found : ℕ) (at : Site) → site_of numbers plant found ≡ Some at
    → number_at numbers plant at.matrix at.level at.number ≡ Some found

-- The number of each place is below the count of all.
abbrev pub NumbersAreBelow : Numbering → PlantData → Type 0
NumbersAreBelow numbers plant =
    (matrix level number found : ℕ) → number_at numbers plant matrix level number ≡ Some found
    → found < total numbers plant

-- Each number below the count of all has a place.
abbrev pub NumbersHavePlaces : Numbering → PlantData → Type 0
NumbersHavePlaces numbers plant =
    (found : ℕ) → found < total numbers plant → IsSome (site_of numbers plant found)

-- The place of each number is within its limits.
abbrev pub PlacesAreInRange : Numbering → PlantData → Type 0
PlacesAreInRange numbers plant =
    (found : ℕ) (at : Site) → site_of numbers plant found ≡ Some at → IsSite numbers at

-- A number leads to its place and back, so no two places have one number, and no place has two. The numbers are those
-- below the count of all, and the places are within their limits.
pub record LeadBothWays (numbers : Numbering) (plant : PlantData) : Type 0 where
  pub place : NumbersLeadBack numbers plant
  pub number : PlacesLeadBack numbers plant
  pub below : NumbersAreBelow numbers plant
  pub placed : NumbersHavePlaces numbers plant
  pub in_range : PlacesAreInRange numbers plant
