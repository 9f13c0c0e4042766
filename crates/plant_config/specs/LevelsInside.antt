-- How the levels of a plant are noted: by matrix and level number, and by the numbers of what they have.
use Rattle.std.specs.Prelude.{◌≡◌, ℕ, ◌+◌, ◌*◌, ◌<◌, ◌≤◌, List, [], ◌∷◌, ◌++◌, All, replicate, find, sum_by, slice_get, slice_index_or, Option, None}
use Rattle.std.specs.Option.{option_and_then}
use Rattle.plant_file.specs.Ranges.{IsAtLevel}
use Rattle.plant_config.specs.declared.records.Level.{Level}
use Rattle.plant_config.specs.Limits.{matrix_limit, level_limit}
use Rattle.plant_config.specs.Plant.{Numbering, dest_numbers, source_numbers, AreNumberedFrom}
use Rattle.plant_config.specs.Sites.{level_among, has_number}

-- A level has a matrix and a number that a plant has room for.
abbrev pub IsInGrid : Level → Type 0
IsInGrid level = IsAtLevel level.matrix level.level

-- where a matrix and a level number are noted
abbrev pub place_of : ℕ → ℕ → ℕ
place_of matrix level = matrix * level_limit + level

-- the level that is noted at a place, where one is
abbrev pub noted_at : List Level → List (Option ℕ) → ℕ → Option Level
noted_at levels places place = option_and_then (slice_get levels) (slice_index_or places place None)

-- Of these levels, what is noted of each matrix and level number is its level among those.
abbrev pub AreNotedOf : List Level → List (Option ℕ) → List Level → Type 0
AreNotedOf levels places those =
    (matrix level : ℕ) → matrix < matrix_limit → level < level_limit
    → noted_at levels places (place_of matrix level) ≡ level_among those matrix level

-- The levels are such as are noted, and each is.
pub record AreNoted (levels : List Level) (places : List (Option ℕ)) : Type 0 where
  pub in_grid : All IsInGrid levels
  pub noted : AreNotedOf levels places levels

-- The levels have these numbers from 0 on, one level behind the other, and no more than so many in all.
pub record AreNumbered (numbers : Numbering) (limit : ℕ) (levels : List Level) : Type 0 where
  pub follow : AreNumberedFrom numbers 0 levels
  pub few : sum_by numbers.count levels ≤ limit

-- the indices from this one on, each as often as its count says
abbrev pub indices_from : ℕ → List ℕ → List ℕ
indices_from index [] = []
indices_from index (count ∷ counts) = replicate count index ++ indices_from (index + 1) counts

-- the level whose index stands at a number, where one does
abbrev pub level_by : List Level → List ℕ → ℕ → Option Level
level_by levels indices number = option_and_then (slice_get levels) (slice_get indices number)

-- At each number stands the index of the level that has it, and none where no level does.
abbrev pub LeadToLevels : Numbering → List Level → List ℕ → Type 0
LeadToLevels numbers levels indices =
    (number : ℕ) → level_by levels indices number ≡ find (has_number numbers number) levels

-- The levels are noted by matrix and level number, by their destinations and by their sources.
pub record AreFound (levels : List Level) (places : List (Option ℕ))
    (of_dests of_sources : List ℕ) : Type 0 where
  pub noted : AreNoted levels places
  pub dests : LeadToLevels dest_numbers levels of_dests
  pub sources : LeadToLevels source_numbers levels of_sources
