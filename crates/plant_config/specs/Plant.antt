-- What a plant is, as plain data.
use Rattle.std.specs.Prelude.{◌≡◌, ℕ, ◌+◌, List, [], ◌∷◌, sum_by}
use Rattle.plant_file.specs.declared.entries.Server.{Server}
use Rattle.plant_config.specs.declared.records.Level.{Level}
use Rattle.plant_config.specs.declared.records.Source.{Source}
use Rattle.plant_config.specs.declared.records.Pool.{Pool}
use Rattle.plant_config.specs.declared.records.Device.{Device}
use Rattle.plant_config.specs.declared.records.Bus.{Bus}
use Rattle.plant_config.specs.declared.records.Display.{Display}
use Rattle.plant_config.specs.declared.records.Panel.{Panel}
use Rattle.plant_config.specs.Limits.{level_source_limit, level_destination_limit}

-- A plant. Its levels are in the order matrix, level; all else is in the order of its numbers.
pub record PlantData : Type 0 where
  pub title : List ℕ
  pub server : Server
  pub levels : List Level
  pub sources : List Source
  pub dest_names : List (List ℕ)
  pub pools : List Pool
  pub devices : List Device
  pub buses : List Bus
  pub air : List ℕ
  pub preview : List ℕ
  pub displays : List Display
  pub panels : List Panel

-- Destinations and sources are numbered alike over the whole plant: the numbers of a level's are those from its `first`
-- one on, `count` of them, and `limit` is the most that a level has.
pub record Numbering : Type 0 where
  pub first : Level → ℕ
  pub count : Level → ℕ
  pub limit : ℕ

abbrev pub dest_numbers : Numbering
dest_numbers =
    record {
      first = λ level. level.first_dest;
      count = λ level. level.destinations;
      limit = level_destination_limit;
    }

abbrev pub source_numbers : Numbering
source_numbers =
    record {
      first = λ level. level.first_source;
      count = λ level. level.sources;
      limit = level_source_limit;
    }

-- how many a plant has in all
abbrev pub total : Numbering → PlantData → ℕ
total numbers plant = sum_by numbers.count plant.levels

abbrev pub destinations_of : PlantData → ℕ
destinations_of = total dest_numbers

abbrev pub sources_of : PlantData → ℕ
sources_of = total source_numbers

-- The numbers of the levels follow one another, from this number on.
abbrev pub AreNumberedFrom : Numbering → ℕ → List Level → Type 0
AreNumberedFrom numbers from [] = Unit {0}
AreNumberedFrom numbers from (level ∷ levels) =
    (numbers.first level ≡ from) × AreNumberedFrom numbers (from + numbers.count level) levels
