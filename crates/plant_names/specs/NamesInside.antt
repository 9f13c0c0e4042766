-- How names are kept: in a table of all levels that a plant may have, and one of the lowest levels of all matrices.
use Rattle.std.specs.Prelude.{◌≡◌, ℕ, ◌+◌, ◌/◌, ◌%◌, ◌<◌, ◌≤◌, List, All, length, slice_get, Option, Some}
use Rattle.std.specs.Option.{option_map}
use Rattle.plant_file.specs.Ranges.{IsName}
use Rattle.plant_config.specs.declared.records.Level.{Level}
use Rattle.plant_config.specs.Limits.{level_destination_limit, all_sources_limit, all_destinations_limit}
use Rattle.plant_config.specs.Plant.{PlantData}
use Rattle.plant_config.specs.IsPlant.{IsPlant}
use Rattle.plant_config.specs.Sites.{level_at}
use Rattle.plant_config.specs.NamesOfLevel.{source_names, dest_names}
use Rattle.plant_names.specs.Pages.{lowest_level}

-- a level with its names
pub record Named : Type 0 where
  pub at : Level
  pub sources : List (List ℕ)
  pub dests : List (List ℕ)

-- a level with the names that a plant gives it
abbrev pub named : PlantData → Level → Named
named plant at = record { at = at; sources = source_names plant at; dests = dest_names plant at }

-- A level and its names are within the limits of a plant.
pub record IsNamed (names : Named) : Type 0 where
  pub each_source : All IsName names.sources
  pub each_dest : All IsName names.dests
  pub source_count : length names.sources ≤ level_destination_limit
  pub dest_count : length names.dests ≤ level_destination_limit
  pub sources_end : names.at.first_source + length names.sources ≤ all_sources_limit
  pub dests_end : names.at.first_dest + length names.dests ≤ all_destinations_limit

-- the level at a place of the table, where a plant has it
abbrev pub placed : PlantData → ℕ → Option Named
placed plant place = option_map (named plant) (level_at plant (place / 16) (place % 16))

-- A table has so many entries, each made of its place.
pub record IsTable {X : Type 0} (entry : ℕ → X) (count : ℕ) (entries : List X) : Type 0 where
  pub size : length entries ≡ count
  pub each : (place : ℕ) → place < count → slice_get entries place ≡ Some (entry place)

-- Tables are those of a plant.
pub record IsIndex (plant : PlantData) (levels : List (Option Named))
    (lowest : List (Option Level)) : Type 0 where
  pub is : IsPlant plant
  pub all_levels : IsTable (placed plant) 256 levels
  pub lowest_levels : IsTable (lowest_level plant) 16 lowest
