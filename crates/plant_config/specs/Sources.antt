-- What a plant says of a source, or of a destination, by its number.
use Rattle.std.specs.Prelude.{ℕ, List, slice_get, Option}
use Rattle.std.specs.Option.{option_map, option_and_then}
use Rattle.plant_config.specs.declared.records.Source.{Source}
use Rattle.plant_config.specs.Plant.{PlantData}

-- the local source that a source stands for, itself where it is local
abbrev pub origin_of : PlantData → ℕ → Option ℕ
origin_of plant source =
    option_map (λ (found : Source). found.origin) (slice_get plant.sources source)

-- the pool of tie-lines that leads to a source, `None` where it is local
abbrev pub pool_of : PlantData → ℕ → Option ℕ
pool_of plant source =
    option_and_then (λ (found : Source). found.pool) (slice_get plant.sources source)

-- the name of a source, and of a destination
abbrev pub source_name_of : PlantData → ℕ → Option (List ℕ)
source_name_of plant source =
    option_map (λ (found : Source). found.name) (slice_get plant.sources source)

abbrev pub dest_name_of : PlantData → ℕ → Option (List ℕ)
dest_name_of plant dest = slice_get plant.dest_names dest
