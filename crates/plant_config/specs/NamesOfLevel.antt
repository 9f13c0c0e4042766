-- The names of what a level has.
use Rattle.std.specs.Prelude.{ℕ, List, map, take, drop}
use Rattle.plant_config.specs.declared.records.Level.{Level}
use Rattle.plant_config.specs.Plant.{PlantData}

-- the names of a level's sources, and of its destinations, in the order of their numbers
abbrev pub source_names : PlantData → Level → List (List ℕ)
source_names plant at =
    map (λ source. source.name) (take at.sources (drop at.first_source plant.sources))

abbrev pub dest_names : PlantData → Level → List (List ℕ)
dest_names plant at = take at.destinations (drop at.first_dest plant.dest_names)
