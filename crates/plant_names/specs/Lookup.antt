-- What names lead to.
use Rattle.std.specs.Prelude.{ℕ, ◌+◌, bytes_eq, List, Option}
use Rattle.std.specs.Option.{option_map, option_and_then}
use Rattle.std.specs.List.{position}
use Rattle.plant_config.specs.Plant.{PlantData}
use Rattle.plant_config.specs.Sites.{level_at}
use Rattle.plant_config.specs.NamesOfLevel.{source_names, dest_names}

-- the first place of a name among some names
abbrev pub place_among : List ℕ → List (List ℕ) → Option ℕ
place_among name names = position (bytes_eq name) names

-- the source of this name at a level, and the destination: none where the plant has no such level or the level no such name
abbrev pub source_named : PlantData → ℕ → ℕ → List ℕ → Option ℕ
source_named plant matrix level name =
    option_and_then
    (λ at. option_map (λ place. at.first_source + place)
    (place_among name (source_names plant at))) (level_at plant matrix level)

abbrev pub dest_named : PlantData → ℕ → ℕ → List ℕ → Option ℕ
dest_named plant matrix level name =
    option_and_then
    (λ at. option_map (λ place. at.first_dest + place) (place_among name (dest_names plant at)))
    (level_at plant matrix level)
