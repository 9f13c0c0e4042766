-- By which way a remote source comes: a pool of tie-lines, and the local source at its far end.
use Rattle.std.specs.Prelude.{ℕ, nat_eq, Bool, ◌&&◌, find, length, Option, Some}
use Rattle.std.specs.List.{range_with_len}
use Rattle.std.specs.Option.{option_and_then, option_eq}
use Rattle.plant_config.specs.Plant.{PlantData}
use Rattle.plant_config.specs.Sources.{origin_of, pool_of}

-- A source comes by a pool from an origin where that pool leads to it and it stands for that one.
abbrev pub comes_by : PlantData → ℕ → ℕ → ℕ → Bool
comes_by plant pool origin source =
    option_eq nat_eq (pool_of plant source) (Some pool)
    && option_eq nat_eq (origin_of plant source) (Some origin)

-- the number of the way by a pool from an origin: the lowest source that comes so
unfoldable pub way_of : PlantData → ℕ → ℕ → Option ℕ
way_of plant pool origin =
    find (comes_by plant pool origin) (range_with_len 0 (length plant.sources))

-- the way of a source, none where the source is local
abbrev pub source_way : PlantData → ℕ → Option ℕ
source_way plant source =
    option_and_then
    (λ pool. option_and_then (way_of plant pool) (origin_of plant source))
    (pool_of plant source)
