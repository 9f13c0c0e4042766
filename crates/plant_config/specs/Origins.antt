-- Where the pictures of a plant's sources come from, and what its buses are.
use Rattle.std.specs.Prelude.{◌≡◌, ◌≢◌, ℕ, true, slice_get, Option, Some}
use Rattle.std.specs.Option.{option_map}
use Rattle.plant_config.specs.declared.records.Pool.{Pool}
use Rattle.plant_config.specs.declared.records.Bus.{Bus}
use Rattle.plant_config.specs.Plant.{PlantData, source_numbers}
use Rattle.plant_config.specs.Sites.{Site, site_of}
use Rattle.plant_config.specs.Sources.{origin_of, pool_of}
use Rattle.plant_config.specs.IsPlant.{is_local, IsSomeSo}

-- A source is one of a level of a matrix.
abbrev pub IsSourceOf : PlantData → ℕ → ℕ → ℕ → Type 0
IsSourceOf plant matrix level source =
    IsSomeSo (site_of source_numbers plant source)
    (λ (at : Site). (at.matrix ≡ matrix) × (at.level ≡ level))

-- Each source stands for a local one.
abbrev pub EachOriginIsLocal : PlantData → Type 0
EachOriginIsLocal plant =
    (source origin : ℕ) → origin_of plant source ≡ Some origin → is_local plant origin ≡ true

-- A local source stands for itself.
abbrev pub LocalsAreOrigins : PlantData → Type 0
LocalsAreOrigins plant =
    (source : ℕ) → is_local plant source ≡ true → origin_of plant source ≡ Some source

-- A picture comes from a router's own source.
pub record OriginsAreLocal (plant : PlantData) : Type 0 where
  pub local : EachOriginIsLocal plant
  pub own : LocalsAreOrigins plant

-- A pool leads from the matrix of the one source to that of the other, another matrix, at the level of both.
pub record LeadsAcross (plant : PlantData) (origin source : ℕ) (pool : Pool) : Type 0 where
  pub from : IsSourceOf plant pool.from pool.level origin
  pub to : IsSourceOf plant pool.to pool.level source
  pub across : pool.from ≢ pool.to

-- The pool of each remote source leads to it from the source that it stands for.
abbrev pub PoolsLeadAcross : PlantData → Type 0
PoolsLeadAcross plant = (source origin pool : ℕ) → origin_of plant source ≡ Some origin
    → pool_of plant source ≡ Some pool
    → IsSomeSo (slice_get plant.pools pool) (LeadsAcross plant origin source)

-- the destination that a bus is
abbrev pub bus_dest_of : PlantData → ℕ → Option ℕ
bus_dest_of plant bus = option_map (λ (found : Bus). found.dest) (slice_get plant.buses bus)

-- No destination is two buses.
abbrev pub BusesDiffer : PlantData → Type 0
BusesDiffer plant = (first second dest : ℕ) → bus_dest_of plant first ≡ Some dest
    → bus_dest_of plant second ≡ Some dest → first ≡ second
