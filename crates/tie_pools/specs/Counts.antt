-- What is kept of the ties beside the crosspoints: counts and tables that say the same as they do.
use Rattle.std.specs.Prelude.{◌≡◌, ℕ, ◌==◌, nat_lt, ◌&&◌, List, length, map, slice_index_or, Some, refl}
use Rattle.std.specs.List.{count_by}
use Rattle.std.specs.Option.{option_map_or}
use Rattle.std.specs.Ordering.{nat_cmp}
use Rattle.std.specs.Coded.{Coded, code_by, coded×, coded_ℕ, coded_list}
use Rattle.std.specs.FinMap.{get, code}
use Rattle.std.specs.FinSet.{empty, contains, code as set_code}
use Rattle.number_tables.specs.Table.{Entries, Table, code as table_code}
use Rattle.number_tables.specs.Numbers.{Numbers}
use Rattle.plant_config.specs.declared.records.Pool.{Pool}
use Rattle.plant_config.specs.Plant.{PlantData, sources_of}
use Rattle.crosspoint_state.specs.Crosspoints.{Crosspoints}
use Rattle.crosspoint_state.specs.Ties.{Feed, size_of, occupied, wanted, tie_beside, is_free}
use Rattle.tie_pools.specs.Ways.{way_of, source_way}

-- the way of each remote source; as tables, how many destinations each way feeds, and how many ways of each pool feed
-- some; how many ties each pool has; the tie of each way that feeds some; and the free ties of each pool
pub record Counts : Type 0 where
  pub ways : Entries ℕ
  pub fed : Table ℕ
  pub used : Table ℕ
  pub sizes : List ℕ
  pub ties : Table ℕ
  pub free : List Numbers

-- counts are stored as the tuple of their fields
abbrev pub entries_code : Coded (Entries ℕ)
entries_code = code {R = nat_cmp} coded_ℕ coded_ℕ

abbrev pub numbers_code : Coded (Table ℕ)
numbers_code = table_code coded_ℕ

abbrev pub sets_code : Coded (List Numbers)
sets_code = coded_list (set_code coded_ℕ)

abbrev pub counts_code : Coded Counts
counts_code =
    code_by (Entries ℕ × (Table ℕ × (Table ℕ × (List ℕ × (Table ℕ × List Numbers)))))
    (coded× entries_code (coded× numbers_code
    (coded× numbers_code (coded× (coded_list coded_ℕ) (coded× numbers_code sets_code)))))
    (λ counts.
    (counts.ways, (counts.fed, (counts.used, (counts.sizes, (counts.ties, counts.free))))))
    (λ tuple. record {
      ways = tuple.0;
      fed = tuple.1.0;
      used = tuple.1.1.0;
      sizes = tuple.1.1.1.0;
      ties = tuple.1.1.1.1.0;
      free = tuple.1.1.1.1.1;
    }) (λ _. refl)

-- a kept number, 0 where there is none
abbrev pub count_at : Entries ℕ → ℕ → ℕ
count_at counts number = option_map_or (λ count. count) (get counts number) 0

-- how many ties each pool has
abbrev pub sizes_of : PlantData → List ℕ
sizes_of plant = map (λ (pool : Pool). pool.ties) plant.pools

-- the ties that are kept as free of a pool
abbrev pub free_of : List Numbers → ℕ → Numbers
free_of free pool = slice_index_or free pool empty

-- how many destinations get an origin by a pool
abbrev pub fed_by : PlantData → Crosspoints → ℕ → ℕ → ℕ
fed_by plant crosspoints pool origin =
    count_by (λ (feed : Feed). feed.origin == origin) (occupied plant crosspoints pool)

-- The ways that are kept are those of the plant's sources.
abbrev pub AreWays : PlantData → Entries ℕ → Type 0
AreWays plant ways = (source : ℕ) → get ways source ≡ source_way plant source

-- The numbers that are kept are those of the destinations that each way feeds.
abbrev pub CountFed : PlantData → Crosspoints → Entries ℕ → Type 0
CountFed plant crosspoints fed = (pool origin way : ℕ)
    → way_of plant pool origin ≡ Some way
    → count_at fed way ≡ fed_by plant crosspoints pool origin

-- The numbers that are kept are those of the different origins that each pool brings.
abbrev pub CountUsed : PlantData → Crosspoints → Entries ℕ → Type 0
CountUsed plant crosspoints used = (pool : ℕ)
    → count_at used pool ≡ wanted plant crosspoints pool

-- The tie that is kept of each way is the one that brings its origin.
abbrev pub HaveTies : PlantData → Crosspoints → Entries ℕ → Type 0
HaveTies plant crosspoints ties = (pool origin way : ℕ)
    → way_of plant pool origin ≡ Some way
    → get ties way ≡ tie_beside plant crosspoints pool origin

-- The ties that are kept as free of each pool are those of its ties that are free.
abbrev pub HaveFree : PlantData → Crosspoints → List Numbers → Type 0
HaveFree plant crosspoints free = (pool tie : ℕ)
    → contains (free_of free pool) tie
    ≡ (nat_lt tie (size_of plant pool) && is_free plant crosspoints pool tie)

-- The tables have room for all ways, which are sources, and for all pools, whose sizes are kept.
pub record AreCountsFor (plant : PlantData) (counts : Counts) : Type 0 where
  pub fed : counts.fed.room ≡ sources_of plant
  pub used : counts.used.room ≡ length plant.pools
  pub sizes : counts.sizes ≡ sizes_of plant
  pub ties : counts.ties.room ≡ sources_of plant
  pub free : length counts.free ≡ length plant.pools

-- The counts are those of the crosspoints, with room for all of the plant.
pub record AreCountsOf (plant : PlantData) (crosspoints : Crosspoints) (counts : Counts)
    : Type 0 where
  pub ways : AreWays plant counts.ways
  pub room : AreCountsFor plant counts
  pub fed : CountFed plant crosspoints counts.fed.entries
  pub used : CountUsed plant crosspoints counts.used.entries
  pub ties : HaveTies plant crosspoints counts.ties.entries
  pub free : HaveFree plant crosspoints counts.free
