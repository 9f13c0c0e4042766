-- How the ways are found: source by source, with the lowest one so far of each pool and origin beside its number.
use Rattle.std.specs.Prelude.{◌≡◌, ℕ, ◌+◌, ◌*◌, ◌<◌, ◌==◌, nat_lt, if◌then◌else◌, find, Option, Some, None}
use Rattle.std.specs.List.{range_with_len}
use Rattle.std.specs.Option.{option_or}
use Rattle.std.specs.Ordering.{nat_cmp}
use Rattle.std.specs.BTreeMap.{BTreeMap, get}
use Rattle.std.specs.FinMap as finite
use Rattle.number_tables.specs.Table.{Entries}
use Rattle.plant_config.specs.Limits.{all_sources_limit}
use Rattle.plant_config.specs.Plant.{PlantData}
use Rattle.tie_pools.specs.Ways.{comes_by, source_way}

-- the number that tells a pool and an origin from all others
abbrev pub way_number : ℕ → ℕ → ℕ
way_number pool origin = pool * all_sources_limit + origin

-- the lowest of the sources below this one that comes so
abbrev pub lowest_below : PlantData → ℕ → ℕ → ℕ → Option ℕ
lowest_below plant source pool origin =
    find (comes_by plant pool origin) (range_with_len 0 source)

-- For each pool and origin there is the lowest of the sources below this one.
abbrev pub AreLowest : PlantData → ℕ → BTreeMap ℕ ℕ → Type 0
AreLowest plant source lowest = (pool origin : ℕ) → origin < all_sources_limit
    → get nat_cmp lowest (way_number pool origin) ≡ lowest_below plant source pool origin

-- The ways that are kept are those of the sources below this one.
abbrev pub AreWaysBelow : PlantData → ℕ → Entries ℕ → Type 0
AreWaysBelow plant source ways = (number : ℕ)
    → finite.get ways number
    ≡ (if nat_lt number source then source_way plant number else None)

-- A source came to a number, unless one was there.
abbrev pub ComesTo : BTreeMap ℕ ℕ → BTreeMap ℕ ℕ → ℕ → ℕ → Type 0
ComesTo old new number source = (at : ℕ) → get nat_cmp new at
    ≡ option_or (get nat_cmp old at) (if at == number then Some source else None)
