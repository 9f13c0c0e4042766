-- How the ties are kept: the one of each way, and those of each pool that are free.
use Rattle.std.specs.Prelude.{ℕ, List, map, slice_set, Option, Some, None, refl}
use Rattle.std.specs.List.{range_with_len}
use Rattle.std.specs.Option.{option_or}
use Rattle.std.specs.FinMap.{get}
use Rattle.std.specs.FinSet.{insert, remove, from_list}
use Rattle.std.specs.Coded.{Coded, code_by, coded×}
use Rattle.number_tables.specs.Table.{Table, put}
use Rattle.number_tables.specs.Numbers.{Numbers, lowest}
use Rattle.plant_config.specs.declared.records.Pool.{Pool}
use Rattle.plant_config.specs.Plant.{PlantData}
use Rattle.tie_pools.specs.Counts.{numbers_code, sets_code, free_of}
use Rattle.tie_pools.specs.CountsInside.{with_entries}

-- the tie of each way that feeds some destination, and the free ties of each pool
pub record Holdings : Type 0 where
  pub ties : Table ℕ
  pub free : List Numbers

-- holdings are stored as the pair of their fields
abbrev pub holdings_code : Coded Holdings
holdings_code =
    code_by (Table ℕ × List Numbers) (coded× numbers_code sets_code)
    (λ holdings. (holdings.ties, holdings.free))
    (λ pair. record { ties = pair.0; free = pair.1 }) (λ _. refl)

-- all ties of a pool of this size
unfoldable pub ties_below : ℕ → Numbers
ties_below size = from_list (range_with_len 0 size)

-- all ties of each pool are free
abbrev pub all_free : PlantData → List Numbers
all_free plant = map (λ (pool : Pool). ties_below pool.ties) plant.pools

-- a way of a pool holds this tie
abbrev pub holding : Holdings → ℕ → ℕ → ℕ → Holdings
holding holdings pool way tie = record {
  ties = with_entries holdings.ties (put holdings.ties.entries way (Some tie));
  free = slice_set holdings.free pool (remove (free_of holdings.free pool) tie);
}

-- a way of a pool has no tie any more, and this one is free
abbrev pub freed : Holdings → ℕ → ℕ → ℕ → Holdings
freed holdings pool way tie = record {
  ties = with_entries holdings.ties (put holdings.ties.entries way None);
  free = slice_set holdings.free pool (insert (free_of holdings.free pool) tie);
}

-- the tie that a way of a pool has, or else the lowest free one
abbrev pub tie_for : Holdings → ℕ → ℕ → Option ℕ
tie_for holdings pool way =
    option_or (get holdings.ties.entries way) (lowest (free_of holdings.free pool))
