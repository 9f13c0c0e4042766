-- How the demand follows the sources of destinations, and which pool it exceeds.
use Rattle.std.specs.Prelude.{◌≡◌, ℕ, ◌<◌, ◌≤◌, nat_lt, ◌&&◌, Bool, List, find, length, slice_index, Option, Some, None}
use Rattle.std.specs.List.{range_with_len}
use Rattle.std.specs.Option.{option_map, option_and_then, IfSome}
use Rattle.std.specs.FinSet.{contains}
use Rattle.number_tables.specs.Table.{Table}
use Rattle.number_tables.specs.Numbers.{Numbers}
use Rattle.plant_config.specs.Limits.{all_destinations_limit, pool_limit}
use Rattle.plant_config.specs.Plant.{PlantData, sources_of}
use Rattle.plant_config.specs.Sources.{pool_of}
use Rattle.crosspoint_state.specs.Crosspoints.{Crosspoints}
use Rattle.tie_pools.specs.Ways.{source_way}
use Rattle.tie_pools.specs.Counts.{count_at, sizes_of, CountFed, CountUsed}
use Rattle.tie_pools.specs.CountsInside.{InUse, Demand, fed_more, fed_less}
use Rattle.tie_pools.specs.declared.planned.Exhausted.{Exhausted}
use Rattle.tie_pools.specs.declared.route.Route.{Route}

-- The tables have room for all ways, which are sources, and for all pools, whose sizes are kept.
pub record IsDemandFor (plant : PlantData) (demand : Demand) : Type 0 where
  pub fed : demand.fed.room ≡ sources_of plant
  pub used : demand.used.room ≡ length plant.pools
  pub sizes : demand.sizes ≡ sizes_of plant

-- The demand is that of the crosspoints, with room for all of the plant.
pub record AreDemandOf (plant : PlantData) (crosspoints : Crosspoints) (demand : Demand)
    : Type 0 where
  pub room : IsDemandFor plant demand
  pub fed : CountFed plant crosspoints demand.fed.entries
  pub used : CountUsed plant crosspoints demand.used.entries

-- by which pool and way what a destination carries comes, none where it is local or nothing
abbrev pub route_of : PlantData → Option ℕ → Option Route
route_of plant source =
    option_and_then
    (λ source. option_and_then
    (λ pool. option_map (λ way. record { pool = pool; way = way }) (source_way plant source))
    (pool_of plant source))
    source

-- A route is by a pool and by a source of a plant.
pub record IsRoute (plant : PlantData) (route : Route) : Type 0 where
  pub pool : route.pool < length plant.pools
  pub way : route.way < sources_of plant

-- what a destination carries is taken from the demand, and put to it
abbrev pub left : Demand → Option Route → Demand
left demand None = demand
left demand (Some route) = fed_less demand route.pool route.way

abbrev pub taken : Demand → Option Route → Demand
taken demand None = demand
taken demand (Some route) = fed_more demand route.pool route.way

-- a destination gets another source
abbrev pub moved : PlantData → Demand → Option ℕ → Option ℕ → Demand
moved plant demand from to = taken (left demand (route_of plant from)) (route_of plant to)

-- A route's counts are no larger than the most destinations of a plant.
pub record HasRoom (demand : Demand) (route : Route) : Type 0 where
  pub fed : count_at demand.fed.entries route.way ≤ all_destinations_limit
  pub used : count_at demand.used.entries route.pool ≤ all_destinations_limit

abbrev pub HasRoomFor : Demand → Option Route → Type 0
HasRoomFor demand route = IfSome route (HasRoom demand)

-- A pool has more ways in use than it has ties.
abbrev pub is_over : InUse → ℕ → Bool
is_over in_use pool = nat_lt (slice_index in_use.sizes pool) (count_at in_use.used.entries pool)

-- The pools that are kept as over are those that are. There are at most so many pools, each with its size.
pub record KeepsOver (used : Table ℕ) (sizes : List ℕ) (kept : Numbers) : Type 0 where
  pub sized : length sizes ≡ used.room
  pub few : used.room ≤ pool_limit
  pub over : (pool : ℕ) → contains kept pool
      ≡ (nat_lt pool used.room && is_over (record { used = used; sizes = sizes }) pool)

-- a pool with its number of ways in use and its size
abbrev pub measured : InUse → ℕ → Exhausted
measured in_use pool = record {
  pool = pool;
  wanted = count_at in_use.used.entries pool;
  limit = slice_index in_use.sizes pool;
}

-- the lowest pool that has more ways in use than it has ties
abbrev pub over : InUse → Option Exhausted
over in_use = option_map (measured in_use)
    (find (is_over in_use) (range_with_len 0 in_use.used.room))

-- the part of the demand that is about pools
abbrev pub in_use_of : Demand → InUse
in_use_of demand = record { used = demand.used; sizes = demand.sizes }
