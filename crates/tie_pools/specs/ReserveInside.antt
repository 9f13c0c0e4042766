-- How the limits of pools that keep ties are looked at: those by which the new sources of a list come, and no other.
use Rattle.std.specs.Prelude.{◌≡◌, ℕ, ◌-◌, nat_lt, min, max, Bool, not, ◌||◌, if◌then◌else◌, List, [], ◌∷◌, All, slice_index, Option, Some, None}
use Rattle.std.specs.Option.{option_map, option_and_then, IfSome}
use Rattle.plant_config.specs.declared.records.Change.{Change}
use Rattle.plant_config.specs.Plant.{PlantData}
use Rattle.plant_config.specs.Reserves.{has_reserve}
use Rattle.crosspoint_state.specs.Crosspoints.{Crosspoints}
use Rattle.crosspoint_state.specs.Ties.{size_of, wanted}
use Rattle.crosspoint_state.specs.Applied.{put_all, exhausted}
use Rattle.tie_pools.specs.Counts.{count_at}
use Rattle.tie_pools.specs.CountsInside.{Demand}
use Rattle.tie_pools.specs.DemandInside.{route_of}
use Rattle.tie_pools.specs.Reserve.{reserve_of}
use Rattle.tie_pools.specs.declared.planned.Exhausted.{Exhausted}
use Rattle.tie_pools.specs.declared.route.Route.{Route}

-- a panel may use all ties of each pool: it is a master, or no pool keeps any
abbrev pub uses_all : PlantData → Bool → Bool
uses_all plant master = master || not (has_reserve plant)

-- A pool is out of ties, whoever asks: it is the lowest that isn't enough. So many different origins would come by it, and
-- so many ties it has.
pub record IsOut (plant : PlantData) (crosspoints : Crosspoints) (changes : List Change)
    (fault : Exhausted) : Type 0 where
  pub lowest : exhausted plant crosspoints changes ≡ Some fault.pool
  pub wanted : fault.wanted ≡ wanted plant (put_all crosspoints changes) fault.pool
  pub limit : fault.limit ≡ size_of plant fault.pool

-- the limit of a pool for a panel that is no master, by how many of its ways are in use
abbrev pub limit_by : PlantData → Demand → ℕ → ℕ
limit_by plant demand pool =
    min (size_of plant pool)
    (max (size_of plant pool - reserve_of plant pool) (count_at demand.used.entries pool))

-- the pool by which the new source of a change comes
abbrev pub pool_to : PlantData → Change → Option ℕ
pool_to plant change = option_map (λ (route : Route). route.pool) (route_of plant change.source)

-- The limit that is kept of a pool is its limit.
abbrev pub IsLimited : PlantData → Demand → List ℕ → ℕ → Type 0
IsLimited plant demand limits pool = slice_index limits pool ≡ limit_by plant demand pool

-- The limits that are kept are those of the pools by which the new sources of these changes come.
abbrev pub AreLimited : PlantData → Demand → List ℕ → List Change → Type 0
AreLimited plant demand limits changes =
    All (λ change. IfSome (pool_to plant change) (IsLimited plant demand limits)) changes

-- a pool that has more ways in use than the limit that is kept of it
abbrev pub over_limit : Demand → List ℕ → ℕ → Option Exhausted
over_limit demand limits pool =
    if nat_lt (slice_index limits pool) (count_at demand.used.entries pool)
    then Some (record {
      pool = pool;
      wanted = count_at demand.used.entries pool;
      limit = slice_index limits pool;
    })
    else None

-- the same of the pool by which the new source of a change comes
abbrev pub over_at : PlantData → Demand → List ℕ → Change → Option Exhausted
over_at plant demand limits change =
    option_and_then (over_limit demand limits) (pool_to plant change)

-- of two pools the lower one, and the first of two that are one
abbrev pub lower_of : Option Exhausted → Option Exhausted → Option Exhausted
lower_of None second = second
lower_of (Some first) None = Some first
lower_of (Some first) (Some second) =
    if nat_lt second.pool first.pool then Some second else Some first

-- the lowest pool that is over its limit, of those by which new sources come, and of one that was found before
abbrev pub lowest_over : PlantData → Demand → List ℕ → Option Exhausted → List Change
    → Option Exhausted
lowest_over plant demand limits found [] = found
lowest_over plant demand limits found (change ∷ changes) =
    lowest_over plant demand limits (lower_of found (over_at plant demand limits change)) changes
