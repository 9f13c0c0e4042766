-- How a list of changes is made: it is gone through twice, to release destinations and then to give them their sources.
use Rattle.std.specs.Prelude.{◌≡◌, ℕ, ◌<◌, nat_lt, false, if◌then◌else◌, List, [], ◌∷◌, length, Contains, None}
use Rattle.std.specs.FinMap.{get, remove}
use Rattle.number_tables.specs.Table.{Entries}
use Rattle.plant_config.specs.declared.records.Change.{Change}
use Rattle.plant_config.specs.Plant.{PlantData}
use Rattle.crosspoint_state.specs.Crosspoints.{Crosspoints, is_idle}
use Rattle.crosspoint_state.specs.Applied.{given}
use Rattle.tie_pools.specs.declared.route.Route.{Route}
use Rattle.tie_pools.specs.Counts.{Counts, count_at}
use Rattle.tie_pools.specs.CountsInside.{Demand, fed_more, fed_less}
use Rattle.tie_pools.specs.HoldingsInside.{Holdings, holding, freed}

-- the destination of a change carries nothing now, if the change isn't idle
abbrev pub released_one : Crosspoints → Change → Crosspoints
released_one points change = if is_idle points change then points else remove points change.dest

-- one change after another
abbrev pub released_each : Crosspoints → List Change → Crosspoints
released_each points [] = points
released_each points (change ∷ changes) = released_each (released_one points change) changes

-- the destination of a change is given its source, if the change isn't idle
abbrev pub given_one : PlantData → Crosspoints → Change → Crosspoints
given_one plant points change =
    if is_idle points change then points else given plant points change.dest change.source

-- one change after another
abbrev pub given_each : PlantData → Crosspoints → List Change → Crosspoints
given_each plant points [] = points
given_each plant points (change ∷ changes) =
    given_each plant (given_one plant points change) changes

-- The destination of a change carries nothing, if the change isn't idle.
abbrev pub IsReady : Crosspoints → Change → Type 0
IsReady points change = is_idle points change ≡ false → get points change.dest ≡ None

abbrev pub AreReady : Crosspoints → List Change → Type 0
AreReady points changes = (change : Change) → Contains changes change → IsReady points change

-- the two parts of the counts that change
abbrev pub demand_of : Counts → Demand
demand_of counts = record { fed = counts.fed; used = counts.used; sizes = counts.sizes }

abbrev pub holdings_of : Counts → Holdings
holdings_of counts = record { ties = counts.ties; free = counts.free }

-- the counts with other parts
abbrev pub counts_of : Entries ℕ → Demand → Holdings → Counts
counts_of ways demand holdings = record {
  ways = ways;
  fed = demand.fed;
  used = demand.used;
  sizes = demand.sizes;
  ties = holdings.ties;
  free = holdings.free;
}

-- There is room for a route: for its pool and for its way.
pub record HavePlaces (counts : Counts) (route : Route) : Type 0 where
  pub used : route.pool < counts.used.room
  pub fed : route.way < counts.fed.room
  pub ties : route.way < counts.ties.room
  pub free : route.pool < length counts.free

-- A destination leaves a route whose tie is this. If it was the last, the tie is held no longer.
abbrev pub left_from : Counts → Route → ℕ → Counts
left_from counts route tie =
    let demand = fed_less (demand_of counts) route.pool route.way in
    counts_of counts.ways demand
    (if nat_lt 0 (count_at demand.fed.entries route.way) then holdings_of counts
    else freed (holdings_of counts) route.pool route.way tie)

-- A destination comes to a route, and this is its tie.
abbrev pub come_to : Counts → Route → ℕ → Counts
come_to counts route tie =
    counts_of counts.ways (fed_more (demand_of counts) route.pool route.way)
    (holding (holdings_of counts) route.pool route.way tie)
