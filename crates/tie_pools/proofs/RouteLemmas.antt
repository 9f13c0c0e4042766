-- The demand follows the routes of what destinations carry.
use Rattle.std.proofs.Common.{◌≡◌, ℕ, ◌<◌, Option, Some, None, refl, sym, ap, subst, ◌∙◌, arith}
use Rattle.std.specs.Option.{option_map, option_and_then}
use Rattle.std.specs.FinMap as finite
use Rattle.number_tables.specs.Table.{put}
use Rattle.number_tables.proofs.PutLemmas.{put-get}
use Rattle.plant_config.specs.Plant.{PlantData, destinations_of, sources_of}
use Rattle.plant_config.specs.Sources.{pool_of}
use Rattle.plant_config.specs.IsPlant.{IsPlant}
use Rattle.crosspoint_state.specs.declared.spot.Spot.{Spot}
use Rattle.crosspoint_state.specs.Crosspoints.{Crosspoints, source_of}
use Rattle.crosspoint_state.proofs.AppliedLemmas.{source_at}
use Rattle.tie_pools.specs.Ways.{source_way}
use Rattle.tie_pools.specs.CountsInside.{Demand}
use Rattle.tie_pools.specs.DemandInside.{AreDemandOf, route_of, left, taken, HasRoomFor}
use Rattle.tie_pools.specs.declared.route.Route.{Route}
use Rattle.tie_pools.proofs.WayLemmas.{way_is, source_way_is, no_way}
use Rattle.tie_pools.proofs.FedLemmas.{fed_at_most, wanted_at_most}
use Rattle.tie_pools.proofs.DemandLemmas.{demand_fed, demand_unfed, demand_local, demand_unlocal}

abbrev by_way : ℕ → Option ℕ → Option Route
by_way pool way = option_map (λ way. record { pool = pool; way = way }) way

abbrev by_pool : Option ℕ → Option ℕ → Option Route
by_pool pool way = option_and_then (λ pool. by_way pool way) pool

-- the route of a remote source, and that a local one has none
pub route_is : (plant : PlantData) (source pool way : ℕ) → pool_of plant source ≡ Some pool → source_way plant source ≡ Some way → route_of plant (Some source) ≡ Some (record { pool = pool; way = way })
route_is plant source pool way pooled is = ap (λ p. by_pool p (source_way plant source)) pooled ∙ ap (by_way pool) is

pub no_route : (plant : PlantData) (source : ℕ) → pool_of plant source ≡ None → route_of plant (Some source) ≡ None
no_route plant source local = ap (λ p. by_pool p (source_way plant source)) local

-- a route is that of a source
pub record IsRouteOf (plant : PlantData) (source : Option ℕ) (route : Route) : Type 0 where
  pub number : ℕ
  pub is : source ≡ Some number
  pub pool : pool_of plant number ≡ Some route.pool
  pub way : source_way plant number ≡ Some route.way

pub route_found : (plant : PlantData) (source : Option ℕ) (route : Route) → route_of plant source ≡ Some route → IsRouteOf plant source route
route_found plant None route e = cc
route_found plant (Some number) route e = by (pool_of plant number) refl (source_way plant number) refl e
  where
    by : (pool : Option ℕ) → pool_of plant number ≡ pool → (way : Option ℕ) → source_way plant number ≡ way → by_pool pool way ≡ Some route → IsRouteOf plant (Some number) route
    by None pooled way is e = cc
    by (Some pool) pooled None is e = cc
    by (Some pool) pooled (Some way) is e =
        let same_pool : pool ≡ route.pool = cc in
        let same_way : way ≡ route.way = cc in
        record { number = number; is = refl; pool = pooled ∙ ap Some same_pool; way = is ∙ ap Some same_way }

-- what a destination carries leaves the demand, and comes to it
module _ (plant : PlantData) (points : Crosspoints) (dest : ℕ) (inside : dest < destinations_of plant) (demand : Demand) where
  pub demand_left : (value : Option Spot) → AreDemandOf plant (put points dest value) demand → AreDemandOf plant (put points dest None) (left demand (route_of plant (source_at value)))
  demand_left None counted = counted
  demand_left (Some spot) counted = by (source_way plant spot.source) refl
    where
      by : (way : Option ℕ) → source_way plant spot.source ≡ way → AreDemandOf plant (put points dest None) (left demand (route_of plant (Some spot.source)))
      by None none =
          let local = no_way plant spot.source none in
          subst (λ route. AreDemandOf plant (put points dest None) (left demand route)) (sym (no_route plant spot.source local))
          (demand_unlocal plant points dest spot inside local demand counted)
      by (Some way) is =
          let comes = source_way_is plant spot.source way is in
          subst (λ route. AreDemandOf plant (put points dest None) (left demand route)) (sym (route_is plant spot.source comes.pool way comes.pooled is))
          (demand_unfed plant points dest spot comes.pool comes.origin way inside comes.pooled comes.stands comes.is demand counted)

  pub demand_taken : (value : Option Spot) → AreDemandOf plant (put points dest None) demand → AreDemandOf plant (put points dest value) (taken demand (route_of plant (source_at value)))
  demand_taken None counted = counted
  demand_taken (Some spot) counted = by (source_way plant spot.source) refl
    where
      by : (way : Option ℕ) → source_way plant spot.source ≡ way → AreDemandOf plant (put points dest (Some spot)) (taken demand (route_of plant (Some spot.source)))
      by None none =
          let local = no_way plant spot.source none in
          subst (λ route. AreDemandOf plant (put points dest (Some spot)) (taken demand route)) (sym (no_route plant spot.source local))
          (demand_local plant points dest spot inside local demand counted)
      by (Some way) is =
          let comes = source_way_is plant spot.source way is in
          subst (λ route. AreDemandOf plant (put points dest (Some spot)) (taken demand route)) (sym (route_is plant spot.source comes.pool way comes.pooled is))
          (demand_fed plant points dest spot comes.pool comes.origin way inside comes.pooled comes.stands comes.is demand counted)

-- a destination is released
pub demand_released : (plant : PlantData) (points : Crosspoints) (dest : ℕ) (demand : Demand) → dest < destinations_of plant → AreDemandOf plant points demand → AreDemandOf plant (put points dest None) (left demand (route_of plant (source_of points dest)))
demand_released plant points dest demand inside counted =
    demand_left plant points dest inside demand (finite.get points dest) (subst (λ points. AreDemandOf plant points demand) (sym (put-get points dest)) counted)

-- a destination gets another source, or none
pub demand_moved : (plant : PlantData) (points : Crosspoints) (dest : ℕ) (demand : Demand) (value : Option Spot) → dest < destinations_of plant → AreDemandOf plant points demand → AreDemandOf plant (put points dest value) (taken (left demand (route_of plant (source_of points dest))) (route_of plant (source_at value)))
demand_moved plant points dest demand value inside counted =
    demand_taken plant points dest inside (left demand (route_of plant (source_of points dest))) value (demand_released plant points dest demand inside counted)

-- no count is larger than the number of destinations
pub has_room : (plant : PlantData) (points : Crosspoints) (demand : Demand) (source : Option ℕ) → IsPlant plant → AreDemandOf plant points demand → HasRoomFor demand (route_of plant source)
has_room plant points demand source is counted = by (route_of plant source) refl
  where
    by : (found : Option Route) → route_of plant source ≡ found → HasRoomFor demand found
    by None e = tt
    by (Some route) e =
        let found = route_found plant source route e in
        let comes = source_way_is plant found.number route.way found.way in
        let most = is.destinations in
        record {
          fed = omega (arith, counted.fed comes.pool comes.origin route.way comes.is, fed_at_most plant points comes.pool comes.origin, most);
          used = omega (arith, counted.used route.pool, wanted_at_most plant points route.pool, most);
        }

-- a way is one of the sources of the plant
pub way_below : (plant : PlantData) (source way : ℕ) → IsPlant plant → source_way plant source ≡ Some way → way < sources_of plant
way_below plant source way is e =
    let comes = source_way_is plant source way e in
    let below = (way_is plant comes.pool comes.origin way comes.is).2 in
    omega (arith, below, is.named.sources)
