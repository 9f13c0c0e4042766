-- The counts stay those of the crosspoints where a destination is parked, and where it is brought a source.
use Rattle.std.proofs.Common.{◌≡◌, ◌≢◌, ◌⊎◌, ℕ, ◌<◌, ◌≤◌, nat_eq, nat_lt, Bool, true, false, not, cond, ◌&&◌, map, find, length, get_or, slice_get, Option, Some, None, inl, inr, refl, sym, ap, subst, ◌∙◌, arith, length-set}
use Rattle.std.proofs.lemmas.Bool.{cases_eq, cases_lt}
use Rattle.std.proofs.lemmas.Option.{none-some, slice_get_within, slice_get_past, get_or_from_slice_get}
use Rattle.std.specs.Option.{option_map, option_map_or, option_and_then, option_or, option_eq, IfSome}
use Rattle.std.specs.List.{list_any, count_by}
use Rattle.std.specs.Set.{distinct_count}
use Rattle.std.specs.FinMap as finite
use Rattle.std.specs.FinSet.{insert, remove}
use Rattle.number_tables.specs.Table.{put}
use Rattle.number_tables.proofs.PutLemmas.{get-put_same, get-put_other, put-get}
use Rattle.plant_config.specs.declared.records.Pool.{Pool}
use Rattle.plant_config.specs.Limits.{tie_limit}
use Rattle.plant_config.specs.Plant.{PlantData, destinations_of}
use Rattle.plant_config.specs.Sources.{origin_of, pool_of}
use Rattle.plant_config.specs.IsPlant.{IsPlant, IsPool}
use Rattle.crosspoint_state.specs.declared.spot.Spot.{Spot}
use Rattle.crosspoint_state.specs.Crosspoints.{Crosspoints}
use Rattle.crosspoint_state.specs.Ties.{size_of, Feed, occupied, tie_beside, lowest_free, chosen_tie, HaveValidTies}
use Rattle.crosspoint_state.proofs.TieLemmas.{its_tie, has_origin, has_tie, feed_with}
use Rattle.crosspoint_state.proofs.ValidLemmas.{valid_fewer}
use Rattle.tie_pools.specs.declared.route.Route.{Route}
use Rattle.tie_pools.specs.Ways.{way_of, source_way}
use Rattle.tie_pools.specs.Counts.{Counts, AreCountsOf, count_at, free_of}
use Rattle.tie_pools.specs.CountsInside.{fed_less}
use Rattle.tie_pools.specs.DemandInside.{AreDemandOf, route_of, IsRoute, HasRoom}
use Rattle.tie_pools.specs.HoldingsInside.{freed, tie_for}
use Rattle.tie_pools.specs.CommitInside.{demand_of, holdings_of, counts_of, HavePlaces, left_from, come_to}
use Rattle.tie_pools.proofs.Searches.{any_counted}
use Rattle.tie_pools.proofs.Inserted.{before, behind, with_feed, occupied_put}
use Rattle.tie_pools.proofs.WayLemmas.{ComesByWay, source_way_is, no_way}
use Rattle.tie_pools.proofs.DemandLemmas.{demand_fed, demand_unfed}
use Rattle.tie_pools.proofs.RouteLemmas.{route_found, has_room}
use Rattle.tie_pools.proofs.HoldingLemmas.{ComesTied, ties_stay, free_stay, ties_freed, free_freed, ties_given, free_given, chosen_is}

-- a pool has at most as many ties as any
pub size_few : (plant : PlantData) (pool : ℕ) → IsPlant plant → size_of plant pool ≤ tie_limit
size_few plant pool is = by (slice_get plant.pools pool) refl
  where
    by : (found : Option Pool) → slice_get plant.pools pool ≡ found → option_map_or (λ (found : Pool). found.ties) found 0 ≤ tie_limit
    by None e = omega arith
    by (Some found) e =
        let so : IsPool (get_or plant.pools pool found) = is.linked.pools.1 pool found (slice_get_within plant.pools pool found e) in
        let ties = so.ties.1 in
        let same : (get_or plant.pools pool found).ties ≡ found.ties = ap (λ (p : Pool). p.ties) (get_or_from_slice_get plant.pools pool found found e) in
        omega (arith, ties, same)

-- crosspoints that hold the same of each pool have the same counts
pub same_counts : (plant : PlantData) (one other : Crosspoints) (counts : Counts) → ((pool : ℕ) → occupied plant one pool ≡ occupied plant other pool) → AreCountsOf plant one counts → AreCountsOf plant other counts
same_counts plant one other counts same counted = record {
  ways = counted.ways;
  room = counted.room;
  fed = λ pool origin way is. counted.fed pool origin way is ∙ ap (count_by (has_origin origin)) (same pool);
  used = λ pool. counted.used pool ∙ ap (λ feeds. distinct_count nat_eq (map (λ (feed : Feed). feed.origin) feeds)) (same pool);
  ties = λ pool origin way is. counted.ties pool origin way is ∙ ap (λ feeds. option_and_then (λ (feed : Feed). feed.tie) (find (has_origin origin) feeds)) (same pool);
  free = λ pool tie. counted.free pool tie ∙ ap (λ feeds. nat_lt tie (size_of plant pool) && not (list_any (has_tie tie) feeds)) (same pool);
}

-- a destination that carries a local source holds nothing of any pool
pub local_holds : (plant : PlantData) (points : Crosspoints) (dest : ℕ) (spot : Spot) → dest < destinations_of plant → pool_of plant spot.source ≡ None → (pool : ℕ) → occupied plant (put points dest (Some spot)) pool ≡ occupied plant (put points dest None) pool
local_holds plant points dest spot inside local pool =
    occupied_put plant points pool dest (Some spot) inside
    ∙ ap (λ o. with_feed (before plant points pool dest) (cond (option_eq nat_eq o (Some pool)) (option_map (λ origin. feed_with spot origin) (origin_of plant spot.source)) None) (behind plant points pool dest)) local
    ∙ sym (occupied_put plant points pool dest None inside)

some_number : (a b : ℕ) → Some a ≡ Some b → a ≡ b
some_number a b e = cc

-- what a destination carries is put as it stands
pub as_it_stands : (points : Crosspoints) (dest : ℕ) (value : Option Spot) → finite.get points dest ≡ value → put points dest value ≡ points
as_it_stands points dest value e = ap (put points dest) (sym e) ∙ put-get points dest

abbrev by_pool : Option ℕ → Option ℕ → Option Route
by_pool pool way = option_and_then (λ pool. option_map (λ way. record { pool = pool; way = way }) way) pool

-- a source without a route is local
pub no_route_local : (plant : PlantData) (source : ℕ) → route_of plant (Some source) ≡ None → pool_of plant source ≡ None
no_route_local plant source e = by (pool_of plant source) refl (source_way plant source) refl e
  where
    by : (pool : Option ℕ) → pool_of plant source ≡ pool → (way : Option ℕ) → source_way plant source ≡ way → by_pool pool way ≡ None → pool_of plant source ≡ None
    by None local way is e = local
    by (Some pool) pooled None is e = no_way plant source is
    by (Some pool) pooled (Some way) is e = cc

-- a source by its route
record ComesIn (plant : PlantData) (source : ℕ) (route : Route) : Type 0 where
  origin : ℕ
  pooled : pool_of plant source ≡ Some route.pool
  stands : origin_of plant source ≡ Some origin
  is : way_of plant route.pool origin ≡ Some route.way

comes_in : (plant : PlantData) (source : ℕ) (route : Route) → route_of plant (Some source) ≡ Some route → ComesIn plant source route
comes_in plant source route routed =
    let found = route_found plant (Some source) route routed in
    let number : found.number ≡ source = some_number found.number source (sym found.is) in
    let pooled : pool_of plant source ≡ Some route.pool = subst (λ source. pool_of plant source ≡ Some route.pool) number found.pool in
    let way : source_way plant source ≡ Some route.way = subst (λ source. source_way plant source ≡ Some route.way) number found.way in
    let comes : ComesByWay plant source route.way = source_way_is plant source route.way way in
    let pool : route.pool ≡ comes.pool = some_number route.pool comes.pool (sym pooled ∙ comes.pooled) in
    record {
      origin = comes.origin;
      pooled = pooled;
      stands = comes.stands;
      is = ap (λ pool. way_of plant pool comes.origin) pool ∙ comes.is;
    }

-- a destination with a source that comes by a route
pub record ComesByRoute (plant : PlantData) (points : Crosspoints) (dest : ℕ) (spot : Spot) (route : Route) (tie : ℕ) : Type 0 where
  origin : ℕ
  tied : ComesTied plant points dest spot route.pool origin route.way tie

pub comes_by_route : (plant : PlantData) (points : Crosspoints) (dest : ℕ) (spot : Spot) (route : Route) (tie : ℕ) → dest < destinations_of plant → route_of plant (Some spot.source) ≡ Some route → spot.tie ≡ Some tie → tie < size_of plant route.pool → HaveValidTies plant (put points dest (Some spot)) → ComesByRoute plant points dest spot route tie
comes_by_route plant points dest spot route tie inside routed tied below valid =
    let comes = comes_in plant spot.source route routed in
    record {
      origin = comes.origin;
      tied = record {
        inside = inside;
        pooled = comes.pooled;
        stands = comes.stands;
        is = comes.is;
        tied = tied;
        below = below;
        valid = valid;
      };
    }

-- the demand is a part of the counts
pub demand_counted : (plant : PlantData) (points : Crosspoints) (counts : Counts) → AreCountsOf plant points counts → AreDemandOf plant points (demand_of counts)
demand_counted plant points counts counted = record {
  room = record { fed = counted.room.fed; used = counted.room.used; sizes = counted.room.sizes };
  fed = counted.fed;
  used = counted.used;
}

-- there is room for a route of the plant
pub route_placed : (plant : PlantData) (points : Crosspoints) (counts : Counts) (route : Route) → IsRoute plant route → AreCountsOf plant points counts → HavePlaces counts route
route_placed plant points counts route routed counted = record {
  used = omega (arith, routed.pool, counted.room.used);
  fed = omega (arith, routed.way, counted.room.fed);
  ties = omega (arith, routed.way, counted.room.ties);
  free = omega (arith, routed.pool, counted.room.free);
}

-- a pool that has a tie is one of the plant
pool_within : (plant : PlantData) (pool tie : ℕ) → tie < size_of plant pool → pool < length plant.pools
pool_within plant pool tie below =
    elim (cases_lt pool (length plant.pools)) [
      | inl within ↦ within
      | inr past ↦ absurd (omega (arith, below, ap (λ found. option_map_or (λ (found : Pool). found.ties) found 0) (slice_get_past plant.pools pool past)))
    ]

-- the counts behind a destination that leaves
counts_left : (plant : PlantData) (points : Crosspoints) (dest : ℕ) (spot : Spot) (route : Route) (tie : ℕ) (counts : Counts) → ComesByRoute plant points dest spot route tie → AreCountsOf plant (put points dest (Some spot)) counts → AreCountsOf plant (put points dest None) (left_from counts route tie)
counts_left plant points dest spot route tie counts comes counted = by (list_any (has_origin comes.origin) (occupied plant (put points dest None) route.pool)) refl
  where
    demand : AreDemandOf plant (put points dest None) (fed_less (demand_of counts) route.pool route.way)
    demand = demand_unfed plant points dest spot route.pool comes.origin route.way comes.tied.inside comes.tied.pooled comes.tied.stands comes.tied.is (demand_of counts) (demand_counted plant (put points dest (Some spot)) counts counted)

    still : nat_lt 0 (count_at (fed_less (demand_of counts) route.pool route.way).fed.entries route.way) ≡ list_any (has_origin comes.origin) (occupied plant (put points dest None) route.pool)
    still =
        ap (nat_lt 0) (demand.fed route.pool comes.origin route.way comes.tied.is)
        ∙ any_counted (has_origin comes.origin) (occupied plant (put points dest None) route.pool)

    left_as : Bool → Counts
    left_as b = counts_of counts.ways (fed_less (demand_of counts) route.pool route.way) (cond b (holdings_of counts) (freed (holdings_of counts) route.pool route.way tie))

    placed : route.pool < length counts.free
    placed = omega (arith, pool_within plant route.pool tie comes.tied.below, counted.room.free)

    by : (b : Bool) → list_any (has_origin comes.origin) (occupied plant (put points dest None) route.pool) ≡ b → AreCountsOf plant (put points dest None) (left_from counts route tie)
    by true fed = subst (λ b. AreCountsOf plant (put points dest None) (left_as b)) (sym (still ∙ fed)) (record {
      ways = counted.ways;
      room = record { fed = counted.room.fed; used = counted.room.used; sizes = counted.room.sizes; ties = counted.room.ties; free = counted.room.free };
      fed = demand.fed;
      used = demand.used;
      ties = ties_stay plant points dest spot route.pool comes.origin route.way tie comes.tied counts.ties.entries counted.ties fed;
      free = free_stay plant points dest spot route.pool comes.origin route.way tie comes.tied counts.free counted.free fed;
    })
    by false unfed = subst (λ b. AreCountsOf plant (put points dest None) (left_as b)) (sym (still ∙ unfed)) (record {
      ways = counted.ways;
      room = record { fed = counted.room.fed; used = counted.room.used; sizes = counted.room.sizes; ties = counted.room.ties; free = length-set counts.free route.pool (insert (free_of counts.free route.pool) tie) ∙ counted.room.free };
      fed = demand.fed;
      used = demand.used;
      ties = ties_freed plant points dest spot route.pool comes.origin route.way tie comes.tied counts.ties.entries counted.ties unfed;
      free = free_freed plant points dest spot route.pool comes.origin route.way tie comes.tied counts.free placed counted.free unfed;
    })

-- the counts with a destination that comes
pub counts_come : (plant : PlantData) (points : Crosspoints) (dest : ℕ) (spot : Spot) (route : Route) (tie : ℕ) (counts : Counts) → ComesByRoute plant points dest spot route tie → AreCountsOf plant (put points dest None) counts → AreCountsOf plant (put points dest (Some spot)) (come_to counts route tie)
counts_come plant points dest spot route tie counts comes counted =
    let placed : route.pool < length counts.free = omega (arith, pool_within plant route.pool tie comes.tied.below, counted.room.free) in
    let demand = demand_fed plant points dest spot route.pool comes.origin route.way comes.tied.inside comes.tied.pooled comes.tied.stands comes.tied.is (demand_of counts) (demand_counted plant (put points dest None) counts counted) in
    record {
      ways = counted.ways;
      room = record { fed = counted.room.fed; used = counted.room.used; sizes = counted.room.sizes; ties = counted.room.ties; free = length-set counts.free route.pool (remove (free_of counts.free route.pool) tie) ∙ counted.room.free };
      fed = demand.fed;
      used = demand.used;
      ties = ties_given plant points dest spot route.pool comes.origin route.way tie comes.tied counts.ties.entries counted.ties;
      free = free_given plant points dest spot route.pool comes.origin route.way tie comes.tied counts.free placed counted.free;
    }

-- a destination of the plant is parked
module _ (plant : PlantData) (points : Crosspoints) (dest : ℕ) (inside : dest < destinations_of plant) (valid : HaveValidTies plant points) where
  pub parked_valid : HaveValidTies plant (put points dest None)
  parked_valid = valid_fewer plant points (put points dest None) (λ at spot stands. by at spot stands (cases_eq at dest)) valid
    where
      by : (at : ℕ) (spot : Spot) → finite.get (put points dest None) at ≡ Some spot → (at ≡ dest) ⊎ (at ≢ dest) → finite.get points at ≡ Some spot
      by at spot stands (inl here) =
          let both : None ≡ Some spot = sym (get-put_same points dest None) ∙ ap (finite.get (put points dest None)) (sym here) ∙ stands in
          cc
      by at spot stands (inr there) = sym (get-put_other points dest None at there) ∙ stands

  pub parked_local : (counts : Counts) (spot : Spot) → finite.get points dest ≡ Some spot → route_of plant (Some spot.source) ≡ None → AreCountsOf plant points counts → AreCountsOf plant (put points dest None) counts
  parked_local counts spot stands routed counted =
      same_counts plant (put points dest (Some spot)) (put points dest None) counts
      (local_holds plant points dest spot inside (no_route_local plant spot.source routed))
      (subst (λ points. AreCountsOf plant points counts) (sym (as_it_stands points dest (Some spot) stands)) counted)

  -- a remote source has its tie, and that is one of its pool's
  own_tie : (spot : Spot) (route : Route) → finite.get points dest ≡ Some spot → route_of plant (Some spot.source) ≡ Some route → (tie : ℕ) × (spot.tie ≡ Some tie) × (tie < size_of plant route.pool)
  own_tie spot route stands routed =
      let comes = comes_in plant spot.source route routed in
      its_tie plant route.pool spot (valid.tied dest spot (record { inside = inside; carried = stands })) comes.pooled

  pub parked_tied : (spot : Spot) (route : Route) → finite.get points dest ≡ Some spot → route_of plant (Some spot.source) ≡ Some route → spot.tie ≡ None → ⊥
  parked_tied spot route stands routed none =
      let own = own_tie spot route stands routed in
      none-some own.0 (sym none ∙ own.1)

  pub parked_sized : (spot : Spot) (route : Route) (tie : ℕ) → finite.get points dest ≡ Some spot → route_of plant (Some spot.source) ≡ Some route → spot.tie ≡ Some tie → tie < size_of plant route.pool
  parked_sized spot route tie stands routed tied =
      let own = own_tie spot route stands routed in
      subst (λ tie. tie < size_of plant route.pool) (some_number own.0 tie (sym own.1 ∙ tied)) own.2

  pub parked_fits : (spot : Spot) (route : Route) (tie : ℕ) → IsPlant plant → finite.get points dest ≡ Some spot → route_of plant (Some spot.source) ≡ Some route → spot.tie ≡ Some tie → tie < tie_limit
  parked_fits spot route tie is stands routed tied = omega (arith, parked_sized spot route tie stands routed tied, size_few plant route.pool is)

  pub parked_remote : (counts : Counts) (spot : Spot) (route : Route) (tie : ℕ) → finite.get points dest ≡ Some spot → route_of plant (Some spot.source) ≡ Some route → spot.tie ≡ Some tie → AreCountsOf plant points counts → AreCountsOf plant (put points dest None) (left_from counts route tie)
  parked_remote counts spot route tie stands routed tied counted =
      let same : put points dest (Some spot) ≡ points = as_it_stands points dest (Some spot) stands in
      counts_left plant points dest spot route tie counts
      (comes_by_route plant points dest spot route tie inside routed tied (parked_sized spot route tie stands routed tied) (subst (HaveValidTies plant) (sym same) valid))
      (subst (λ points. AreCountsOf plant points counts) (sym same) counted)

local_tie : (plant : PlantData) (points : Crosspoints) (source : ℕ) → pool_of plant source ≡ None → chosen_tie plant points source ≡ None
unfolding chosen_tie
local_tie plant points source local = ap (λ p. option_and_then (λ pool. option_or (option_and_then (tie_beside plant points pool) (origin_of plant source)) (lowest_free plant points pool)) p) local

abbrev pub with_chosen : PlantData → Crosspoints → ℕ → Spot
with_chosen plant points source = record { source = source; tie = chosen_tie plant points source }

-- The tie by which a source is brought.
pub record IsBrought (plant : PlantData) (points : Crosspoints) (source : ℕ) (counts : Counts) (route : Route) : Type 0 where
  pub tie : ℕ
  pub kept : tie_for (holdings_of counts) route.pool route.way ≡ Some tie
  pub chosen : chosen_tie plant points source ≡ Some tie
  pub sized : tie < size_of plant route.pool
  pub below : tie < tie_limit

-- A parked destination of the plant is brought a source.
module _ (plant : PlantData) (points : Crosspoints) (dest source : ℕ) (counts : Counts) (inside : dest < destinations_of plant) (parked : finite.get points dest ≡ None) (counted : AreCountsOf plant points counts) where
  pub brought_local_tie : route_of plant (Some source) ≡ None → chosen_tie plant points source ≡ None
  brought_local_tie routed = local_tie plant points source (no_route_local plant source routed)

  counted_parked : AreCountsOf plant (put points dest None) counts
  counted_parked = subst (λ points. AreCountsOf plant points counts) (sym (as_it_stands points dest None parked)) counted

  pub brought_local : route_of plant (Some source) ≡ None → AreCountsOf plant (put points dest (Some (with_chosen plant points source))) counts
  brought_local routed =
      same_counts plant (put points dest None) (put points dest (Some (with_chosen plant points source))) counts
      (λ pool. sym (local_holds plant points dest (with_chosen plant points source) inside (no_route_local plant source routed) pool))
      counted_parked

  -- the tie that is kept, or else the lowest free one, is the one that is chosen, and there is one
  pub brought : (route : Route) → IsPlant plant → HaveValidTies plant (put points dest (Some (with_chosen plant points source))) → route_of plant (Some source) ≡ Some route → IsBrought plant points source counts route
  brought route is valid routed =
      let comes = comes_in plant source route routed in
      let own = its_tie plant route.pool (with_chosen plant points source) (valid.tied dest (with_chosen plant points source) (record { inside = inside; carried = get-put_same points dest (Some (with_chosen plant points source)) })) comes.pooled in
      let below : own.0 < tie_limit = omega (arith, own.2, size_few plant route.pool is) in
      record {
        tie = own.0;
        kept = chosen_is plant points source route.pool comes.origin route.way (holdings_of counts) comes.pooled comes.stands comes.is counted.ties counted.free
            ∙ own.1;
        chosen = own.1;
        sized = own.2;
        below = below;
      }

  pub brought_remote : (route : Route) (tie : ℕ) → HaveValidTies plant (put points dest (Some (with_chosen plant points source))) → route_of plant (Some source) ≡ Some route → chosen_tie plant points source ≡ Some tie → tie < size_of plant route.pool → AreCountsOf plant (put points dest (Some (with_chosen plant points source))) (come_to counts route tie)
  brought_remote route tie valid routed chosen sized =
      counts_come plant points dest (with_chosen plant points source) route tie counts
      (comes_by_route plant points dest (with_chosen plant points source) route tie inside routed chosen sized valid)
      counted_parked

  pub brought_room : (route : Route) → IsPlant plant → route_of plant (Some source) ≡ Some route → HasRoom (demand_of counts) route
  brought_room route is routed =
      subst (λ found. IfSome found (HasRoom (demand_of counts))) routed
      (has_room plant points (demand_of counts) (Some source) is (demand_counted plant points counts counted))
