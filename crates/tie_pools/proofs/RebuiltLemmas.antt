-- Counts of which nothing is left, and those of one destination more.
use Rattle.std.proofs.Common.{◌≡◌, ◌≢◌, ◌⊎◌, ℕ, ◌+◌, ◌<◌, ◌≤◌, nat_eq, nat_lt, Bool, true, false, cond, not, ◌&&◌, ◌==◌, [], map, find, length, List, get_or, slice_get, slice_index, Option, Some, None, zero, suc, inl, inr, refl, sym, ap, subst, ◌∙◌, arith, set, ltb-true, get_or-set_same, get_or-set_other}
use Rattle.std.proofs.lemmas.Bool.{cases_eq, cases_lt, lt-ltb, le-ltb, ne_eqb}
use Rattle.std.proofs.lemmas.Option.{none-some, slice_get-get_or, slice_get_past}
use Rattle.std.proofs.lemmas.List.{get_or_past}
use Rattle.std.proofs.Math.Bool.{and-true, and-false}
use Rattle.std.specs.Ordering.{nat_cmp}
use Rattle.std.specs.Option.{option_map, option_map_or, option_and_then, option_eq}
use Rattle.std.specs.List.{range_with_len, list_any, count_by}
use Rattle.std.specs.Set.{distinct_count}
use Rattle.std.specs.FinMap as finite
use Rattle.std.specs.FinSet.{empty, contains, contains-empty}
use Rattle.number_tables.specs.Table.{Entries, Table, put}
use Rattle.number_tables.specs.Numbers.{Numbers}
use Rattle.number_tables.proofs.PutLemmas.{get-put_same, get-put_other}
use Rattle.plant_config.specs.declared.records.Pool.{Pool}
use Rattle.plant_config.specs.Limits.{tie_limit}
use Rattle.plant_config.specs.Plant.{PlantData, destinations_of, sources_of}
use Rattle.plant_config.specs.Sources.{origin_of, pool_of}
use Rattle.plant_config.specs.IsPlant.{IsPlant, IsSomeSo}
use Rattle.plant_config.specs.Origins.{LeadsAcross}
use Rattle.plant_config.proofs.OriginLemmas.{pools_lead_across}
use Rattle.crosspoint_state.specs.declared.spot.Spot.{Spot}
use Rattle.crosspoint_state.specs.Crosspoints.{Crosspoints}
use Rattle.crosspoint_state.specs.Ties.{Feed, size_of, feed_of, occupied, wanted, HaveValidTies}
use Rattle.crosspoint_state.proofs.TieLemmas.{remote_origin, feed_with}
use Rattle.crosspoint_state.proofs.ValidLemmas.{valid_fewer}
use Rattle.tie_pools.specs.declared.route.Route.{Route}
use Rattle.tie_pools.specs.Ways.{way_of}
use Rattle.tie_pools.specs.Counts.{Counts, AreCountsOf, AreCountsFor, AreWays, count_at, free_of}
use Rattle.tie_pools.specs.CommitInside.{demand_of, come_to}
use Rattle.tie_pools.specs.DemandInside.{route_of, HasRoom, is_over, KeepsOver}
use Rattle.tie_pools.specs.RebuiltInside.{AreCleared, AreFreeBelow, carried_below}
use Rattle.tie_pools.proofs.Inserted.{range_same}
use Rattle.tie_pools.proofs.WayLemmas.{way_is}
use Rattle.tie_pools.specs.HoldingsInside.{ties_below}
use Rattle.tie_pools.proofs.FreeLemmas.{contains_below}
use Rattle.tie_pools.proofs.EmptyLemmas.{nothing_found, occupied_empty}
use Rattle.tie_pools.proofs.CommitLemmas.{same_counts, local_holds, no_route_local, as_it_stands, comes_by_route, counts_come, parked_tied, parked_sized, parked_fits, brought_room}

-- nothing is taken away below 0, and of one number more what it has
pub cleared_none : {V : Type 0} (entries : Entries V) → AreCleared entries entries 0
cleared_none entries number = sym (ap (λ b. cond b None (finite.get entries number)) (le-ltb number 0 (omega arith)))

pub cleared_more : {V : Type 0} (old entries new : Entries V) (count : ℕ) → AreCleared old entries count → new ≡ put entries count None → AreCleared old new (count + 1)
cleared_more old entries new count cleared made number = ap (λ entries. finite.get entries number) made ∙ by (cases_eq number count)
  where
    by : (number ≡ count) ⊎ (number ≢ count) → finite.get (put entries count None) number ≡ cond (nat_lt number (count + 1)) None (finite.get old number)
    by (inl here) =
        subst (λ at. finite.get (put entries count None) at ≡ None) (sym here) (get-put_same entries count None)
        ∙ sym (ap (λ b. cond b None (finite.get old number)) (lt-ltb number (count + 1) (omega (arith, here))))
    by (inr there) =
        get-put_other entries count None number there
        ∙ cleared number
        ∙ ap (λ b. cond b None (finite.get old number)) (next (cases_lt number count))
      where
        next : (number < count) ⊎ (count ≤ number) → nat_lt number count ≡ nat_lt number (count + 1)
        next (inl below) = lt-ltb number count below ∙ sym (lt-ltb number (count + 1) (omega (arith, below)))
        next (inr past) = le-ltb number count past ∙ sym (le-ltb number (count + 1) (omega (arith, past, there)))

-- what a number below the count has is taken away
cleared_below : {V : Type 0} (old new : Entries V) (count number : ℕ) → AreCleared old new count → number < count → finite.get new number ≡ None
cleared_below old new count number cleared below =
    cleared number ∙ ap (λ b. cond b None (finite.get old number)) (lt-ltb number count below)

cleared_past : {V : Type 0} (old new : Entries V) (count number : ℕ) → AreCleared old new count → count ≤ number → finite.get new number ≡ finite.get old number
cleared_past old new count number cleared past =
    cleared number ∙ ap (λ b. cond b None (finite.get old number)) (le-ltb number count past)

-- no pool that isn't in use is over
pub cleared_over : (used new : Table ℕ) (sizes : List ℕ) (kept over : Numbers) → KeepsOver used sizes kept → (count : ℕ) → AreCleared used.entries new.entries count → count ≡ used.room → new.room ≡ used.room → over ≡ empty → KeepsOver new sizes over
cleared_over used new sizes kept over is count cleared all room none = record {
  sized = is.sized ∙ sym room;
  few = omega (arith, is.few, room);
  over = λ pool. ap (λ ties. contains ties pool) none ∙ contains-empty nat_cmp pool ∙ sym (by pool (cases_lt pool new.room));
}
  where
    by : (pool : ℕ) → (pool < new.room) ⊎ (new.room ≤ pool) → (nat_lt pool new.room && is_over (record { used = new; sizes = sizes }) pool) ≡ false
    by pool (inl within) =
        ap (λ found. nat_lt pool new.room && nat_lt (slice_index sizes pool) (option_map_or (λ (count : ℕ). count) found 0)) (cleared_below used.entries new.entries count pool cleared (omega (arith, within, room, all)))
        ∙ ap (λ b. nat_lt pool new.room && b) (le-ltb (slice_index sizes pool) 0 (omega arith))
        ∙ and-false (nat_lt pool new.room)
    by pool (inr past) = ap (λ b. b && is_over (record { used = new; sizes = sizes }) pool) (le-ltb pool new.room past)

-- no source comes by a pool that the plant hasn't
not_pooled : (plant : PlantData) (is : IsPlant plant) (pool source : ℕ) → length plant.pools ≤ pool → pool_of plant source ≡ Some pool → ⊥
not_pooled plant is pool source past pooled =
    let from = remote_origin plant source pool pooled in
    subst (λ found. IsSomeSo found (LeadsAcross plant from.0 source)) (slice_get_past plant.pools pool past) (pools_lead_across plant is source from.0 pool from.1 pooled)

none_of_pool : (plant : PlantData) (is : IsPlant plant) (pool : ℕ) (spot : Spot) → length plant.pools ≤ pool → feed_of plant pool spot ≡ None
none_of_pool plant is pool spot past = by (pool_of plant spot.source) refl
  where
    by : (found : Option ℕ) → pool_of plant spot.source ≡ found → feed_of plant pool spot ≡ None
    by None e = ap (λ o. cond (option_eq nat_eq o (Some pool)) (option_map (λ origin. feed_with spot origin) (origin_of plant spot.source)) None) e
    by (Some other) e =
        ap (λ o. cond (option_eq nat_eq o (Some pool)) (option_map (λ origin. feed_with spot origin) (origin_of plant spot.source)) None) e
        ∙ ap (λ b. cond b (option_map (λ origin. feed_with spot origin) (origin_of plant spot.source)) None) (ne_eqb other pool (λ same. not_pooled plant is pool spot.source past (e ∙ ap Some same)))

none_past : (plant : PlantData) (is : IsPlant plant) (points : Crosspoints) (pool : ℕ) → length plant.pools ≤ pool → occupied plant points pool ≡ []
unfolding occupied
none_past plant is points pool past = nothing_found (λ dest. option_and_then (feed_of plant pool) (finite.get points dest)) 0 (destinations_of plant) (λ dest. by (finite.get points dest))
  where
    by : (stands : Option Spot) → option_and_then (feed_of plant pool) stands ≡ None
    by None = refl
    by (Some spot) = none_of_pool plant is pool spot past

-- no pool has a free tie behind those of the plant, and no tie either
free_everywhere : (plant : PlantData) (free : List Numbers) → length free ≡ length plant.pools → AreFreeBelow plant free (length plant.pools) → (pool tie : ℕ) → contains (free_of free pool) tie ≡ nat_lt tie (size_of plant pool)
free_everywhere plant free many below pool tie =
    elim (cases_lt pool (length plant.pools)) [
      | inl within ↦ below pool tie (lt-ltb pool (length plant.pools) within)
      | inr past ↦
          ap (λ ties. contains ties tie) (get_or_past free pool empty (omega (arith, past, many)))
          ∙ contains-empty nat_cmp tie
          ∙ sym (ap (λ found. nat_lt tie (option_map_or (λ (found : Pool). found.ties) found 0)) (slice_get_past plant.pools pool past) ∙ le-ltb tie 0 (omega arith))
    ]

-- all ties of one pool more are free
pub freed_more : (plant : PlantData) (free new : List Numbers) (count : ℕ) (pool : Pool) → AreFreeBelow plant free count → count < length free → slice_get plant.pools count ≡ Some pool → new ≡ set free count (ties_below pool.ties) → AreFreeBelow plant new (count + 1)
freed_more plant free new count pool below within found made at tie passes = ap (λ free. contains (free_of free at) tie) made ∙ by (cases_eq at count)
  where
    by : (at ≡ count) ⊎ (at ≢ count) → contains (free_of (set free count (ties_below pool.ties)) at) tie ≡ nat_lt tie (size_of plant at)
    by (inl here) =
        subst (λ at. contains (free_of (set free count (ties_below pool.ties)) at) tie ≡ nat_lt tie (size_of plant at)) (sym here)
        (ap (λ ties. contains ties tie) (get_or-set_same free count (ties_below pool.ties) empty within)
        ∙ contains_below pool.ties tie
        ∙ sym (ap (λ found. nat_lt tie (option_map_or (λ (found : Pool). found.ties) found 0)) found))
    by (inr there) =
        let earlier : at < count = omega (arith, ltb-true at (count + 1) passes, there) in
        ap (λ ties. contains ties tie) (get_or-set_other free count at (ties_below pool.ties) empty there)
        ∙ below at tie (lt-ltb at count earlier)

pub freed_next : (plant : PlantData) (pools : List Pool) (default : Pool) (free : List Numbers) (count : ℕ) (ties : Numbers) → pools ≡ plant.pools → AreFreeBelow plant free count → length free ≡ length plant.pools → count < length pools → ties ≡ ties_below (get_or pools count default).ties → AreFreeBelow plant (set free count ties) (count + 1)
freed_next plant pools default free count ties same below many within is =
    let found : slice_get plant.pools count ≡ Some (get_or pools count default) = subst (λ (its : List Pool). slice_get its count ≡ Some (get_or pools count default)) same (slice_get-get_or pools count default within) in
    let inside : count < length free = omega (arith, within, many, ap (λ (its : List Pool). length its) same) in
    freed_more plant free (set free count ties) count (get_or pools count default) below inside found (ap (λ ties. set free count ties) is)

-- The tables were emptied of counts.
pub record AreEmptied (plant : PlantData) (old new : Counts) : Type 0 where
  pub ways : new.ways ≡ old.ways
  pub room : AreCountsFor plant new
  pub fed : AreCleared old.fed.entries new.fed.entries (sources_of plant)
  pub used : AreCleared old.used.entries new.used.entries (length plant.pools)
  pub ties : AreCleared old.ties.entries new.ties.entries (sources_of plant)
  pub free : AreFreeBelow plant new.free (length plant.pools)

-- then they are those of nothing
pub emptied : (plant : PlantData) (points : Crosspoints) (old new : Counts) → IsPlant plant → AreCountsOf plant points old → AreEmptied plant old new → AreCountsOf plant finite.empty new
emptied plant points old new is counted cleared = record {
  ways = subst (λ ways. AreWays plant ways) (sym cleared.ways) counted.ways;
  room = cleared.room;
  fed = λ pool origin way found.
      ap (λ count. option_map_or (λ (count : ℕ). count) count 0) (cleared_below old.fed.entries new.fed.entries (sources_of plant) way cleared.fed (way_below pool origin way found))
      ∙ sym (ap (λ feeds. count_by (λ (feed : Feed). feed.origin == origin) feeds) (occupied_empty plant pool));
  used = λ pool. by pool (cases_lt pool (length plant.pools)) ∙ sym (ap (λ feeds. distinct_count nat_eq (map (λ (feed : Feed). feed.origin) feeds)) (occupied_empty plant pool));
  ties = λ pool origin way found.
      cleared_below old.ties.entries new.ties.entries (sources_of plant) way cleared.ties (way_below pool origin way found)
      ∙ sym (ap (λ feeds. option_and_then (λ (feed : Feed). feed.tie) (find (λ (feed : Feed). feed.origin == origin) feeds)) (occupied_empty plant pool));
  free = λ pool tie.
      free_everywhere plant new.free cleared.room.free cleared.free pool tie
      ∙ sym (ap (λ feeds. nat_lt tie (size_of plant pool) && not (list_any (λ (feed : Feed). option_eq nat_eq feed.tie (Some tie)) feeds)) (occupied_empty plant pool) ∙ and-true (nat_lt tie (size_of plant pool)));
}
  where
    way_below : (pool origin way : ℕ) → way_of plant pool origin ≡ Some way → way < sources_of plant
    way_below pool origin way found =
        let within = (way_is plant pool origin way found).2 in
        omega (arith, within, is.named.sources)

    by : (pool : ℕ) → (pool < length plant.pools) ⊎ (length plant.pools ≤ pool) → count_at new.used.entries pool ≡ 0
    by pool (inl within) = ap (λ count. option_map_or (λ (count : ℕ). count) count 0) (cleared_below old.used.entries new.used.entries (length plant.pools) pool cleared.used within)
    by pool (inr past) =
        ap (λ count. option_map_or (λ (count : ℕ). count) count 0) (cleared_past old.used.entries new.used.entries (length plant.pools) pool cleared.used past)
        ∙ counted.used pool
        ∙ ap (λ feeds. distinct_count nat_eq (map (λ (feed : Feed). feed.origin) feeds)) (none_past plant is points pool past)

-- what is carried below a number
pub get_below : (points : Crosspoints) (count dest : ℕ) → dest < count → finite.get (carried_below points count) dest ≡ finite.get points dest
get_below points zero dest below = absurd (omega (arith, below))
get_below points (suc last) dest below = by (cases_eq dest last) (λ earlier. get_below points last dest earlier)
  where
    by : (dest ≡ last) ⊎ (dest ≢ last) → (dest < last → finite.get (carried_below points last) dest ≡ finite.get points dest) → finite.get (carried_below points (suc last)) dest ≡ finite.get points dest
    by (inl here) rest =
        subst (λ at. finite.get (carried_below points (suc last)) at ≡ finite.get points at) (sym here)
        (get-put_same (carried_below points last) last (finite.get points last))
    by (inr there) rest =
        get-put_other (carried_below points last) last (finite.get points last) dest there
        ∙ rest (omega (arith, below, there))

pub get_past : (points : Crosspoints) (count dest : ℕ) → count ≤ dest → finite.get (carried_below points count) dest ≡ None
get_past points zero dest past = finite.get-empty nat_cmp dest
get_past points (suc last) dest past =
    get-put_other (carried_below points last) last (finite.get points last) dest (λ same. omega (arith, past, same))
    ∙ get_past points last dest (omega (arith, past))

pub below_is : (points : Crosspoints) (count dest : ℕ) (spot : Spot) → finite.get (carried_below points count) dest ≡ Some spot → finite.get points dest ≡ Some spot
below_is points count dest spot stands =
    elim (cases_lt dest count) [
      | inl below ↦ sym (get_below points count dest below) ∙ stands
      | inr past ↦ absurd (none-some spot (sym (get_past points count dest past) ∙ stands))
    ]

-- One destination more is counted.
module _ (plant : PlantData) (points : Crosspoints) (dest : ℕ) (counts : Counts) (is : IsPlant plant) (inside : dest < destinations_of plant) (valid : HaveValidTies plant points) (counted : AreCountsOf plant (carried_below points dest) counts) where
  -- what is counted of the destinations below this one and of this one
  with_one : (stands : Option Spot) → finite.get points dest ≡ stands → (after : Counts) → AreCountsOf plant (put (carried_below points dest) dest stands) after → AreCountsOf plant (carried_below points (dest + 1)) after
  with_one stands carried after =
      let next : suc dest ≡ dest + 1 = omega arith in
      λ those. subst (λ count. AreCountsOf plant (carried_below points count) after) next (subst (λ stands. AreCountsOf plant (put (carried_below points dest) dest stands) after) (sym carried) those)

  parked_here : AreCountsOf plant (put (carried_below points dest) dest None) counts
  parked_here = subst (λ points. AreCountsOf plant points counts) (sym (as_it_stands (carried_below points dest) dest None (get_past points dest dest (omega arith)))) counted

  pub counted_none : finite.get points dest ≡ None → AreCountsOf plant (carried_below points (dest + 1)) counts
  counted_none none = with_one None none counts parked_here

  module _ (spot : Spot) (stands : finite.get points dest ≡ Some spot) where
    pub counted_local : route_of plant (Some spot.source) ≡ None → AreCountsOf plant (carried_below points (dest + 1)) counts
    counted_local local =
        with_one (Some spot) stands counts
        (same_counts plant (put (carried_below points dest) dest None) (put (carried_below points dest) dest (Some spot)) counts
        (λ pool. sym (local_holds plant (carried_below points dest) dest spot inside (no_route_local plant spot.source local) pool))
        parked_here)

    module _ (route : Route) (routed : route_of plant (Some spot.source) ≡ Some route) where
      pub counted_tied : spot.tie ≡ None → ⊥
      counted_tied = parked_tied plant points dest inside valid spot route stands routed

      pub counted_room : HasRoom (demand_of counts) route
      counted_room = brought_room plant (carried_below points dest) dest spot.source counts inside (get_past points dest dest (omega arith)) counted route is routed

      pub counted_fits : (tie : ℕ) → spot.tie ≡ Some tie → tie < tie_limit
      counted_fits tie tied = parked_fits plant points dest inside valid spot route tie is stands routed tied

      pub counted_remote : (tie : ℕ) → spot.tie ≡ Some tie → AreCountsOf plant (carried_below points (dest + 1)) (come_to counts route tie)
      counted_remote tie tied =
          with_one (Some spot) stands (come_to counts route tie)
          (counts_come plant (carried_below points dest) dest spot route tie counts
          (comes_by_route plant (carried_below points dest) dest spot route tie inside routed tied
          (parked_sized plant points dest inside valid spot route tie stands routed tied)
          (subst (λ stands. HaveValidTies plant (put (carried_below points dest) dest stands)) stands
          (valid_fewer plant points (carried_below points (suc dest)) (below_is points (suc dest)) valid)))
          parked_here)

-- all destinations of the plant are counted
pub counted_all : (plant : PlantData) (points : Crosspoints) (counts : Counts) → AreCountsOf plant (carried_below points (destinations_of plant)) counts → AreCountsOf plant points counts
unfolding occupied
counted_all plant points counts = same_counts plant (carried_below points (destinations_of plant)) points counts same
  where
    same : (pool : ℕ) → occupied plant (carried_below points (destinations_of plant)) pool ≡ occupied plant points pool
    same pool =
        range_same (λ dest. option_and_then (feed_of plant pool) (finite.get (carried_below points (destinations_of plant)) dest)) (λ dest. option_and_then (feed_of plant pool) (finite.get points dest)) 0 (destinations_of plant)
        (λ dest from to. ap (option_and_then (feed_of plant pool)) (get_below points (destinations_of plant) dest (omega (arith, to))))
