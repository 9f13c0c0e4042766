-- What is counted of crosspoints, and how it differs where one destination carries another source.
use Rattle.std.proofs.Common.{◌≡◌, ◌≢◌, ℕ, ◌+◌, ◌<◌, ◌≤◌, nat_eq, Bool, true, false, cond, ◌&&◌, List, [], ◌∷◌, ◌++◌, map, length, filter_map, count_by, Option, Some, None, suc, refl, sym, ap, ◌∙◌, arith, eq-eqb}
use Rattle.std.proofs.lemmas.Bool.{false_from_ne_true}
use Rattle.std.proofs.lemmas.List.{map-append, length-map}
use Rattle.std.proofs.lemmas.List.Sums.{count_by-le-length}
use Rattle.std.proofs.lemmas.List.FromFn.{length-range_with_len}
use Rattle.std.proofs.lemmas.Map.Made.{distinct_count-le}
use Rattle.std.specs.Option.{option_map, option_map_or, option_and_then, option_eq}
use Rattle.std.specs.List.{range_with_len, cons_option, fold}
use Rattle.std.specs.Set.{distinct_count}
use Rattle.std.specs.FinMap as finite
use Rattle.number_tables.specs.Table.{put}
use Rattle.plant_config.specs.Plant.{PlantData, destinations_of}
use Rattle.plant_config.specs.Sources.{origin_of, pool_of}
use Rattle.crosspoint_state.specs.declared.spot.Spot.{Spot}
use Rattle.crosspoint_state.specs.Crosspoints.{Crosspoints, source_of}
use Rattle.crosspoint_state.specs.Ties.{Feed, feed_of, occupied, wanted}
use Rattle.crosspoint_state.proofs.TieLemmas.{same_option, feed_with, has_origin}
use Rattle.tie_pools.specs.Counts.{fed_by}
use Rattle.tie_pools.specs.Ways.{comes_by}
use Rattle.tie_pools.proofs.Inserted.{before, behind, with_feed, occupied_put, count_inserted, distinct_inserted}

abbrev origin_in : Feed → ℕ
origin_in feed = feed.origin

-- 1 for what passes a test
abbrev one_if : (Feed → Bool) → Option Feed → ℕ
one_if test feed = option_map_or (λ feed. cond (test feed) 1 0) feed 0

count_with : (p : Feed → Bool) (front rest : List Feed) (feed : Option Feed) → count_by p (with_feed front feed rest) ≡ count_by p (front ++ rest) + one_if p feed
count_with p front rest None = omega arith
count_with p front rest (Some feed) = count_inserted p front rest feed

-- what a spot adds to the destinations that get an origin by a pool
fed_of : (plant : PlantData) (pool origin : ℕ) (spot : Spot) → one_if (has_origin origin) (feed_of plant pool spot) ≡ cond (comes_by plant pool origin spot.source) 1 0
fed_of plant pool origin spot = by (option_eq nat_eq (pool_of plant spot.source) (Some pool)) (origin_of plant spot.source)
  where
    by : (b : Bool) (stands : Option ℕ) → one_if (has_origin origin) (cond b (option_map (λ origin. feed_with spot origin) stands) None) ≡ cond (b && option_eq nat_eq stands (Some origin)) 1 0
    by true None = refl
    by true (Some stands) = refl
    by false stands = refl

pub fed_put : (plant : PlantData) (points : Crosspoints) (pool origin dest : ℕ) (spot : Spot) → dest < destinations_of plant → fed_by plant (put points dest (Some spot)) pool origin ≡ fed_by plant (put points dest None) pool origin + cond (comes_by plant pool origin spot.source) 1 0
fed_put plant points pool origin dest spot inside =
    ap (count_by (has_origin origin)) (occupied_put plant points pool dest (Some spot) inside)
    ∙ count_with (has_origin origin) (before plant points pool dest) (behind plant points pool dest) (feed_of plant pool spot)
    ∙ ap (λ feeds. count_by (has_origin origin) feeds + one_if (has_origin origin) (feed_of plant pool spot)) (sym (occupied_put plant points pool dest None inside))
    ∙ ap (λ more. fed_by plant (put points dest None) pool origin + more) (fed_of plant pool origin spot)

count_map : (p : ℕ → Bool) (feeds : List Feed) (count : ℕ) → fold (λ a x. a + cond (p x) 1 0) count (map origin_in feeds) ≡ fold (λ a (feed : Feed). a + cond (p feed.origin) 1 0) count feeds
count_map p [] count = refl
count_map p (feed ∷ feeds) count = count_map p feeds (count + cond (p feed.origin) 1 0)

-- one more feed is another origin where none has its origin yet
distinct_with : (front rest : List Feed) (feed : Option Feed) → distinct_count nat_eq (map origin_in (with_feed front feed rest)) ≡ distinct_count nat_eq (map origin_in (front ++ rest)) + one_if (λ feed. nat_eq (count_by (has_origin feed.origin) (front ++ rest)) 0) feed
distinct_with front rest None = omega arith
distinct_with front rest (Some feed) =
    let both : map origin_in front ++ map origin_in rest ≡ map origin_in (front ++ rest) = sym (map-append origin_in front rest) in
    ap (distinct_count nat_eq) (map-append origin_in front (feed ∷ rest))
    ∙ distinct_inserted (map origin_in front) (map origin_in rest) feed.origin
    ∙ ap (λ origins. distinct_count nat_eq origins + cond (nat_eq (count_by (λ y. nat_eq y feed.origin) origins) 0) 1 0) both
    ∙ ap (λ count. distinct_count nat_eq (map origin_in (front ++ rest)) + cond (nat_eq count 0) 1 0) (count_map (λ y. nat_eq y feed.origin) (front ++ rest) 0)

-- what a spot adds to the origins of a pool, by what is fed without it
abbrev news : PlantData → Crosspoints → ℕ → Option Feed → ℕ
news plant points pool feed = one_if (λ feed. nat_eq (fed_by plant points pool feed.origin) 0) feed

wanted_put : (plant : PlantData) (points : Crosspoints) (pool dest : ℕ) (spot : Spot) → dest < destinations_of plant → wanted plant (put points dest (Some spot)) pool ≡ wanted plant (put points dest None) pool + news plant (put points dest None) pool (feed_of plant pool spot)
wanted_put plant points pool dest spot inside =
    ap (λ feeds. distinct_count nat_eq (map origin_in feeds)) (occupied_put plant points pool dest (Some spot) inside)
    ∙ distinct_with (before plant points pool dest) (behind plant points pool dest) (feed_of plant pool spot)
    ∙ ap (λ feeds. distinct_count nat_eq (map origin_in feeds) + one_if (λ feed. nat_eq (count_by (has_origin feed.origin) feeds) 0) (feed_of plant pool spot)) (sym (occupied_put plant points pool dest None inside))

-- a spot whose source comes by a pool from an origin
module _ (plant : PlantData) (points : Crosspoints) (dest : ℕ) (spot : Spot) (inside : dest < destinations_of plant) where
  pub fed_put_other : (pool origin : ℕ) → (comes_by plant pool origin spot.source ≡ true → ⊥) → fed_by plant (put points dest (Some spot)) pool origin ≡ fed_by plant (put points dest None) pool origin
  fed_put_other pool origin other =
      let none : comes_by plant pool origin spot.source ≡ false = false_from_ne_true _ other in
      let same = fed_put plant points pool origin dest spot inside ∙ ap (λ b. fed_by plant (put points dest None) pool origin + cond b 1 0) none in
      omega (arith, same)

  pub fed_put_own : (pool origin : ℕ) → pool_of plant spot.source ≡ Some pool → origin_of plant spot.source ≡ Some origin → fed_by plant (put points dest (Some spot)) pool origin ≡ fed_by plant (put points dest None) pool origin + 1
  fed_put_own pool origin pooled stands =
      fed_put plant points pool origin dest spot inside
      ∙ ap (λ found. fed_by plant (put points dest None) pool origin + cond (option_eq nat_eq found (Some pool) && option_eq nat_eq (origin_of plant spot.source) (Some origin)) 1 0) pooled
      ∙ ap (λ found. fed_by plant (put points dest None) pool origin + cond (option_eq nat_eq (Some pool) (Some pool) && option_eq nat_eq found (Some origin)) 1 0) stands
      ∙ ap (λ b. fed_by plant (put points dest None) pool origin + cond (b && nat_eq origin origin) 1 0) (eq-eqb pool pool refl)
      ∙ ap (λ b. fed_by plant (put points dest None) pool origin + cond b 1 0) (eq-eqb origin origin refl)

  pub wanted_put_other : (pool : ℕ) → pool_of plant spot.source ≢ Some pool → wanted plant (put points dest (Some spot)) pool ≡ wanted plant (put points dest None) pool
  wanted_put_other pool other =
      let none : option_eq nat_eq (pool_of plant spot.source) (Some pool) ≡ false = false_from_ne_true _ (λ same. other (same_option (pool_of plant spot.source) (Some pool) same)) in
      let same = wanted_put plant points pool dest spot inside ∙ ap (λ b. wanted plant (put points dest None) pool + news plant (put points dest None) pool (cond b (option_map (λ origin. feed_with spot origin) (origin_of plant spot.source)) None)) none in
      omega (arith, same)

  pub wanted_put_own : (pool origin : ℕ) → pool_of plant spot.source ≡ Some pool → origin_of plant spot.source ≡ Some origin → wanted plant (put points dest (Some spot)) pool ≡ wanted plant (put points dest None) pool + cond (nat_eq (fed_by plant (put points dest None) pool origin) 0) 1 0
  wanted_put_own pool origin pooled stands =
      wanted_put plant points pool dest spot inside
      ∙ ap (λ found. wanted plant (put points dest None) pool + news plant (put points dest None) pool (cond (option_eq nat_eq found (Some pool)) (option_map (λ origin. feed_with spot origin) (origin_of plant spot.source)) None)) pooled
      ∙ ap (λ b. wanted plant (put points dest None) pool + news plant (put points dest None) pool (cond b (option_map (λ origin. feed_with spot origin) (origin_of plant spot.source)) None)) (eq-eqb pool pool refl)
      ∙ ap (λ found. wanted plant (put points dest None) pool + news plant (put points dest None) pool (option_map (λ origin. feed_with spot origin) found)) stands

-- the two are equal wherever no more is found of the one than of the other
map_found : (h k : ℕ → Option Feed) → ((n : ℕ) → option_map origin_in (h n) ≡ option_map origin_in (k n)) → (ns : List ℕ) → map origin_in (filter_map h ns) ≡ map origin_in (filter_map k ns)
map_found h k same [] = refl
map_found h k same (n ∷ ns) = by (h n) (k n) (same n) (map_found h k same ns)
  where
    by : (one other : Option Feed) → option_map origin_in one ≡ option_map origin_in other → map origin_in (filter_map h ns) ≡ map origin_in (filter_map k ns) → map origin_in (cons_option one (filter_map h ns)) ≡ map origin_in (cons_option other (filter_map k ns))
    by None None e rest = rest
    by None (Some feed) e rest = cc
    by (Some feed) None e rest = cc
    by (Some one) (Some other) e rest =
        let origins : one.origin ≡ other.origin = cc in
        cc

-- what is counted of a destination, by its source alone
abbrev origin_by : PlantData → ℕ → ℕ → Option ℕ
origin_by plant pool source = cond (option_eq nat_eq (pool_of plant source) (Some pool)) (origin_of plant source) None

origin_at : (plant : PlantData) (pool : ℕ) (stands : Option Spot) → option_map origin_in (option_and_then (feed_of plant pool) stands) ≡ option_and_then (origin_by plant pool) (option_map (λ (spot : Spot). spot.source) stands)
origin_at plant pool None = refl
origin_at plant pool (Some spot) = by (option_eq nat_eq (pool_of plant spot.source) (Some pool)) (origin_of plant spot.source)
  where
    by : (b : Bool) (stands : Option ℕ) → option_map origin_in (cond b (option_map (λ origin. feed_with spot origin) stands) None) ≡ cond b stands None
    by true None = refl
    by true (Some origin) = refl
    by false stands = refl

-- crosspoints in which each destination has the same source
pub same_origins : (plant : PlantData) (one other : Crosspoints) (pool : ℕ) → ((dest : ℕ) → source_of one dest ≡ source_of other dest) → map (λ (feed : Feed). feed.origin) (occupied plant one pool) ≡ map (λ (feed : Feed). feed.origin) (occupied plant other pool)
unfolding occupied
same_origins plant one other pool same = map_found (λ dest. option_and_then (feed_of plant pool) (finite.get one dest)) (λ dest. option_and_then (feed_of plant pool) (finite.get other dest)) (λ dest.
    origin_at plant pool (finite.get one dest)
    ∙ ap (option_and_then (origin_by plant pool)) (same dest)
    ∙ sym (origin_at plant pool (finite.get other dest))) (range_with_len 0 (destinations_of plant))

pub same_fed : (plant : PlantData) (one other : Crosspoints) (pool origin : ℕ) → ((dest : ℕ) → source_of one dest ≡ source_of other dest) → fed_by plant one pool origin ≡ fed_by plant other pool origin
same_fed plant one other pool origin same =
    sym (count_map (λ y. nat_eq y origin) (occupied plant one pool) 0)
    ∙ ap (count_by (λ y. nat_eq y origin)) (same_origins plant one other pool same)
    ∙ count_map (λ y. nat_eq y origin) (occupied plant other pool) 0

length-found : {Y : Type 0} (h : ℕ → Option Y) (ns : List ℕ) → length (filter_map h ns) ≤ length ns
length-found h [] = omega arith
length-found {Y} h (n ∷ ns) = by (h n) (length-found h ns)
  where
    by : (found : Option Y) → length (filter_map h ns) ≤ length ns → length (cons_option found (filter_map h ns)) ≤ suc (length ns)
    by None rest = omega arith
    by (Some y) rest = omega arith

occupied_at_most : (plant : PlantData) (points : Crosspoints) (pool : ℕ) → length (occupied plant points pool) ≤ destinations_of plant
unfolding occupied
occupied_at_most plant points pool = omega (arith, length-found (λ dest. option_and_then (feed_of plant pool) (finite.get points dest)) (range_with_len 0 (destinations_of plant)), length-range_with_len 0 (destinations_of plant))

pub fed_at_most : (plant : PlantData) (points : Crosspoints) (pool origin : ℕ) → fed_by plant points pool origin ≤ destinations_of plant
fed_at_most plant points pool origin = omega (arith, count_by-le-length (has_origin origin) (occupied plant points pool), occupied_at_most plant points pool)

pub wanted_at_most : (plant : PlantData) (points : Crosspoints) (pool : ℕ) → wanted plant points pool ≤ destinations_of plant
wanted_at_most plant points pool = omega (arith, distinct_count-le nat_eq (map origin_in (occupied plant points pool)), length-map (occupied plant points pool) origin_in, occupied_at_most plant points pool)
