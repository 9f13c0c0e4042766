-- The lowest source of each pool and origin, while the sources are gone through from the first one on.
use Rattle.std.proofs.Common.{◌≡◌, ◌≢◌, ◌⊎◌, ℕ, ◌+◌, ◌-◌, ◌<◌, ◌≤◌, ◌==◌, nat_eq, nat_lt, Bool, true, false, cond, ◌&&◌, length, find, Option, Some, None, unwrap_or, zero, suc, inl, inr, refl, sym, ap, ◌∙◌, arith, eq-eqb}
use Rattle.std.proofs.lemmas.Bool.{ne_eqb, cases_eq, cases_lt, lt-ltb, le-ltb, and_right}
use Rattle.std.proofs.lemmas.Option.{slice_get_past}
use Rattle.std.specs.Option.{option_and_then, option_eq, option_or}
use Rattle.std.specs.List.{range_with_len}
use Rattle.std.specs.Ordering.{nat_cmp}
use Rattle.std.specs.BTreeMap.{BTreeMap, get, is_at, IsEmpty}
use Rattle.std.specs.Map.{lookup}
use Rattle.std.specs.FinMap as finite
use Rattle.number_tables.specs.Table.{Entries, put}
use Rattle.number_tables.proofs.PutLemmas.{get-put_same, get-put_other}
use Rattle.plant_config.specs.declared.records.Source.{Source}
use Rattle.plant_config.specs.Plant.{PlantData}
use Rattle.plant_config.specs.Sources.{origin_of, pool_of}
use Rattle.tie_pools.specs.Ways.{comes_by, way_of, source_way}
use Rattle.tie_pools.specs.Counts.{AreWays}
use Rattle.tie_pools.specs.WaysInside.{way_number, lowest_below, AreLowest, AreWaysBelow, ComesTo}
use Rattle.tie_pools.proofs.WayLemmas.{source_way_of}

-- a search of one more number
find_more : (test : ℕ → Bool) (a k at next : ℕ) → at ≡ a + k → next ≡ k + 1 → find test (range_with_len a next) ≡ option_or (find test (range_with_len a k)) (cond (test at) (Some at) None)
find_more test a zero at zero is more = absurd (omega (arith, more))
find_more test a zero at (suc next) is more =
    let start : a ≡ at = omega (arith, is) in
    let last : next ≡ 0 = omega (arith, more) in
    ap (λ n. cond (test a) (Some a) (find test (range_with_len (a + 1) n))) last
    ∙ ap (λ at. cond (test at) (Some at) None) start
find_more test a (suc k) at zero is more = absurd (omega (arith, more))
find_more test a (suc k) at (suc next) is more =
    by (test a) (find_more test (a + 1) k at next (omega (arith, is)) (omega (arith, more)))
  where
    by : (b : Bool) → find test (range_with_len (a + 1) next) ≡ option_or (find test (range_with_len (a + 1) k)) (cond (test at) (Some at) None) → cond b (Some a) (find test (range_with_len (a + 1) next)) ≡ option_or (cond b (Some a) (find test (range_with_len (a + 1) k))) (cond (test at) (Some at) None)
    by true behind = refl
    by false behind = behind

-- a search of a range that has a number which passes: one below it passes first, or it is found
find_first : (test : ℕ → Bool) (a k n at left : ℕ) → at ≡ a + k → n ≡ k + 1 + left → test at ≡ true → find test (range_with_len a n) ≡ Some (unwrap_or (find test (range_with_len a k)) at)
find_first test a zero zero at left is all passes = absurd (omega (arith, all))
find_first test a zero (suc n) at left is all passes =
    let start : a ≡ at = omega (arith, is) in
    ap (λ a. cond (test a) (Some a) (find test (range_with_len (a + 1) n))) start
    ∙ ap (λ b. cond b (Some at) (find test (range_with_len (at + 1) n))) passes
find_first test a (suc k) zero at left is all passes = absurd (omega (arith, all))
find_first test a (suc k) (suc n) at left is all passes =
    by (test a) (find_first test (a + 1) k n at left (omega (arith, is)) (omega (arith, all)) passes)
  where
    by : (b : Bool) → find test (range_with_len (a + 1) n) ≡ Some (unwrap_or (find test (range_with_len (a + 1) k)) at) → cond b (Some a) (find test (range_with_len (a + 1) n)) ≡ Some (unwrap_or (cond b (Some a) (find test (range_with_len (a + 1) k))) at)
    by true behind = refl
    by false behind = behind

lowest_more : (plant : PlantData) (source pool origin : ℕ) → lowest_below plant (source + 1) pool origin ≡ option_or (lowest_below plant source pool origin) (cond (comes_by plant pool origin source) (Some source) None)
lowest_more plant source pool origin =
    find_more (comes_by plant pool origin) 0 source source (source + 1) (omega arith) (omega arith)

or_none : (o : Option ℕ) → option_or o None ≡ o
or_none None = refl
or_none (Some x) = refl

not_by : (plant : PlantData) (source pool origin : ℕ) → pool_of plant source ≡ None → comes_by plant pool origin source ≡ false
not_by plant source pool origin local =
    ap (λ o. option_eq nat_eq o (Some pool) && option_eq nat_eq (origin_of plant source) (Some origin)) local

-- a local source is no way's
pub lowest_local : (plant : PlantData) (source : ℕ) (lowest : BTreeMap ℕ ℕ) → pool_of plant source ≡ None → AreLowest plant source lowest → AreLowest plant (source + 1) lowest
lowest_local plant source lowest local are pool origin within =
    are pool origin within
    ∙ sym (or_none (lowest_below plant source pool origin))
    ∙ ap (λ b. option_or (lowest_below plant source pool origin) (cond b (Some source) None)) (sym (not_by plant source pool origin local))
    ∙ sym (lowest_more plant source pool origin)

-- numbers of ways are one where their pools and origins are
same_way : (pool origin other_pool other_origin : ℕ) → origin < 65536 → other_origin < 65536 → (way_number other_pool other_origin == way_number pool origin) ≡ (nat_eq pool other_pool && nat_eq origin other_origin)
same_way pool origin other_pool other_origin within other_within = by (cases_eq pool other_pool) (cases_eq origin other_origin)
  where
    by : (pool ≡ other_pool) ⊎ (pool ≢ other_pool) → (origin ≡ other_origin) ⊎ (origin ≢ other_origin) → (way_number other_pool other_origin == way_number pool origin) ≡ (nat_eq pool other_pool && nat_eq origin other_origin)
    by (inl pools) (inl origins) =
        eq-eqb (way_number other_pool other_origin) (way_number pool origin) (omega (arith, pools, origins))
        ∙ sym (ap (λ b. b && nat_eq origin other_origin) (eq-eqb pool other_pool pools) ∙ eq-eqb origin other_origin origins)
    by (inl pools) (inr apart) =
        ne_eqb (way_number other_pool other_origin) (way_number pool origin) (λ e. apart (omega (arith, e, pools)))
        ∙ sym (and_right (nat_eq pool other_pool) (nat_eq origin other_origin) (ne_eqb origin other_origin apart))
    by (inr apart) origins =
        ne_eqb (way_number other_pool other_origin) (way_number pool origin) (λ e. apart (omega (arith, e, within, other_within)))
        ∙ sym (ap (λ b. b && nat_eq origin other_origin) (ne_eqb pool other_pool apart))

-- whether a source comes by a way, by its own pool and origin
by_own : (plant : PlantData) (source pool origin other_pool other_origin : ℕ) → pool_of plant source ≡ Some pool → origin_of plant source ≡ Some origin → comes_by plant other_pool other_origin source ≡ (nat_eq pool other_pool && nat_eq origin other_origin)
by_own plant source pool origin other_pool other_origin pooled stands =
    ap (λ o. option_eq nat_eq o (Some other_pool) && option_eq nat_eq (origin_of plant source) (Some other_origin)) pooled
    ∙ ap (λ o. nat_eq pool other_pool && option_eq nat_eq o (Some other_origin)) stands

-- a remote source comes to its number
pub lowest_remote : (plant : PlantData) (source pool origin : ℕ) (old new : BTreeMap ℕ ℕ) → pool_of plant source ≡ Some pool → origin_of plant source ≡ Some origin → origin < 65536 → AreLowest plant source old → ComesTo old new (way_number pool origin) source → AreLowest plant (source + 1) new
lowest_remote plant source pool origin old new pooled stands within are comes other_pool other_origin other_within =
    comes (way_number other_pool other_origin)
    ∙ ap (λ o. option_or o (cond (way_number other_pool other_origin == way_number pool origin) (Some source) None)) (are other_pool other_origin other_within)
    ∙ ap (λ b. option_or (lowest_below plant source other_pool other_origin) (cond b (Some source) None)) (same_way pool origin other_pool other_origin within other_within ∙ sym (by_own plant source pool origin other_pool other_origin pooled stands))
    ∙ sym (lowest_more plant source other_pool other_origin)

-- the way of a remote source is the lowest that came so before, or the source itself
pub way_found : (plant : PlantData) (source pool origin : ℕ) (lowest : BTreeMap ℕ ℕ) → source < length plant.sources → pool_of plant source ≡ Some pool → origin_of plant source ≡ Some origin → origin < 65536 → AreLowest plant source lowest → Some (unwrap_or (get nat_cmp lowest (way_number pool origin)) source) ≡ source_way plant source
unfolding way_of
way_found plant source pool origin lowest inside pooled stands within are =
    ap (λ o. Some (unwrap_or o source)) (are pool origin within)
    ∙ sym (find_first (comes_by plant pool origin) 0 source (length plant.sources) source (length plant.sources - (source + 1)) (omega arith) (omega (arith, inside)) comes)
    ∙ sym (source_way_of plant source pool origin pooled stands)
  where
    comes : comes_by plant pool origin source ≡ true
    comes =
        by_own plant source pool origin pool origin pooled stands
        ∙ ap (λ b. b && nat_eq origin origin) (eq-eqb pool pool refl)
        ∙ eq-eqb origin origin refl

-- a local source has no way
pub local_way : (plant : PlantData) (source : ℕ) → pool_of plant source ≡ None → source_way plant source ≡ None
local_way plant source local =
    ap (λ p. option_and_then (λ pool. option_and_then (way_of plant pool) (origin_of plant source)) p) local

-- nothing is known of any source at first
pub lowest_none : (plant : PlantData) (lowest : BTreeMap ℕ ℕ) → IsEmpty lowest → AreLowest plant 0 lowest
lowest_none plant lowest empty pool origin within = ap (lookup (is_at (nat_cmp (way_number pool origin)))) empty

pub ways_none : (plant : PlantData) (ways : Entries ℕ) → ways ≡ finite.empty → AreWaysBelow plant 0 ways
ways_none plant ways empty number =
    ap (λ (ways : Entries ℕ). finite.get ways number) empty
    ∙ finite.get-empty nat_cmp number
    ∙ sym (ap (λ b. cond b (source_way plant number) None) (le-ltb number 0 (omega arith)))

-- the next number is below one more, and each other one is where it was
below_next : (number source : ℕ) → number ≢ source → nat_lt number source ≡ nat_lt number (source + 1)
below_next number source apart = by (cases_lt number source)
  where
    by : (number < source) ⊎ (source ≤ number) → nat_lt number source ≡ nat_lt number (source + 1)
    by (inl below) = lt-ltb number source below ∙ sym (lt-ltb number (source + 1) (omega (arith, below)))
    by (inr above) = le-ltb number source above ∙ sym (le-ltb number (source + 1) (omega (arith, above, apart)))

-- the next source is given its way
pub ways_more : (plant : PlantData) (source : ℕ) (old new : Entries ℕ) (way : Option ℕ) → AreWaysBelow plant source old → way ≡ source_way plant source → new ≡ put old source way → AreWaysBelow plant (source + 1) new
ways_more plant source old new way are is put_in number =
    ap (λ (ways : Entries ℕ). finite.get ways number) put_in ∙ by (cases_eq number source)
  where
    by : (number ≡ source) ⊎ (number ≢ source) → finite.get (put old source way) number ≡ cond (nat_lt number (source + 1)) (source_way plant number) None
    by (inl here) =
        ap (finite.get (put old source way)) here
        ∙ get-put_same old source way
        ∙ is
        ∙ ap (source_way plant) (sym here)
        ∙ sym (ap (λ b. cond b (source_way plant number) None) (lt-ltb number (source + 1) (omega (arith, here))))
    by (inr apart) =
        get-put_other old source way number apart
        ∙ are number
        ∙ ap (λ b. cond b (source_way plant number) None) (below_next number source apart)

-- all sources have their ways, and no others
pub ways_all : (plant : PlantData) (ways : Entries ℕ) → AreWaysBelow plant (length plant.sources) ways → AreWays plant ways
ways_all plant ways are number = are number ∙ by (cases_lt number (length plant.sources))
  where
    by : (number < length plant.sources) ⊎ (length plant.sources ≤ number) → cond (nat_lt number (length plant.sources)) (source_way plant number) None ≡ source_way plant number
    by (inl inside) = ap (λ b. cond b (source_way plant number) None) (lt-ltb number (length plant.sources) inside)
    by (inr past) =
        ap (λ b. cond b (source_way plant number) None) (le-ltb number (length plant.sources) past)
        ∙ sym (local_way plant number (ap (λ found. option_and_then (λ (found : Source). found.pool) found) (slice_get_past plant.sources number past)))
