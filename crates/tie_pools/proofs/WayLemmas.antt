-- The ways of remote sources: which pool and which origin a way has.
use Rattle.std.proofs.Common.{◌≡◌, ℕ, ◌+◌, ◌<◌, nat_eq, true, false, length, find, slice_get, Option, Some, None, refl, sym, ap, ◌∙◌, arith, eq-eqb}
use Rattle.std.proofs.lemmas.Bool.{false≢true, and_parts, and_from}
use Rattle.std.proofs.lemmas.Option.{slice_get_within}
use Rattle.std.specs.Option.{option_and_then, option_eq}
use Rattle.std.specs.List.{range_with_len}
use Rattle.plant_config.specs.declared.records.Source.{Source}
use Rattle.plant_config.specs.Plant.{PlantData}
use Rattle.plant_config.specs.Sources.{origin_of, pool_of}
use Rattle.crosspoint_state.proofs.FeedLists.{find_number, none_number}
use Rattle.crosspoint_state.proofs.TieLemmas.{same_option, remote_origin}
use Rattle.tie_pools.specs.Ways.{comes_by, way_of, source_way}

same_number : (a b : ℕ) → Some a ≡ Some b → a ≡ b
same_number a b e = cc

none_some : (x : ℕ) → None ≡ Some x → ⊥
none_some x e = cc

itself : (a : Option ℕ) (x : ℕ) → a ≡ Some x → option_eq nat_eq a (Some x) ≡ true
itself a x e = ap (λ o. option_eq nat_eq o (Some x)) e ∙ eq-eqb x x refl

-- a way comes by its pool and stands for its origin
pub way_is : (plant : PlantData) (pool origin way : ℕ) → way_of plant pool origin ≡ Some way → (pool_of plant way ≡ Some pool) × (origin_of plant way ≡ Some origin) × (way < length plant.sources)
unfolding way_of
way_is plant pool origin way e =
    let found = find_number (comes_by plant pool origin) 0 (length plant.sources) way e in
    let parts = and_parts (option_eq nat_eq (pool_of plant way) (Some pool)) (option_eq nat_eq (origin_of plant way) (Some origin)) found.1 in
    let below : way < 0 + length plant.sources = found.0 in (
      same_option (pool_of plant way) (Some pool) parts.0,
      same_option (origin_of plant way) (Some origin) parts.1,
      omega (arith, below),
    )

-- a source with a pool is one of the plant
is_source : (plant : PlantData) (source pool : ℕ) → pool_of plant source ≡ Some pool → source < length plant.sources
is_source plant source pool e = by (slice_get plant.sources source) refl e
  where
    by : (found : Option Source) → slice_get plant.sources source ≡ found → option_and_then (λ (found : Source). found.pool) found ≡ Some pool → source < length plant.sources
    by None at e = cc
    by (Some found) at e = slice_get_within plant.sources source found at

-- a source that comes so has a way
pub way_exists : (plant : PlantData) (source pool origin : ℕ) → pool_of plant source ≡ Some pool → origin_of plant source ≡ Some origin → (way : ℕ) × (way_of plant pool origin ≡ Some way)
unfolding way_of
way_exists plant source pool origin pooled from = by (find (comes_by plant pool origin) (range_with_len 0 (length plant.sources))) refl
  where
    comes : comes_by plant pool origin source ≡ true
    comes = and_from (option_eq nat_eq (pool_of plant source) (Some pool)) (option_eq nat_eq (origin_of plant source) (Some origin)) (itself (pool_of plant source) pool pooled) (itself (origin_of plant source) origin from)

    by : (found : Option ℕ) → find (comes_by plant pool origin) (range_with_len 0 (length plant.sources)) ≡ found → (way : ℕ) × (find (comes_by plant pool origin) (range_with_len 0 (length plant.sources)) ≡ Some way)
    by None none =
        let start : source ≡ 0 + source = omega arith in
        let fails : comes_by plant pool origin (0 + source) ≡ false = none_number (comes_by plant pool origin) 0 (length plant.sources) source none (is_source plant source pool pooled) in
        absurd (false≢true (sym fails ∙ sym (ap (comes_by plant pool origin) start) ∙ comes))
    by (Some way) found = (way, found)

-- a way is of one pool and one origin
pub ways_differ : (plant : PlantData) (pool origin other_pool other_origin way : ℕ) → way_of plant pool origin ≡ Some way → way_of plant other_pool other_origin ≡ Some way → (pool ≡ other_pool) × (origin ≡ other_origin)
ways_differ plant pool origin other_pool other_origin way e other =
    let is = way_is plant pool origin way e in
    let is_too = way_is plant other_pool other_origin way other in
    (same_number pool other_pool (sym is.0 ∙ is_too.0), same_number origin other_origin (sym is.1 ∙ is_too.1))

-- A source comes by a way: its pool and its origin are the way's.
pub record ComesByWay (plant : PlantData) (source way : ℕ) : Type 0 where
  pub pool : ℕ
  pub origin : ℕ
  pub pooled : pool_of plant source ≡ Some pool
  pub stands : origin_of plant source ≡ Some origin
  pub is : way_of plant pool origin ≡ Some way

pub source_way_is : (plant : PlantData) (source way : ℕ) → source_way plant source ≡ Some way → ComesByWay plant source way
source_way_is plant source way e = by (pool_of plant source) refl (origin_of plant source) refl e
  where
    by : (pool : Option ℕ) → pool_of plant source ≡ pool → (origin : Option ℕ) → origin_of plant source ≡ origin → option_and_then (λ (pool : ℕ). option_and_then (way_of plant pool) origin) pool ≡ Some way → ComesByWay plant source way
    by None pooled origin stands e = cc
    by (Some pool) pooled None stands e = cc
    by (Some pool) pooled (Some origin) stands e = record { pool = pool; origin = origin; pooled = pooled; stands = stands; is = e }

-- the way of a source, by its pool and its origin
pub source_way_of : (plant : PlantData) (source pool origin : ℕ) → pool_of plant source ≡ Some pool → origin_of plant source ≡ Some origin → source_way plant source ≡ way_of plant pool origin
source_way_of plant source pool origin pooled stands =
    ap (λ p. option_and_then (λ pool. option_and_then (way_of plant pool) (origin_of plant source)) p) pooled
    ∙ ap (λ o. option_and_then (way_of plant pool) o) stands

-- a source without a way is local
pub no_way : (plant : PlantData) (source : ℕ) → source_way plant source ≡ None → pool_of plant source ≡ None
no_way plant source e = by (pool_of plant source) refl
  where
    by : (pool : Option ℕ) → pool_of plant source ≡ pool → pool_of plant source ≡ None
    by None pooled = pooled
    by (Some pool) pooled =
        let from = remote_origin plant source pool pooled in
        let way = way_exists plant source pool from.0 pooled from.1 in
        absurd (none_some way.0 (sym e ∙ source_way_of plant source pool from.0 pooled from.1 ∙ way.1))
