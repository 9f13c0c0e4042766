-- The pools that are kept as over stay those that are, where the count of one pool changes.
use Rattle.std.proofs.Common.{◌≡◌, ◌≢◌, ◌⊎◌, ℕ, ◌<◌, ◌≤◌, nat_lt, Bool, not, ◌&&◌, ◌||◌, List, length, get_or, Option, inl, inr, refl, sym, ap, ◌∙◌, arith, eq-eqb}
use Rattle.std.proofs.lemmas.Bool.{cases_eq, ne_eqb, lt-ltb, le-ltb}
use Rattle.std.proofs.Math.Bool.{and-false}
use Rattle.std.proofs.lemmas.List.{length-map}
use Rattle.std.specs.Ordering.{nat_cmp}
use Rattle.std.specs.Option.{option_map, option_map_or}
use Rattle.std.specs.FinMap as finite
use Rattle.std.specs.FinSet.{empty, contains, insert, remove, contains-empty}
use Rattle.number_tables.specs.Table.{Entries, Table}
use Rattle.number_tables.specs.Numbers.{Numbers, lowest}
use Rattle.number_tables.proofs.Members.{contains_inserted, contains_removed}
use Rattle.plant_config.specs.declared.records.Pool.{Pool}
use Rattle.plant_config.specs.Plant.{PlantData}
use Rattle.plant_config.specs.IsPlant.{IsPlant}
use Rattle.tie_pools.specs.Counts.{count_at, sizes_of}
use Rattle.tie_pools.specs.CountsInside.{InUse}
use Rattle.tie_pools.specs.DemandInside.{is_over, measured, over, KeepsOver}
use Rattle.tie_pools.proofs.Searches.{lowest_below}
use Rattle.tie_pools.proofs.DemandLemmas.{count_same, count_other}

abbrev in_use : Table ℕ → List ℕ → InUse
in_use used sizes = record { used = used; sizes = sizes }

-- a pool that is kept as over
abbrev is_kept : Table ℕ → List ℕ → ℕ → Bool
is_kept used sizes pool = nat_lt pool used.room && is_over (in_use used sizes) pool

-- The count of a pool changes, and is compared with its size.
module _ (used new : Table ℕ) (sizes : List ℕ) (kept : Numbers) (pool count size found : ℕ) (is : KeepsOver used sizes kept) (within : pool < used.room) (room : new.room ≡ used.room) (entries : new.entries ≡ finite.insert used.entries pool count) (sized : size ≡ get_or sizes pool 0) (counted : found ≡ count_at new.entries pool) where
  found_is : found ≡ count
  found_is = counted ∙ ap (λ (entries : Entries ℕ). count_at entries pool) entries ∙ count_same used.entries pool count

  here : is_kept new sizes pool ≡ nat_lt size found
  here =
      ap (λ room. nat_lt pool room && is_over (in_use new sizes) pool) room
      ∙ ap (λ b. b && is_over (in_use new sizes) pool) (lt-ltb pool used.room within)
      ∙ ap (λ size. nat_lt size (count_at new.entries pool)) (sym sized)
      ∙ ap (nat_lt size) (sym counted)

  there : (other : ℕ) → other ≢ pool → is_kept new sizes other ≡ is_kept used sizes other
  there other apart =
      ap (λ room. nat_lt other room && is_over (in_use new sizes) other) room
      ∙ ap (λ (entries : Entries ℕ). nat_lt other used.room && nat_lt (get_or sizes other 0) (count_at entries other)) entries
      ∙ ap (λ count. nat_lt other used.room && nat_lt (get_or sizes other 0) count) (count_other used.entries pool count other apart)

  -- what is so of the pool, and of each other one, is so of all
  kept_by : (after : Numbers) → contains after pool ≡ nat_lt size found → ((other : ℕ) → other ≢ pool → contains after other ≡ contains kept other) → KeepsOver new sizes after
  kept_by after own others = record {
    sized = is.sized ∙ sym room;
    few = omega (arith, is.few, room);
    over = λ other. by other (cases_eq other pool);
  }
    where
      by : (other : ℕ) → (other ≡ pool) ⊎ (other ≢ pool) → contains after other ≡ is_kept new sizes other
      by other (inl same) = ap (contains after) same ∙ own ∙ sym here ∙ ap (is_kept new sizes) (sym same)
      by other (inr apart) = others other apart ∙ is.over other ∙ sym (there other apart)

  pub over_now : size < found → KeepsOver new sizes (insert kept pool)
  over_now more =
      kept_by (insert kept pool)
      (contains_inserted kept pool pool ∙ ap (λ b. b || contains kept pool) (eq-eqb pool pool refl) ∙ sym (lt-ltb size found more))
      (λ other apart. contains_inserted kept pool other ∙ ap (λ b. b || contains kept other) (ne_eqb other pool apart))

  pub within_now : found ≤ size → KeepsOver new sizes (remove kept pool)
  within_now fits =
      kept_by (remove kept pool)
      (contains_removed kept pool pool ∙ ap (λ b. not b && contains kept pool) (eq-eqb pool pool refl) ∙ sym (le-ltb size found fits))
      (λ other apart. contains_removed kept pool other ∙ ap (λ b. not b && contains kept other) (ne_eqb other pool apart))

  -- what the pool was
  before : contains kept pool ≡ nat_lt size (count_at used.entries pool)
  before =
      is.over pool
      ∙ ap (λ b. b && is_over (in_use used sizes) pool) (lt-ltb pool used.room within)
      ∙ ap (λ size. nat_lt size (count_at used.entries pool)) (sym sized)

  pub still_over : size < found → count ≤ count_at used.entries pool → KeepsOver new sizes kept
  still_over more fell =
      let was : size < count_at used.entries pool = omega (arith, more, fell, found_is) in
      kept_by kept (before ∙ lt-ltb size (count_at used.entries pool) was ∙ sym (lt-ltb size found more)) (λ other apart. refl)

  pub still_within : found ≤ size → count_at used.entries pool ≤ count → KeepsOver new sizes kept
  still_within fits rose =
      let was : count_at used.entries pool ≤ size = omega (arith, fits, rose, found_is) in
      kept_by kept (before ∙ le-ltb size (count_at used.entries pool) was ∙ sym (le-ltb size found fits)) (λ other apart. refl)

-- at the start no pool is over
pub none_over : (plant : PlantData) (used : Table ℕ) (sizes : List ℕ) (kept : Numbers) → IsPlant plant → used.entries ≡ finite.empty → used.room ≡ length plant.pools → sizes ≡ sizes_of plant → kept ≡ empty → KeepsOver used sizes kept
none_over plant used sizes kept is none room are nobody = record {
  sized = ap (λ (sizes : List ℕ). length sizes) are ∙ length-map plant.pools (λ (pool : Pool). pool.ties) ∙ sym room;
  few = omega (arith, room, is.linked.pools.0.1);
  over = λ pool.
      ap (λ kept. contains kept pool) nobody
      ∙ contains-empty nat_cmp pool
      ∙ sym (ap (λ (entries : Entries ℕ). nat_lt pool used.room && nat_lt (get_or sizes pool 0) (count_at entries pool)) none
      ∙ ap (λ count. nat_lt pool used.room && nat_lt (get_or sizes pool 0) (option_map_or (λ (count : ℕ). count) count 0)) (finite.get-empty nat_cmp pool)
      ∙ ap (λ b. nat_lt pool used.room && b) (le-ltb (get_or sizes pool 0) 0 (omega arith))
      ∙ and-false (nat_lt pool used.room));
}

-- the lowest pool that is kept as over is the lowest one that is
pub over_is : (used : Table ℕ) (sizes : List ℕ) (kept : Numbers) (found : Option ℕ) → KeepsOver used sizes kept → found ≡ lowest kept → option_map (measured (in_use used sizes)) found ≡ over (in_use used sizes)
over_is used sizes kept found is e = ap (option_map (measured (in_use used sizes))) (e ∙ lowest_below kept (is_over (in_use used sizes)) used.room is.over)
