-- The pool that the demand exceeds is the one that a list of changes exhausts.
use Rattle.std.proofs.Common.{◌≡◌, ℕ, nat_lt, nat_le, true, not, List, [], ◌∷◌, map, find, length, get_or, slice_get, Option, Some, None, zero, suc, inl, inr, refl, sym, ap, ◌∙◌, arith}
use Rattle.std.proofs.lemmas.Bool.{cases_lt, false_from_ne_true, leb-true, le-leb, lt-ltb, le-ltb}
use Rattle.std.specs.Option.{option_map, option_map_or}
use Rattle.std.specs.List.{range_with_len, list_all}
use Rattle.plant_config.specs.declared.records.Pool.{Pool}
use Rattle.plant_config.specs.declared.records.Change.{Change}
use Rattle.plant_config.specs.Plant.{PlantData}
use Rattle.crosspoint_state.specs.Crosspoints.{Crosspoints}
use Rattle.crosspoint_state.specs.Ties.{size_of, wanted}
use Rattle.crosspoint_state.specs.Applied.{put_all, is_enough, are_enough, exhausted}
use Rattle.crosspoint_state.proofs.LawLemmas.{ExhaustedWhereNotEnough-all}
use Rattle.tie_pools.specs.Counts.{count_at, sizes_of}
use Rattle.tie_pools.specs.CountsInside.{Demand}
use Rattle.tie_pools.specs.DemandInside.{AreDemandOf, is_over, measured, over, in_use_of}
use Rattle.tie_pools.specs.ReserveInside.{IsOut}
use Rattle.tie_pools.proofs.Searches.{find_alike}
use Rattle.tie_pools.specs.declared.planned.Exhausted.{Exhausted}

-- the size of a pool of a list
size_at : (pools : List Pool) (n : ℕ) → get_or (map (λ (pool : Pool). pool.ties) pools) n 0 ≡ option_map_or (λ (found : Pool). found.ties) (slice_get pools n) 0
size_at [] n = refl
size_at (pool ∷ pools) zero = refl
size_at (pool ∷ pools) (suc n) = size_at pools n

pub size_kept : (plant : PlantData) (pool : ℕ) → get_or (sizes_of plant) pool 0 ≡ size_of plant pool
size_kept plant pool = size_at plant.pools pool

pub more_than : (wanted size : ℕ) → not (nat_le wanted size) ≡ nat_lt size wanted
more_than wanted size =
    elim (cases_lt size wanted) [
      | inl less ↦
          ap not (false_from_ne_true (nat_le wanted size) (λ e. omega (arith, leb-true wanted size e, less)))
          ∙ sym (lt-ltb size wanted less)
      | inr more ↦
          ap not (le-leb wanted size more)
          ∙ sym (le-ltb size wanted more)
    ]

module _ (plant : PlantData) (points : Crosspoints) (changes : List Change) (demand : Demand) (counted : AreDemandOf plant (put_all points changes) demand) where
  pub size_kept_of : (pool : ℕ) → get_or demand.sizes pool 0 ≡ size_of plant pool
  size_kept_of pool = ap (λ sizes. get_or sizes pool 0) counted.room.sizes ∙ size_kept plant pool

  exhausted_over : exhausted plant points changes ≡ find (is_over (in_use_of demand)) (range_with_len 0 demand.used.room)
  unfolding exhausted
  exhausted_over =
      find_alike (λ pool. not (is_enough plant (put_all points changes) pool)) (is_over (in_use_of demand)) 0 (length plant.pools) (λ pool below.
      more_than (wanted plant (put_all points changes) pool) (size_of plant pool)
      ∙ ap (λ count. nat_lt (size_of plant pool) count) (sym (counted.used pool))
      ∙ ap (λ size. nat_lt size (count_at demand.used.entries pool)) (sym (size_kept_of pool)))
      ∙ ap (λ count. find (is_over (in_use_of demand)) (range_with_len 0 count)) (sym counted.room.used)

  pub exhausted_where_over : (fault : Exhausted) → over (in_use_of demand) ≡ Some fault → IsOut plant points changes fault
  exhausted_where_over fault e = by (find (is_over (in_use_of demand)) (range_with_len 0 demand.used.room)) refl e
    where
      by : (found : Option ℕ) → find (is_over (in_use_of demand)) (range_with_len 0 demand.used.room) ≡ found → option_map (measured (in_use_of demand)) found ≡ Some fault → IsOut plant points changes fault
      by None found e = cc
      by (Some pool) found e =
          let is : measured (in_use_of demand) pool ≡ fault = cc in
          let same : pool ≡ fault.pool = ap (λ (fault : Exhausted). fault.pool) is in
          record {
            lowest = exhausted_over ∙ found ∙ ap Some same;
            wanted = sym (ap (λ (fault : Exhausted). fault.wanted) is) ∙ counted.used pool ∙ ap (wanted plant (put_all points changes)) same;
            limit = sym (ap (λ (fault : Exhausted). fault.limit) is) ∙ size_kept_of pool ∙ ap (size_of plant) same;
          }

  pub enough_where_none_over : over (in_use_of demand) ≡ None → are_enough plant points changes ≡ true
  enough_where_none_over e = (ExhaustedWhereNotEnough-all plant points changes).0 (by (find (is_over (in_use_of demand)) (range_with_len 0 demand.used.room)) refl e)
    where
      by : (found : Option ℕ) → find (is_over (in_use_of demand)) (range_with_len 0 demand.used.room) ≡ found → option_map (measured (in_use_of demand)) found ≡ None → exhausted plant points changes ≡ None
      by None found e = exhausted_over ∙ found
      by (Some pool) found e = cc

-- a plant without pools has enough for all changes
pub enough_without_pools : (plant : PlantData) (points : Crosspoints) (changes : List Change) → length plant.pools ≡ 0 → are_enough plant points changes ≡ true
unfolding are_enough
enough_without_pools plant points changes none = ap (λ count. list_all (is_enough plant (put_all points changes)) (range_with_len 0 count)) none
