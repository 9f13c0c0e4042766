-- What is found with all new sources put in is the lowest pool that a list of a panel that is no master exceeds.
use Rattle.std.proofs.Common.{◌≡◌, ◌⊎◌, ℕ, ◌-◌, ◌<◌, ◌≤◌, nat_lt, Bool, true, false, List, length, find, get_or, Option, Some, None, inl, inr, sym, ap, subst, ◌∙◌, arith, ltb-true}
use Rattle.std.specs.Prelude.{min, max, is_none}
use Rattle.std.proofs.Math.Nat.{min-le_left}
use Rattle.std.proofs.lemmas.Bool.{cases_lt, false≢true, lt-ltb, false_from_ne_true}
use Rattle.std.specs.Option.{option_map}
use Rattle.std.specs.List.{range_with_len}
use Rattle.plant_config.specs.declared.records.Change.{Change}
use Rattle.plant_config.specs.Plant.{PlantData}
use Rattle.plant_config.specs.IsPlant.{IsPlant}
use Rattle.crosspoint_state.specs.Crosspoints.{Crosspoints}
use Rattle.crosspoint_state.specs.Ties.{size_of, wanted}
use Rattle.crosspoint_state.specs.Applied.{put_all}
use Rattle.crosspoint_state.specs.Laws.{AreInside}
use Rattle.tie_pools.specs.Counts.{count_at}
use Rattle.tie_pools.specs.CountsInside.{Demand}
use Rattle.tie_pools.specs.DemandInside.{AreDemandOf, is_over, measured, over, in_use_of}
use Rattle.tie_pools.specs.Reserve.{reserve_of, limit_for, is_exceeded, exceeded, are_enough_for}
use Rattle.tie_pools.specs.ReserveInside.{AreLimited, lower_of, lowest_over}
use Rattle.tie_pools.specs.Plans.{IsExhausted}
use Rattle.tie_pools.specs.declared.planned.Exhausted.{Exhausted}
use Rattle.tie_pools.proofs.OverLemmas.{size_kept_of, exhausted_where_over}
use Rattle.tie_pools.proofs.LowestLemmas.{IsLowest, IsLowestOf, find_is, one_lowest}
use Rattle.tie_pools.proofs.RiseLemmas.{low_limit, full_limit, IsTaken, taken_or_not, no_more, taken_below}
use Rattle.tie_pools.proofs.OverLimitLemmas.{lower_same, IsAtMost, lower_first, lower_second, lower_is, found_low, IsOver, found_over, limit_kept}

-- What is found with all new sources put in is the lowest pool that the list exceeds.
module _ (plant : PlantData) (points : Crosspoints) (changes : List Change) (demand after : Demand) (limits : List ℕ) (is : IsPlant plant) (inside : AreInside plant changes) (before : AreDemandOf plant points demand) (counted : AreDemandOf plant (put_all points changes) after) (limited : AreLimited plant demand limits changes) where
  abbrev pub limit : ℕ → ℕ
  limit = limit_for plant points false

  abbrev pub new : ℕ → ℕ
  new = wanted plant (put_all points changes)

  abbrev pub test : ℕ → Bool
  test = is_exceeded plant points false changes

  kept : (pool : ℕ) → IsTaken plant changes pool → get_or limits pool 0 ≡ limit pool
  kept pool taken =
      limit_kept plant demand limits changes pool limited taken
      ∙ ap (λ count. min (size_of plant pool) (max (size_of plant pool - reserve_of plant pool) count)) (before.used pool)

  -- a pool that is out of ties is exceeded
  out_exceeds : (pool : ℕ) → size_of plant pool < new pool → test pool ≡ true
  out_exceeds pool more =
      let most : limit pool ≤ size_of plant pool = min-le_left (size_of plant pool) (max (size_of plant pool - reserve_of plant pool) (wanted plant points pool)) in
      let less : limit pool < new pool = omega (arith, more, most) in
      lt-ltb (limit pool) (new pool) less

  -- one that is exceeded and isn't out of ties is one by which a new source comes
  exceeded_how : (pool : ℕ) → test pool ≡ true → (size_of plant pool < new pool) ⊎ IsTaken plant changes pool
  exceeded_how pool exceeds = elim (cases_lt (size_of plant pool) (new pool)) [
    | inl more ↦ inl more
    | inr fits ↦ elim (taken_or_not plant changes pool) [
      | inl taken ↦ inr taken
      | inr none ↦
          let less : limit pool < new pool = ltb-true (limit pool) (new pool) exceeds in
          let rises = low_limit (size_of plant pool) (size_of plant pool - reserve_of plant pool) (wanted plant points pool) (new pool) fits less in
          absurd (omega (arith, rises, no_more plant points changes demand pool inside before none))
    ]
  ]

  over_here_test : (pool : ℕ) → IsTaken plant changes pool → test pool ≡ true → nat_lt (get_or limits pool 0) (count_at after.used.entries pool) ≡ true
  over_here_test pool taken exceeds =
      ap (λ limit. nat_lt limit (count_at after.used.entries pool)) (kept pool taken)
      ∙ ap (nat_lt (limit pool)) (counted.used pool)
      ∙ exceeds

  abbrev pub held : Option Exhausted
  held = lowest_over plant after limits None changes

  -- what is found is at most each pool that is exceeded
  held_low : (pool : ℕ) → IsTaken plant changes pool → test pool ≡ true → IsAtMost held pool
  held_low pool taken exceeds = found_low plant after limits changes None pool taken (over_here_test pool taken exceeds)

  held_is : (fault : Exhausted) → held ≡ Some fault → IsOver plant after limits changes fault
  held_is fault found = elim (found_over plant after limits changes None fault found) [
    | inl none ↦ cc
    | inr so ↦ so
  ]

  held_exceeds : (fault : Exhausted) → held ≡ Some fault → test fault.pool ≡ true
  held_exceeds fault found =
      let over = held_is fault found in
      ap (λ limit. nat_lt limit (new fault.pool)) (sym (kept fault.pool over.taken))
      ∙ ap (nat_lt (get_or limits fault.pool 0)) (sym (counted.used fault.pool))
      ∙ over.more

  -- The search for a pool that is out of ties.

  abbrev pub out : Option ℕ
  out = find (is_over (in_use_of after)) (range_with_len 0 after.used.room)

  out_is : IsLowestOf (is_over (in_use_of after)) 0 after.used.room out
  out_is = find_is (is_over (in_use_of after)) 0 after.used.room

  out_test : (pool : ℕ) → is_over (in_use_of after) pool ≡ nat_lt (size_of plant pool) (new pool)
  out_test pool =
      ap (λ size. nat_lt size (count_at after.used.entries pool)) (size_kept_of plant points changes after counted pool)
      ∙ ap (nat_lt (size_of plant pool)) (counted.used pool)

  out_low : (pool : ℕ) → pool < length plant.pools → size_of plant pool < new pool → IsAtMost (over (in_use_of after)) pool
  out_low pool below more = by out out_is
    where
      passes : is_over (in_use_of after) pool ≡ true
      passes = out_test pool ∙ lt-ltb (size_of plant pool) (new pool) more

      by : (found : Option ℕ) → IsLowestOf (is_over (in_use_of after)) 0 after.used.room found → IsAtMost (option_map (measured (in_use_of after)) found) pool
      by None lowest = false≢true (sym (lowest pool (omega arith) (omega (arith, below, counted.room.used))) ∙ passes)
      by (Some other) lowest = elim (cases_lt pool other) [
        | inl less ↦ absurd (false≢true (sym (lowest.others pool (omega arith) less) ∙ passes))
        | inr most ↦ most
      ]

  out_found : (fault : Exhausted) → over (in_use_of after) ≡ Some fault → IsLowest (is_over (in_use_of after)) 0 after.used.room fault.pool
  out_found fault e = by out out_is e
    where
      by : (found : Option ℕ) → IsLowestOf (is_over (in_use_of after)) 0 after.used.room found → option_map (measured (in_use_of after)) found ≡ Some fault → IsLowest (is_over (in_use_of after)) 0 after.used.room fault.pool
      by None lowest e = cc
      by (Some pool) lowest e =
          let is : measured (in_use_of after) pool ≡ fault = cc in
          subst (λ pool. IsLowest (is_over (in_use_of after)) 0 after.used.room pool) (ap (λ (fault : Exhausted). fault.pool) is) lowest

  out_more : (fault : Exhausted) → over (in_use_of after) ≡ Some fault → size_of plant fault.pool < new fault.pool
  out_more fault e = ltb-true (size_of plant fault.pool) (new fault.pool) (sym (out_test fault.pool) ∙ (out_found fault e).passes)

  -- What is found of both.

  abbrev pub found : Option Exhausted
  found = lower_of held (over (in_use_of after))

  found_at_most : (pool : ℕ) → pool < length plant.pools → test pool ≡ true → IsAtMost found pool
  found_at_most pool below exceeds = elim (exceeded_how pool exceeds) [
    | inl more ↦ lower_second held (over (in_use_of after)) pool (out_low pool below more)
    | inr taken ↦ lower_first held (over (in_use_of after)) pool (held_low pool taken exceeds)
  ]

  -- of two pools that are one the first is found
  found_held : (fault : Exhausted) → IsAtMost held fault.pool → over (in_use_of after) ≡ Some fault → found ≡ Some fault → held ≡ Some fault
  found_held fault at second is = by held at (ap (lower_of held) (sym second) ∙ is)
    where
      by : (first : Option Exhausted) → IsAtMost first fault.pool → lower_of first (Some fault) ≡ Some fault → first ≡ Some fault
      by None at is = absurd at
      by (Some one) at is = lower_same fault one at is

  -- the pool that is found is exceeded, and told by its limit
  record IsTold (fault : Exhausted) : Type 0 where
    exceeds : test fault.pool ≡ true
    below : fault.pool < length plant.pools
    wanted : fault.wanted ≡ new fault.pool
    limit_is : fault.limit ≡ limit fault.pool

  held_told : (fault : Exhausted) → held ≡ Some fault → IsTold fault
  held_told fault is_held =
      let so = held_is fault is_held in
      record {
        exceeds = held_exceeds fault is_held;
        below = taken_below plant changes fault.pool is so.taken;
        wanted = so.wanted ∙ counted.used fault.pool;
        limit_is = so.limit ∙ kept fault.pool so.taken;
      }

  out_told : (fault : Exhausted) → over (in_use_of after) ≡ Some fault → found ≡ Some fault → IsTold fault
  out_told fault is_out is_found = elim (taken_or_not plant changes fault.pool) [
    | inl taken ↦ held_told fault (found_held fault (held_low fault.pool taken (out_exceeds fault.pool (out_more fault is_out))) is_out is_found)
    | inr none ↦
        let out_of = exhausted_where_over plant points changes after counted fault is_out in
        let more : size_of plant fault.pool < new fault.pool = out_more fault is_out in
        let most = no_more plant points changes demand fault.pool inside before none in
        let low = (out_found fault is_out).high in
        record {
          exceeds = out_exceeds fault.pool more;
          below = omega (arith, low, counted.room.used);
          wanted = out_of.wanted;
          limit_is = out_of.limit ∙ sym (full_limit (size_of plant fault.pool) (size_of plant fault.pool - reserve_of plant fault.pool) (wanted plant points fault.pool) (omega (arith, more, most)));
        }
  ]

  found_told : (fault : Exhausted) → found ≡ Some fault → IsTold fault
  found_told fault is_found = elim (lower_is held (over (in_use_of after)) fault is_found) [
    | inl first ↦ held_told fault first
    | inr second ↦ out_told fault second is_found
  ]

  abbrev pool_found : Option Exhausted → Option ℕ
  pool_found = option_map (λ (fault : Exhausted). fault.pool)

  lowest_is : (what : Option Exhausted) → found ≡ what → IsLowestOf test 0 (length plant.pools) (pool_found what)
  lowest_is None none = λ n low high. false_from_ne_true (test n) (λ exceeds. subst (λ what. IsAtMost what n) none (found_at_most n (omega (arith, high)) exceeds))
  lowest_is (Some fault) some =
      let told = found_told fault some in
      record {
        passes = told.exceeds;
        low = omega arith;
        high = omega (arith, told.below);
        others = λ n low less. false_from_ne_true (test n) (λ exceeds.
            let below = told.below in
            let at : fault.pool ≤ n = subst (λ what. IsAtMost what n) some (found_at_most n (omega (arith, less, below)) exceeds) in
            absurd (omega (arith, at, less)));
      }

  exceeded_is : (what : Option Exhausted) → found ≡ what → exceeded plant points false changes ≡ pool_found what
  unfolding exceeded
  exceeded_is what is = one_lowest test 0 (length plant.pools) (find test (range_with_len 0 (length plant.pools))) (pool_found what) (find_is test 0 (length plant.pools)) (lowest_is what is)

  pub none_exceeded : None ≡ found → are_enough_for plant points false changes ≡ true
  none_exceeded none = ap is_none (exceeded_is None (sym none))

  pub found_exhausted : (fault : Exhausted) → Some fault ≡ found → IsExhausted plant points false changes fault
  found_exhausted fault some =
      let told = found_told fault (sym some) in
      record { lowest = exceeded_is (Some fault) (sym some); wanted = told.wanted; limit = told.limit_is }
