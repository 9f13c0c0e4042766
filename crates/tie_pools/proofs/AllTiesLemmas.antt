-- Whoever may use all ties, and what those may who may not.
use Rattle.std.proofs.Common.{◌≡◌, ◌⊎◌, ℕ, ◌-◌, ◌<◌, ◌≤◌, nat_lt, Bool, true, false, List, [], ◌∷◌, length, find, slice_get, not, ◌||◌, Option, Some, None, Result, Ok, Err, zero, suc, inl, inr, refl, sym, ap, ◌∙◌, arith, ltb-true}
use Rattle.std.specs.Prelude.{min, max, IfOk, IfErr, is_none}
use Rattle.std.proofs.Math.Nat.{le-max_left, min-le_left, min-eq_left}
use Rattle.std.proofs.lemmas.Bool.{cases_lt, false≢true, lt-ltb, false_from_ne_true}
use Rattle.std.specs.Option.{option_map_or}
use Rattle.std.specs.List.{range_with_len}
use Rattle.plant_config.specs.declared.records.Change.{Change}
use Rattle.plant_config.specs.declared.records.Pool.{Pool}
use Rattle.plant_config.specs.Plant.{PlantData}
use Rattle.plant_config.specs.Reserves.{keep_some, has_reserve}
use Rattle.crosspoint_state.specs.Crosspoints.{Crosspoints}
use Rattle.crosspoint_state.specs.Ties.{size_of, wanted}
use Rattle.crosspoint_state.specs.Applied.{put_all, is_enough, are_enough, exhausted}
use Rattle.crosspoint_state.proofs.LawLemmas.{ExhaustedWhereNotEnough-all}
use Rattle.tie_pools.specs.Reserve.{reserve_of, limit_for, is_exceeded, exceeded, are_enough_for}
use Rattle.tie_pools.specs.ReserveInside.{uses_all, IsOut}
use Rattle.tie_pools.specs.Plans.{IsExhausted}
use Rattle.tie_pools.specs.Laws.{NoMoreIsNoExcess}
use Rattle.tie_pools.specs.declared.planned.Exhausted.{Exhausted}
use Rattle.tie_pools.proofs.OverLemmas.{more_than}
use Rattle.tie_pools.proofs.Searches.{find_alike}
use Rattle.tie_pools.proofs.LowestLemmas.{IsLowestOf, find_is, one_lowest}
use Rattle.tie_pools.proofs.RiseLemmas.{low_limit}

-- For a master, and where no pool keeps ties, a pool is exceeded exactly where it is out of ties.

reserve_0 : (pools : List Pool) (pool : ℕ) → keep_some pools ≡ false → option_map_or (λ (found : Pool). found.reserve) (slice_get pools pool) 0 ≡ 0
reserve_0 [] pool none = refl
reserve_0 (first ∷ pools) pool none = by (nat_lt 0 first.reserve) refl none (λ rest pool. reserve_0 pools pool rest) pool
  where
    by : (b : Bool) → nat_lt 0 first.reserve ≡ b → (b || keep_some pools) ≡ false
        → (keep_some pools ≡ false → (pool : ℕ) → option_map_or (λ (found : Pool). found.reserve) (slice_get pools pool) 0 ≡ 0)
        → (pool : ℕ) → option_map_or (λ (found : Pool). found.reserve) (slice_get (first ∷ pools) pool) 0 ≡ 0
    by true is none rest pool = cc
    by false is none rest zero = elim (cases_lt 0 first.reserve) [
      | inl more ↦ absurd (false≢true (sym is ∙ lt-ltb 0 first.reserve more))
      | inr most ↦ omega (arith, most)
    ]
    by false is none rest (suc pool) = rest none pool

-- Whoever asks may use all ties.
abbrev pub UsesAll : PlantData → Bool → Type 0
UsesAll plant master = (master ≡ true) ⊎ (has_reserve plant ≡ false)

limit_all : (plant : PlantData) (points : Crosspoints) (master : Bool) (pool : ℕ) → UsesAll plant master → limit_for plant points master pool ≡ size_of plant pool
limit_all plant points true pool all = refl
limit_all plant points false pool (inl is) = absurd (false≢true is)
limit_all plant points false pool (inr none) =
    let kept : reserve_of plant pool ≡ 0 = reserve_0 plant.pools pool none in
    let unkept : size_of plant pool - reserve_of plant pool ≡ size_of plant pool = omega (arith, kept) in
    let most : size_of plant pool ≤ max (size_of plant pool) (wanted plant points pool) = le-max_left (size_of plant pool) (wanted plant points pool) in
    ap (λ unkept. min (size_of plant pool) (max unkept (wanted plant points pool))) unkept ∙ min-eq_left most

module _ (plant : PlantData) (points : Crosspoints) (master : Bool) (changes : List Change) (all : UsesAll plant master) where
  pub exceeded_all : exceeded plant points master changes ≡ exhausted plant points changes
  unfolding exceeded exhausted
  exceeded_all = find_alike (is_exceeded plant points master changes) (λ pool. not (is_enough plant (put_all points changes) pool)) 0 (length plant.pools) (λ pool below.
      ap (λ limit. nat_lt limit (wanted plant (put_all points changes) pool)) (limit_all plant points master pool all)
      ∙ sym (more_than (wanted plant (put_all points changes) pool) (size_of plant pool)))

  pub enough_all : are_enough_for plant points master changes ≡ are_enough plant points changes
  enough_all = ap is_none exceeded_all ∙ by (exhausted plant points changes) refl
    where
      by : (found : Option ℕ) → exhausted plant points changes ≡ found → is_none found ≡ are_enough plant points changes
      by None none = sym ((ExhaustedWhereNotEnough-all plant points changes).0 none)
      by (Some pool) some = sym (false_from_ne_true (are_enough plant points changes) (λ enough.
          let none : exhausted plant points changes ≡ None = (ExhaustedWhereNotEnough-all plant points changes).1 enough in
          let both : None ≡ Some pool = sym none ∙ some in
          cc))

  pub out_exhausted : (fault : Exhausted) → IsOut plant points changes fault → IsExhausted plant points master changes fault
  out_exhausted fault is_out = record {
    lowest = exceeded_all ∙ is_out.lowest;
    wanted = is_out.wanted;
    limit = is_out.limit ∙ sym (limit_all plant points master fault.pool all);
  }

-- What a panel that is no master may, a master may: a pool that is out of ties is exceeded for both.

exceeded_less : (plant : PlantData) (points : Crosspoints) (changes : List Change) (pool : ℕ) → is_exceeded plant points false changes pool ≡ false → is_exceeded plant points true changes pool ≡ false
exceeded_less plant points changes pool within = false_from_ne_true (is_exceeded plant points true changes pool) (λ exceeds.
    let more : size_of plant pool < wanted plant (put_all points changes) pool = ltb-true (size_of plant pool) (wanted plant (put_all points changes) pool) exceeds in
    let most : limit_for plant points false pool ≤ size_of plant pool = min-le_left (size_of plant pool) (max (size_of plant pool - reserve_of plant pool) (wanted plant points pool)) in
    let less : limit_for plant points false pool < wanted plant (put_all points changes) pool = omega (arith, more, most) in
    false≢true (sym within ∙ lt-ltb (limit_for plant points false pool) (wanted plant (put_all points changes) pool) less))

pub enough_too : (plant : PlantData) (points : Crosspoints) (changes : List Change) → are_enough_for plant points false changes ≡ true → are_enough_for plant points true changes ≡ true
unfolding exceeded
enough_too plant points changes enough =
    let count = length plant.pools in
    let panel = is_exceeded plant points false changes in
    let master = is_exceeded plant points true changes in
    ap is_none (one_lowest master 0 count (find master (range_with_len 0 count)) None (find_is master 0 count)
    (by (find panel (range_with_len 0 count)) (find_is panel 0 count) enough))
  where
    by : (found : Option ℕ) → IsLowestOf (is_exceeded plant points false changes) 0 (length plant.pools) found → is_none found ≡ true → IsLowestOf (is_exceeded plant points true changes) 0 (length plant.pools) None
    by None none is = λ n low high. exceeded_less plant points changes n (none n low high)
    by (Some pool) some is = cc

-- The ties are enough at all for a list that they are enough for whoever asks.
pub enough_at_all : (plant : PlantData) (points : Crosspoints) (changes : List Change) → are_enough_for plant points false changes ≡ true → are_enough plant points changes ≡ true
enough_at_all plant points changes enough = sym (enough_all plant points true changes (inl refl)) ∙ enough_too plant points changes enough

-- So they are for one that they are enough for, whether a master asks or not.
pub enough_whoever : (plant : PlantData) (points : Crosspoints) (master : Bool) (changes : List Change) → are_enough_for plant points master changes ≡ true → are_enough plant points changes ≡ true
enough_whoever plant points true changes enough = sym (enough_all plant points true changes (inl refl)) ∙ enough
enough_whoever plant points false changes enough = enough_at_all plant points changes enough

-- A list that needs no more origins of a pool than come by it already doesn't exceed it.
pub no_excess : (plant : PlantData) (points : Crosspoints) (changes : List Change) → NoMoreIsNoExcess plant points changes
no_excess plant points changes pool needs = false_from_ne_true (is_exceeded plant points false changes pool) (λ exceeds.
    let less : limit_for plant points false pool < wanted plant (put_all points changes) pool = ltb-true (limit_for plant points false pool) (wanted plant (put_all points changes) pool) exceeds in
    let more = needs.more in
    let tied = needs.tied in
    let fits : wanted plant (put_all points changes) pool ≤ size_of plant pool = omega (arith, more, tied) in
    let rises = low_limit (size_of plant pool) (size_of plant pool - reserve_of plant pool) (wanted plant points pool) (wanted plant (put_all points changes) pool) fits less in
    omega (arith, rises, more))

-- a plant without pools has enough for all panels
pub enough_for_without_pools : (plant : PlantData) (points : Crosspoints) (master : Bool) (changes : List Change) → length plant.pools ≡ 0 → are_enough_for plant points master changes ≡ true
unfolding exceeded
enough_for_without_pools plant points master changes none = ap (λ count. is_none (find (is_exceeded plant points master changes) (range_with_len 0 count))) none

-- What a panel that may use all ties is answered, and one that may not.

pub uses_all-is : (plant : PlantData) (master : Bool) → uses_all plant master ≡ true → UsesAll plant master
uses_all-is plant true is = inl refl
uses_all-is plant false is = by (has_reserve plant) refl is
  where
    by : (b : Bool) → has_reserve plant ≡ b → not b ≡ true → UsesAll plant false
    by true kept is = absurd (false≢true is)
    by false none is = inr none

pub no_master : (plant : PlantData) (master : Bool) → uses_all plant master ≡ false → master ≡ false
no_master plant true is = absurd (false≢true (sym is))
no_master plant false is = refl

pub ok_then : {X E : Type 0} {P Q : X → Type 0} → ((x : X) → P x → Q x) → (result : Result X E) → IfOk result P → IfOk result Q
ok_then f (Ok x) holds = f x holds
ok_then f (Err e) holds = tt

pub err_then : {X E : Type 0} {P Q : E → Type 0} → ((e : E) → P e → Q e) → (result : Result X E) → IfErr result P → IfErr result Q
err_then f (Ok x) holds = tt
err_then f (Err e) holds = f e holds
