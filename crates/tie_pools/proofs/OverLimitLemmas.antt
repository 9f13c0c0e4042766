-- The lowest pool over its limit, of those by which the new sources of a list come.
use Rattle.std.proofs.Common.{◌≡◌, ◌⊎◌, ℕ, ◌+◌, ◌<◌, ◌≤◌, nat_lt, Bool, true, false, cond, List, [], ◌∷◌, ◌++◌, All, length, take, drop, set, get_or, Option, Some, None, inl, inr, refl, sym, ap, subst, ◌∙◌, arith, ltb-true}
use Rattle.std.proofs.lemmas.Bool.{cases_eq, cases_lt, false≢true, lt-ltb}
use Rattle.std.proofs.Math.ListN.{drop_of_length-le}
use Rattle.std.proofs.lemmas.List.{take_more, drop_more, get_or-set_same, get_or-set_other}
use Rattle.std.proofs.lemmas.List.Elements.{All-push, All-tail}
use Rattle.std.specs.Option.{option_map, option_and_then, IfSome}
use Rattle.plant_config.specs.declared.records.Change.{Change}
use Rattle.plant_config.specs.Plant.{PlantData}
use Rattle.tie_pools.specs.Counts.{count_at}
use Rattle.tie_pools.specs.CountsInside.{Demand}
use Rattle.tie_pools.specs.DemandInside.{route_of}
use Rattle.tie_pools.specs.ReserveInside.{limit_by, pool_to, IsLimited, AreLimited, over_limit, over_at, lower_of, lowest_over}
use Rattle.tie_pools.specs.declared.planned.Exhausted.{Exhausted}
use Rattle.tie_pools.specs.declared.route.Route.{Route}
use Rattle.tie_pools.proofs.DemandLemmas.{some_number}
use Rattle.tie_pools.proofs.RiseLemmas.{IsTaken}

-- The pool that was found is at most this one.
abbrev pub IsAtMost : Option Exhausted → ℕ → Type 0
IsAtMost None pool = ⊥
IsAtMost (Some fault) pool = fault.pool ≤ pool

pub lower_first : (first second : Option Exhausted) (pool : ℕ) → IsAtMost first pool → IsAtMost (lower_of first second) pool
lower_first None second pool at = absurd at
lower_first (Some one) None pool at = at
lower_first (Some one) (Some other) pool at = by (nat_lt other.pool one.pool) refl
  where
    by : (b : Bool) → nat_lt other.pool one.pool ≡ b → IsAtMost (cond b (Some other) (Some one)) pool
    by true is = let less = ltb-true other.pool one.pool is in omega (arith, less, at)
    by false is = at

pub lower_second : (first second : Option Exhausted) (pool : ℕ) → IsAtMost second pool → IsAtMost (lower_of first second) pool
lower_second None second pool at = at
lower_second (Some one) None pool at = absurd at
lower_second (Some one) (Some other) pool at = by (nat_lt other.pool one.pool) refl
  where
    by : (b : Bool) → nat_lt other.pool one.pool ≡ b → IsAtMost (cond b (Some other) (Some one)) pool
    by true is = at
    by false is = elim (cases_lt other.pool one.pool) [
      | inl less ↦ absurd (false≢true (sym is ∙ lt-ltb other.pool one.pool less))
      | inr more ↦ omega (arith, more, at)
    ]

-- of two pools that are one the first
pub lower_same : (fault one : Exhausted) → one.pool ≤ fault.pool → lower_of (Some one) (Some fault) ≡ Some fault → Some one ≡ Some fault
lower_same fault one at is = by (nat_lt fault.pool one.pool) refl is
  where
    by : (b : Bool) → nat_lt fault.pool one.pool ≡ b → cond b (Some fault) (Some one) ≡ Some fault → Some one ≡ Some fault
    by true less is = let low = ltb-true fault.pool one.pool less in absurd (omega (arith, low, at))
    by false more is = is

-- it is one of the two
pub lower_is : (first second : Option Exhausted) (fault : Exhausted) → lower_of first second ≡ Some fault → (first ≡ Some fault) ⊎ (second ≡ Some fault)
lower_is None second fault is = inr is
lower_is (Some one) None fault is = inl is
lower_is (Some one) (Some other) fault is = by (nat_lt other.pool one.pool) is
  where
    by : (b : Bool) → cond b (Some other) (Some one) ≡ Some fault → (Some one ≡ Some fault) ⊎ (Some other ≡ Some fault)
    by true is = inr is
    by false is = inl is

-- The lowest pool over its limit, of those by which the new sources of a list come.
module _ (plant : PlantData) (demand : Demand) (limits : List ℕ) where
  -- what is told of a pool over its limit
  abbrev told : ℕ → Exhausted
  told pool = record { pool = pool; wanted = count_at demand.used.entries pool; limit = get_or limits pool 0 }

  stays : (changes : List Change) (found : Option Exhausted) (pool : ℕ) → IsAtMost found pool → IsAtMost (lowest_over plant demand limits found changes) pool
  stays [] found pool at = at
  stays (change ∷ changes) found pool at = stays changes (lower_of found (over_at plant demand limits change)) pool (lower_first found _ pool at)

  over_here : (change : Change) (pool : ℕ) → pool_to plant change ≡ Some pool → nat_lt (get_or limits pool 0) (count_at demand.used.entries pool) ≡ true → IsAtMost (over_at plant demand limits change) pool
  over_here change pool to more =
      let is : over_at plant demand limits change ≡ Some (told pool) = ap (option_and_then (over_limit demand limits)) to ∙ ap (λ b. cond b (Some (told pool)) None) more in
      subst (λ over. IsAtMost over pool) (sym is) (omega arith)

  -- a pool that is over is found, or a lower one
  pub found_low : (changes : List Change) (found : Option Exhausted) (pool : ℕ) → IsTaken plant changes pool → nat_lt (get_or limits pool 0) (count_at demand.used.entries pool) ≡ true → IsAtMost (lowest_over plant demand limits found changes) pool
  found_low [] found pool taken more = absurd taken
  found_low (change ∷ changes) found pool (inl to) more = stays changes (lower_of found (over_at plant demand limits change)) pool (lower_second found _ pool (over_here change pool to more))
  found_low (change ∷ changes) found pool (inr taken) more = found_low changes (lower_of found (over_at plant demand limits change)) pool taken more

  -- A pool that is found is over its limit, by which a new source comes.
  pub record IsOver (changes : List Change) (fault : Exhausted) : Type 0 where
    pub taken : IsTaken plant changes fault.pool
    pub wanted : fault.wanted ≡ count_at demand.used.entries fault.pool
    pub limit : fault.limit ≡ get_or limits fault.pool 0
    pub more : nat_lt (get_or limits fault.pool 0) (count_at demand.used.entries fault.pool) ≡ true

  is_over_at : (change : Change) (changes : List Change) (fault : Exhausted) → over_at plant demand limits change ≡ Some fault → IsOver (change ∷ changes) fault
  is_over_at change changes fault is = by (pool_to plant change) refl is
    where
      here : (pool : ℕ) → pool_to plant change ≡ Some pool → (b : Bool) → nat_lt (get_or limits pool 0) (count_at demand.used.entries pool) ≡ b
          → cond b (Some (told pool)) None ≡ Some fault → IsOver (change ∷ changes) fault
      here pool to true more is =
          let same : told pool ≡ fault = cc in
          subst (λ (fault : Exhausted). IsOver (change ∷ changes) fault) same (record { taken = inl to; wanted = refl; limit = refl; more = more })
      here pool to false more is = cc

      by : (to : Option ℕ) → pool_to plant change ≡ to → option_and_then (over_limit demand limits) to ≡ Some fault → IsOver (change ∷ changes) fault
      by None to is = cc
      by (Some pool) to is = here pool to (nat_lt (get_or limits pool 0) (count_at demand.used.entries pool)) refl is

  behind : (change : Change) (changes : List Change) (fault : Exhausted) → IsOver changes fault → IsOver (change ∷ changes) fault
  behind change changes fault is = record { taken = inr is.taken; wanted = is.wanted; limit = is.limit; more = is.more }

  pub found_over : (changes : List Change) (found : Option Exhausted) (fault : Exhausted) → lowest_over plant demand limits found changes ≡ Some fault → (found ≡ Some fault) ⊎ IsOver changes fault
  found_over [] found fault is = inl is
  found_over (change ∷ changes) found fault is = elim (found_over changes (lower_of found (over_at plant demand limits change)) fault is) [
    | inl so ↦ elim (lower_is found (over_at plant demand limits change) fault so) [
      | inl first ↦ inl first
      | inr second ↦ inr (is_over_at change changes fault second)
    ]
    | inr so ↦ inr (behind change changes fault so)
  ]

-- the limit that is kept of a pool by which a new source comes
pub limit_kept : (plant : PlantData) (demand : Demand) (limits : List ℕ) (changes : List Change) (pool : ℕ) → AreLimited plant demand limits changes → IsTaken plant changes pool → IsLimited plant demand limits pool
limit_kept plant demand limits [] pool are taken = absurd taken
limit_kept plant demand limits (change ∷ changes) pool are (inl to) = by (pool_to plant change) to (are 0 change (omega arith))
  where
    by : (found : Option ℕ) → found ≡ Some pool → IfSome found (IsLimited plant demand limits) → IsLimited plant demand limits pool
    by None is so = cc
    by (Some other) is so = subst (IsLimited plant demand limits) (some_number other pool is) so
limit_kept plant demand limits (change ∷ changes) pool are (inr taken) = limit_kept plant demand limits changes pool (All-tail (λ (change : Change). IfSome (pool_to plant change) (IsLimited plant demand limits)) change changes are) taken

-- One more limit is kept.

limits_more : (plant : PlantData) (demand : Demand) (limits after : List ℕ) (changes : List Change) (i : ℕ) (change : Change) → change ≡ get_or changes i change → i < length changes
    → ((pool : ℕ) → IsLimited plant demand limits pool → IsLimited plant demand after pool) → IfSome (pool_to plant change) (IsLimited plant demand after)
    → AreLimited plant demand limits (take i changes) → AreLimited plant demand after (take (i + 1) changes)
limits_more plant demand limits after changes i change is within grow here are =
    let Limited : List ℕ → Change → Type 0 = λ limits change. IfSome (pool_to plant change) (IsLimited plant demand limits) in
    let more : take (i + 1) changes ≡ take i changes ++ change ∷ [] = take_more changes i change within ∙ ap (λ (change : Change). take i changes ++ change ∷ []) (sym is) in
    subst (All (Limited after)) (sym more) (All-push (Limited after) (take i changes) change (λ k d below. if_some_then grow (pool_to plant (get_or (take i changes) k d)) (are k d below)) here)
  where
    if_some_then : ((pool : ℕ) → IsLimited plant demand limits pool → IsLimited plant demand after pool) → (found : Option ℕ) → IfSome found (IsLimited plant demand limits) → IfSome found (IsLimited plant demand after)
    if_some_then grow None so = tt
    if_some_then grow (Some pool) so = grow pool so

-- a change by no pool leaves the limits
pub limits_same : (plant : PlantData) (demand : Demand) (limits : List ℕ) (changes : List Change) (i : ℕ) (change : Change) → change ≡ get_or changes i change → i < length changes → None ≡ route_of plant change.source
    → AreLimited plant demand limits (take i changes) → AreLimited plant demand limits (take (i + 1) changes)
limits_same plant demand limits changes i change is within none =
    limits_more plant demand limits limits changes i change is within (λ pool so. so)
    (subst (λ route. IfSome (option_map (λ (route : Route). route.pool) route) (IsLimited plant demand limits)) none tt)

-- the limit of the pool by which a new source comes is kept
pub limits_set : (plant : PlantData) (demand : Demand) (limits : List ℕ) (changes : List Change) (i : ℕ) (change : Change) (route : Route) (limit : ℕ) → change ≡ get_or changes i change → i < length changes → Some route ≡ route_of plant change.source
    → limit ≡ limit_by plant demand route.pool → route.pool < length limits
    → AreLimited plant demand limits (take i changes) → AreLimited plant demand (set limits route.pool limit) (take (i + 1) changes)
limits_set plant demand limits changes i change route limit is within some kept below =
    limits_more plant demand limits (set limits route.pool limit) changes i change is within grow
    (subst (λ way. IfSome (option_map (λ (route : Route). route.pool) way) (IsLimited plant demand (set limits route.pool limit))) some own)
  where
    own : IsLimited plant demand (set limits route.pool limit) route.pool
    own = get_or-set_same limits route.pool limit 0 below ∙ kept

    grow : (pool : ℕ) → IsLimited plant demand limits pool → IsLimited plant demand (set limits route.pool limit) pool
    grow pool so = elim (cases_eq pool route.pool) [
      | inl same ↦ subst (IsLimited plant demand (set limits route.pool limit)) (sym same) own
      | inr apart ↦ get_or-set_other limits route.pool pool limit 0 apart ∙ so
    ]

-- One more change is looked at.

lower_none : (found : Option Exhausted) → lower_of found None ≡ found
lower_none None = refl
lower_none (Some fault) = refl

over_more : (plant : PlantData) (demand : Demand) (limits : List ℕ) (changes : List Change) (i : ℕ) (change : Change) (found after : Option Exhausted) → change ≡ get_or changes i change → i < length changes
    → after ≡ lower_of found (over_at plant demand limits change) → lowest_over plant demand limits after (drop (i + 1) changes) ≡ lowest_over plant demand limits found (drop i changes)
over_more plant demand limits changes i change found after is within next =
    let parts : drop i changes ≡ change ∷ drop (i + 1) changes = drop_more changes i change within ∙ ap (λ (change : Change). change ∷ drop (i + 1) changes) (sym is) in
    ap (λ found. lowest_over plant demand limits found (drop (i + 1) changes)) next ∙ ap (lowest_over plant demand limits found) (sym parts)

pub over_same : (plant : PlantData) (demand : Demand) (limits : List ℕ) (changes : List Change) (i : ℕ) (change : Change) (found : Option Exhausted) → change ≡ get_or changes i change → i < length changes
    → None ≡ route_of plant change.source → lowest_over plant demand limits found (drop (i + 1) changes) ≡ lowest_over plant demand limits found (drop i changes)
over_same plant demand limits changes i change found is within none =
    over_more plant demand limits changes i change found found is within
    (sym (ap (λ route. lower_of found (option_and_then (over_limit demand limits) (option_map (λ (route : Route). route.pool) route))) (sym none) ∙ lower_none found))

pub over_next : (plant : PlantData) (demand : Demand) (limits : List ℕ) (changes : List Change) (i : ℕ) (change : Change) (found after : Option Exhausted) (route : Route) → change ≡ get_or changes i change → i < length changes
    → Some route ≡ route_of plant change.source → after ≡ lower_of found (over_limit demand limits route.pool)
    → lowest_over plant demand limits after (drop (i + 1) changes) ≡ lowest_over plant demand limits found (drop i changes)
over_next plant demand limits changes i change found after route is within some next =
    over_more plant demand limits changes i change found after is within
    (next ∙ ap (λ route. lower_of found (option_and_then (over_limit demand limits) (option_map (λ (route : Route). route.pool) route))) some)

pub over_all : (plant : PlantData) (demand : Demand) (limits : List ℕ) (changes : List Change) (i : ℕ) (found : Option Exhausted) → length changes ≤ i → lowest_over plant demand limits found (drop i changes) ≡ found
over_all plant demand limits changes i found past =
    ap (lowest_over plant demand limits found) (drop_of_length-le changes past)
