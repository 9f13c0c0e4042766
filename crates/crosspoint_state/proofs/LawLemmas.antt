-- The laws, by what each destination carries after a list of changes.
use Rattle.std.proofs.Common.{◌≡◌, ℕ, ◌+◌, ◌<◌, Bool, true, false, not, cond, List, [], ◌∷◌, ◌++◌, ◌&&◌, filter, find, length, get_or, All, slice_get, Option, Some, None, suc, zero, refl, sym, ap, subst, ◌∙◌, arith}
use Rattle.std.proofs.lemmas.Bool.{leb-true, false≢true, and_parts}
use Rattle.std.proofs.lemmas.List.Elements.{filter-append, All-filter, recursion_from_All, Contains-get_or}
use Rattle.std.specs.Option.{option_and_then, MatchOption, IfSome}
use Rattle.std.specs.List.{range_with_len, list_all}
use Rattle.std.specs.FinMap as finite
use Rattle.plant_config.specs.declared.records.Change.{Change}
use Rattle.plant_config.specs.declared.records.Source.{Source}
use Rattle.plant_config.specs.declared.records.Pool.{Pool}
use Rattle.plant_config.specs.Plant.{PlantData}
use Rattle.plant_config.specs.Sources.{pool_of}
use Rattle.plant_config.specs.IsPlant.{IsPlant, IsSource, IsSomeSo, Leads, IsRemote}
use Rattle.crosspoint_state.specs.declared.spot.Spot.{Spot}
use Rattle.crosspoint_state.specs.Crosspoints.{Crosspoints, source_of, is_idle, NamesOnce}
use Rattle.crosspoint_state.specs.Ties.{size_of, wanted}
use Rattle.crosspoint_state.specs.Applied.{released, all_given, put_all, is_enough, are_enough, exhausted}
use Rattle.crosspoint_state.specs.Laws.{ChangesAreMade, OthersStay, IdleOnesStay, IdleOnesDoNothing, AreInside, TiesStayValid, ExhaustedWhereNotEnough}
use Rattle.crosspoint_state.proofs.ChangeLists.{names, passing, find-contained, find-unnamed, find-filter}
use Rattle.crosspoint_state.proofs.AppliedLemmas.{source_at, gone, get-released, is_busy, get-applied, idle_has, source-applied, aim, source-put_all}
use Rattle.crosspoint_state.proofs.RoomLemmas.{Keeps}
use Rattle.crosspoint_state.proofs.ValidLemmas.{valid_fewer, ArePoolsEnough, IsAimed, valid_all_given}

pub ChangesAreMade-applied : (plant : PlantData) (crosspoints : Crosspoints) (changes : List Change) → NamesOnce changes → ChangesAreMade plant crosspoints changes
ChangesAreMade-applied plant crosspoints changes once = λ change has.
    source-applied plant crosspoints changes change.dest change once (find-contained change changes once has)

pub OthersStay-applied : (plant : PlantData) (crosspoints : Crosspoints) (changes : List Change) → NamesOnce changes → OthersStay plant crosspoints changes
OthersStay-applied plant crosspoints changes once = λ dest unnamed.
    get-applied plant crosspoints changes dest once (ap (passing (is_busy crosspoints)) (find-unnamed dest changes unnamed))

pub IdleOnesStay-applied : (plant : PlantData) (crosspoints : Crosspoints) (changes : List Change) → NamesOnce changes → IdleOnesStay plant crosspoints changes
IdleOnesStay-applied plant crosspoints changes once = λ change has idle.
    get-applied plant crosspoints changes change.dest once
    (ap (passing (is_busy crosspoints)) (find-contained change changes once has)
    ∙ ap (λ b. cond (not b) (Some change) None) idle)

pub IdleOnesDoNothing-applied : (plant : PlantData) (crosspoints : Crosspoints) → IdleOnesDoNothing plant crosspoints
IdleOnesDoNothing-applied plant crosspoints = λ front behind change idle.
    let kept : filter (is_busy crosspoints) (front ++ change ∷ behind) ≡ filter (is_busy crosspoints) (front ++ behind) =
    filter-append (is_busy crosspoints) front (change ∷ behind)
    ∙ ap (λ b. filter (is_busy crosspoints) front ++ cond (not b) (change ∷ filter (is_busy crosspoints) behind) (filter (is_busy crosspoints) behind)) idle
    ∙ sym (filter-append (is_busy crosspoints) front behind) in
    ap (λ (kept : List Change). all_given plant (released crosspoints kept) kept) kept

-- what passes at each number of a range passes at one
all_at : (test : ℕ → Bool) (a n k : ℕ) → list_all test (range_with_len a n) ≡ true → k < n → test (a + k) ≡ true
all_at test a zero k all within = absurd (omega (arith, within))
all_at test a (suc n) zero all within =
    let start : a + 0 ≡ a = omega arith in
    ap test start ∙ (and_parts (test a) (list_all test (range_with_len (a + 1) n)) all).0
all_at test a (suc n) (suc k) all within =
    let next : a + suc k ≡ a + 1 + k = omega arith in
    ap test next ∙ all_at test (a + 1) n k (and_parts (test a) (list_all test (range_with_len (a + 1) n)) all).1 (omega (arith, within))

-- a pool that has something of its own is one of the plant's
is_pool : (pools : List Pool) (pool : ℕ) (IsSo : Pool → Type 0) → IsSomeSo (slice_get pools pool) IsSo → pool < length pools
is_pool [] pool IsSo is = absurd is
is_pool (first ∷ pools) zero IsSo is = omega arith
is_pool (first ∷ pools) (suc pool) IsSo is =
    let behind : pool < length pools = is_pool pools pool IsSo is in
    omega (arith, behind)

-- the pool of a source is one of the plant's
pub its_pool : (plant : PlantData) (source pool : ℕ) → IsPlant plant → pool_of plant source ≡ Some pool → pool < length plant.pools
its_pool plant source pool is pooled = by (slice_get plant.sources source) (is.named.each_source source) pooled
  where
    remote : (found : Source) (its : Option ℕ) → its ≡ Some pool → MatchOption its (found.origin ≡ source) (IsRemote plant found.origin source) → pool < length plant.pools
    remote found None e leads = cc
    remote found (Some other) e is =
        let same : other ≡ pool = cc in
        subst (λ p. p < length plant.pools) same (is_pool plant.pools other (Leads plant found.origin source) is.tied)

    by : (found : Option Source) → IfSome found (IsSource plant source) → option_and_then (λ (found : Source). found.pool) found ≡ Some pool → pool < length plant.pools
    by None so e = cc
    by (Some found) so e = remote found found.pool e so.origin

-- enough ties for the changes are enough for the sources of each pool
pools_enough : (plant : PlantData) (crosspoints : Crosspoints) (changes : List Change) → IsPlant plant → are_enough plant crosspoints changes ≡ true → ArePoolsEnough plant (put_all crosspoints changes)
unfolding are_enough
pools_enough plant crosspoints changes is enough = λ source pool pooled.
    let within = its_pool plant source pool is pooled in
    let start : 0 + pool ≡ pool = omega arith in
    leb-true (wanted plant (put_all crosspoints changes) pool) (size_of plant pool)
    (subst (λ p. is_enough plant (put_all crosspoints changes) p ≡ true) start
    (all_at (is_enough plant (put_all crosspoints changes)) 0 (length plant.pools) pool enough within))

-- the ties of what is applied
module _ (plant : PlantData) (crosspoints : Crosspoints) (changes : List Change) (once : NamesOnce changes) (inside : AreInside plant changes) where
  -- what a released destination still carries no busy change names
  stays : (dest : ℕ) (spot : Spot) → finite.get (released crosspoints (filter (is_busy crosspoints) changes)) dest ≡ Some spot → (find (names dest) (filter (is_busy crosspoints) changes) ≡ None) × (finite.get crosspoints dest ≡ Some spot)
  stays dest spot e = by (find (names dest) (filter (is_busy crosspoints) changes)) refl (sym (get-released crosspoints (filter (is_busy crosspoints) changes) dest) ∙ e)
    where
      by : (found : Option Change) → find (names dest) (filter (is_busy crosspoints) changes) ≡ found → gone (finite.get crosspoints dest) found ≡ Some spot → (find (names dest) (filter (is_busy crosspoints) changes) ≡ None) × (finite.get crosspoints dest ≡ Some spot)
      by None unnamed e = (unnamed, e)
      by (Some change) named e = cc

  keeps_released : Keeps plant (released crosspoints (filter (is_busy crosspoints) changes)) (put_all crosspoints changes)
  keeps_released dest spot carries = source-put_all crosspoints changes dest once ∙ by (find (names dest) changes) refl
    where
      still : (find (names dest) (filter (is_busy crosspoints) changes) ≡ None) × (finite.get crosspoints dest ≡ Some spot)
      still = stays dest spot carries.carried

      idle : (change : Change) → find (names dest) changes ≡ Some change → is_idle crosspoints change ≡ true
      idle change found = sure (is_idle crosspoints change) (ap (passing (is_busy crosspoints)) (sym found) ∙ sym (find-filter (is_busy crosspoints) dest changes once) ∙ still.0)
        where
          sure : (b : Bool) → cond (not b) (Some change) None ≡ None → b ≡ true
          sure true e = refl
          sure false e = cc

      by : (found : Option Change) → find (names dest) changes ≡ found → aim found (source_of crosspoints dest) ≡ Some spot.source
      by None unnamed = ap source_at still.1
      by (Some change) found = sym (idle_has crosspoints changes dest change found (idle change found)) ∙ ap source_at still.1

  all_aimed : All (IsAimed plant (put_all crosspoints changes)) changes
  all_aimed k d within = record {
    inside = inside k d within;
    aimed = source-put_all crosspoints changes (get_or changes k d).dest once
        ∙ ap (λ found. aim found (source_of crosspoints (get_or changes k d).dest)) (find-contained (get_or changes k d) changes once (Contains-get_or changes k d within));
  }

  pub TiesStayValid-applied : IsPlant plant → TiesStayValid plant crosspoints changes
  TiesStayValid-applied is valid enough =
      valid_all_given plant (put_all crosspoints changes) (filter (is_busy crosspoints) changes) (released crosspoints (filter (is_busy crosspoints) changes))
      (pools_enough plant crosspoints changes is enough)
      (valid_fewer plant crosspoints (released crosspoints (filter (is_busy crosspoints) changes)) (λ dest spot e. (stays dest spot e).1) valid)
      keeps_released
      (recursion_from_All (IsAimed plant (put_all crosspoints changes)) (filter (is_busy crosspoints) changes) (All-filter (is_busy crosspoints) (IsAimed plant (put_all crosspoints changes)) changes all_aimed))

-- where a search for what fails a test finds nothing all pass, and the other way round
none_all : (test : ℕ → Bool) (xs : List ℕ) → find (λ x. not (test x)) xs ≡ None → list_all test xs ≡ true
none_all test [] e = refl
none_all test (x ∷ xs) e = by (none_all test xs) (test x) e
  where
    by : (find (λ x. not (test x)) xs ≡ None → list_all test xs ≡ true) → (b : Bool) → cond (not b) (Some x) (find (λ x. not (test x)) xs) ≡ None → (b && list_all test xs) ≡ true
    by behind true e = behind e
    by behind false e = cc

all_none : (test : ℕ → Bool) (xs : List ℕ) → list_all test xs ≡ true → find (λ x. not (test x)) xs ≡ None
all_none test [] e = refl
all_none test (x ∷ xs) e = by (all_none test xs) (test x) e
  where
    by : (list_all test xs ≡ true → find (λ x. not (test x)) xs ≡ None) → (b : Bool) → (b && list_all test xs) ≡ true → cond (not b) (Some x) (find (λ x. not (test x)) xs) ≡ None
    by behind true e = behind e
    by behind false e = absurd (false≢true e)

pub ExhaustedWhereNotEnough-all : (plant : PlantData) (crosspoints : Crosspoints) (changes : List Change) → ExhaustedWhereNotEnough plant crosspoints changes
unfolding are_enough exhausted
ExhaustedWhereNotEnough-all plant crosspoints changes = (
  λ e. none_all (is_enough plant (put_all crosspoints changes)) (range_with_len 0 (length plant.pools)) e,
  λ e. all_none (is_enough plant (put_all crosspoints changes)) (range_with_len 0 (length plant.pools)) e,
)
