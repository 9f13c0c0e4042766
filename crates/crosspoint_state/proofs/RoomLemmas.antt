-- Where the ties are enough, one is free for each origin that is new to its pool.
use Rattle.std.proofs.Common.{◌≡◌, ◌⊎◌, ℕ, ◌+◌, ◌<◌, ◌≤◌, nat_eq, Bool, true, false, cond, List, [], ◌∷◌, map, find, length, Option, Some, None, zero, suc, inl, inr, refl, sym, ap, subst, ◌∙◌, arith, eq-eqb, eqb-true}
use Rattle.std.proofs.lemmas.Bool.{false≢true, not-false, false_from_ne_true, or_cases, or_left, or_right}
use Rattle.std.proofs.lemmas.Map.Keys.{IsDistinct-cons}
use Rattle.std.proofs.lemmas.Map.Made.{length-le_from_is_member}
use Rattle.std.specs.Option.{option_and_then, option_or, option_map}
use Rattle.std.specs.List.{list_any, IsDistinct}
use Rattle.std.specs.Cmp.{nat_eq_equiv}
use Rattle.std.specs.Set.{unique_keys}
use Rattle.std.specs.FinMap as finite
use Rattle.plant_config.specs.Plant.{PlantData, destinations_of}
use Rattle.plant_config.specs.Sources.{origin_of, pool_of}
use Rattle.crosspoint_state.specs.declared.spot.Spot.{Spot}
use Rattle.crosspoint_state.specs.Crosspoints.{Crosspoints, source_of}
use Rattle.crosspoint_state.specs.Ties.{size_of, Feed, occupied, wanted, tie_beside, is_free, lowest_free, chosen_tie, Carries, HaveValidTies}
use Rattle.crosspoint_state.proofs.FeedLists.{none_any, any_finds, any_map, find_number, none_number, apart_from_absent}
use Rattle.crosspoint_state.proofs.TieLemmas.{same_option, remote_origin, any_occupied, IsHeld, find_occupied, IsGoodTie, has_origin, has_tie, good_beside, good_free}

-- different origins of a pool, each beside a tie below a number
record IsBeside (plant : PlantData) (crosspoints : Crosspoints) (pool count origin : ℕ) : Type 0 where
  pub dest : ℕ
  pub spot : Spot
  pub tie : ℕ
  pub carries : Carries plant crosspoints dest spot
  pub pooled : pool_of plant spot.source ≡ Some pool
  pub from : origin_of plant spot.source ≡ Some origin
  pub tied : spot.tie ≡ Some tie
  pub below : tie < count

record AreBeside (plant : PlantData) (crosspoints : Crosspoints) (pool count : ℕ) : Type 0 where
  pub origins : List ℕ
  pub many : length origins ≡ count
  pub apart : IsDistinct nat_eq origins
  pub each : (origin : ℕ) → list_any (nat_eq origin) origins ≡ true → IsBeside plant crosspoints pool count origin

some_number : (a b : ℕ) → Some a ≡ Some b → a ≡ b
some_number a b e = cc

beside_more : (plant : PlantData) (crosspoints : Crosspoints) (pool count : ℕ) (feed : Feed) → HaveValidTies plant crosspoints → AreBeside plant crosspoints pool count → IsHeld plant crosspoints pool feed → feed.tie ≡ Some count → AreBeside plant crosspoints pool (suc count)
beside_more plant crosspoints pool count feed valid those held tied = record {
  origins = feed.origin ∷ those.origins;
  many = ap suc those.many;
  apart = IsDistinct-cons nat_eq feed.origin those.origins (apart_from_absent feed.origin those.origins (false_from_ne_true _ fresh)) those.apart;
  each = λ origin member. each origin (or_cases (nat_eq origin feed.origin) (list_any (nat_eq origin) those.origins) member);
}
  where
    fresh : list_any (nat_eq feed.origin) those.origins ≡ true → ⊥
    fresh member =
        let b = those.each feed.origin member in
        let share = valid.shared held.dest b.dest held.spot b.spot held.carries b.carries pool held.fed.pooled b.pooled in
        let same : count ≡ b.tie = some_number count b.tie (sym tied ∙ sym held.fed.tie ∙ share.1 (held.fed.origin ∙ sym b.from) ∙ b.tied) in
        let below : b.tie < count = b.below in
        omega (arith, same, below)

    each : (origin : ℕ) → (nat_eq origin feed.origin ≡ true) ⊎ (list_any (nat_eq origin) those.origins ≡ true) → IsBeside plant crosspoints pool (suc count) origin
    each origin (inl here) = record {
      dest = held.dest;
      spot = held.spot;
      tie = count;
      carries = held.carries;
      pooled = held.fed.pooled;
      from = held.fed.origin ∙ ap Some (sym (eqb-true origin feed.origin here));
      tied = held.fed.tie ∙ tied;
      below = omega arith;
    }
    each origin (inr there) =
        let b = those.each origin there in
        record {
          dest = b.dest;
          spot = b.spot;
          tie = b.tie;
          carries = b.carries;
          pooled = b.pooled;
          from = b.from;
          tied = b.tied;
          below = omega (arith, b.below);
        }

-- where no tie is free, each is beside an origin of its own
beside_all : (plant : PlantData) (crosspoints : Crosspoints) (pool count : ℕ) → HaveValidTies plant crosspoints → lowest_free plant crosspoints pool ≡ None → count ≤ size_of plant pool → AreBeside plant crosspoints pool count
unfolding IsDistinct
beside_all plant crosspoints pool zero valid full within = record { origins = []; many = refl; apart = tt; each = λ origin member. absurd (false≢true member) }
beside_all plant crosspoints pool (suc count) valid full within =
    let held : is_free plant crosspoints pool (0 + count) ≡ false = none_number (is_free plant crosspoints pool) 0 (size_of plant pool) count full within in
    let start : 0 + count ≡ count = omega arith in
    let taken : list_any (has_tie count) (occupied plant crosspoints pool) ≡ true = not-false _ (subst (λ tie. is_free plant crosspoints pool tie ≡ false) start held) in
    let found = any_finds (has_tie count) (occupied plant crosspoints pool) taken in
    let is = find_occupied plant crosspoints pool (has_tie count) found.0 found.1 in
    beside_more plant crosspoints pool count found.0 valid (beside_all plant crosspoints pool count valid full (omega (arith, within))) is.0 (same_option found.0.tie (Some count) is.1)

unique_member : (ys : List ℕ) (q : ℕ) → list_any (nat_eq q) ys ≡ true → list_any (nat_eq q) (unique_keys nat_eq ys) ≡ true
unique_member [] q e = e
unique_member (y ∷ ys) q e = by (unique_member ys) (list_any (nat_eq y) ys) refl (or_cases (nat_eq q y) (list_any (nat_eq q) ys) e)
  where
    by : ((q : ℕ) → list_any (nat_eq q) ys ≡ true → list_any (nat_eq q) (unique_keys nat_eq ys) ≡ true) → (b : Bool) → list_any (nat_eq y) ys ≡ b → (nat_eq q y ≡ true) ⊎ (list_any (nat_eq q) ys ≡ true) → list_any (nat_eq q) (cond b (unique_keys nat_eq ys) (y ∷ unique_keys nat_eq ys)) ≡ true
    by behind true m (inl here) = behind q (subst (λ k. list_any (nat_eq k) ys ≡ true) (sym (eqb-true q y here)) m)
    by behind true m (inr there) = behind q there
    by behind false m (inl here) = or_left (nat_eq q y) (list_any (nat_eq q) (unique_keys nat_eq ys)) here
    by behind false m (inr there) = or_right (nat_eq q y) (list_any (nat_eq q) (unique_keys nat_eq ys)) (behind q there)

-- Other crosspoints have all sources that these have.
abbrev pub Keeps : PlantData → Crosspoints → Crosspoints → Type 0
Keeps plant crosspoints all = (dest : ℕ) (spot : Spot) → Carries plant crosspoints dest spot → source_of all dest ≡ Some spot.source

abbrev origins_of : PlantData → Crosspoints → ℕ → List ℕ
origins_of plant crosspoints pool = map (λ (feed : Feed). feed.origin) (occupied plant crosspoints pool)

-- the origin of a source that a destination has is one of those of its pool
has_its_origin : (plant : PlantData) (all : Crosspoints) (pool dest source origin : ℕ) → dest < destinations_of plant → source_of all dest ≡ Some source → pool_of plant source ≡ Some pool → origin_of plant source ≡ Some origin → list_any (nat_eq origin) (origins_of plant all pool) ≡ true
has_its_origin plant all pool dest source origin inside has pooled from = by (finite.get all dest) refl has
  where
    by : (stands : Option Spot) → finite.get all dest ≡ stands → option_map (λ (spot : Spot). spot.source) stands ≡ Some source → list_any (nat_eq origin) (origins_of plant all pool) ≡ true
    by None stood e = cc
    by (Some spot) stood e =
        let same : source ≡ spot.source = sym (some_number spot.source source e) in
        any_map (λ (feed : Feed). feed.origin) (nat_eq origin) (occupied plant all pool)
        ∙ any_occupied plant all pool dest spot origin (λ feed. nat_eq origin feed.origin) (record { inside = inside; carried = stood })
        (subst (λ s. pool_of plant s ≡ Some pool) same pooled)
        (subst (λ s. origin_of plant s ≡ Some origin) same from)
        (eq-eqb origin origin refl)

-- with all ties in use and one more origin, more origins are wanted than the pool has ties
no_room : (plant : PlantData) (crosspoints all : Crosspoints) (pool origin : ℕ) → HaveValidTies plant crosspoints → Keeps plant crosspoints all → lowest_free plant crosspoints pool ≡ None → list_any (has_origin origin) (occupied plant crosspoints pool) ≡ false → list_any (nat_eq origin) (origins_of plant all pool) ≡ true → wanted plant all pool ≤ size_of plant pool → ⊥
no_room plant crosspoints all pool origin valid keeps full absent member enough =
    let many = length-le_from_is_member nat_eq_equiv (origin ∷ beside.origins) (unique_keys nat_eq (origins_of plant all pool)) (IsDistinct-cons nat_eq origin beside.origins (apart_from_absent origin beside.origins (false_from_ne_true _ fresh)) beside.apart) each in
    omega (arith, many, beside.many, enough)
  where
    beside : AreBeside plant crosspoints pool (size_of plant pool)
    beside = beside_all plant crosspoints pool (size_of plant pool) valid full (omega arith)

    fresh : list_any (nat_eq origin) beside.origins ≡ true → ⊥
    fresh member =
        let b = beside.each origin member in
        false≢true (sym absent ∙ any_occupied plant crosspoints pool b.dest b.spot origin (has_origin origin) b.carries b.pooled b.from (eq-eqb origin origin refl))

    in_all : (q : ℕ) → (nat_eq q origin ≡ true) ⊎ (list_any (nat_eq q) beside.origins ≡ true) → list_any (nat_eq q) (origins_of plant all pool) ≡ true
    in_all q (inl here) = subst (λ k. list_any (nat_eq k) (origins_of plant all pool) ≡ true) (sym (eqb-true q origin here)) member
    in_all q (inr there) =
        let b = beside.each q there in
        has_its_origin plant all pool b.dest b.spot.source q b.carries.inside (keeps b.dest b.spot b.carries) b.pooled b.from

    each : (q : ℕ) → list_any (nat_eq q) (origin ∷ beside.origins) ≡ true → list_any (nat_eq q) (unique_keys nat_eq (origins_of plant all pool)) ≡ true
    each q e = unique_member (origins_of plant all pool) q (in_all q (or_cases (nat_eq q origin) (list_any (nat_eq q) beside.origins) e))

-- a tie and that it is good
pub record IsChosen (plant : PlantData) (crosspoints : Crosspoints) (source pool : ℕ) : Type 0 where
  pub tie : ℕ
  pub chosen : chosen_tie plant crosspoints source ≡ Some tie
  pub good : IsGoodTie plant crosspoints source pool tie

-- the tie that is chosen for a remote source is good, where the pool has enough
pub good_tie : (plant : PlantData) (crosspoints all : Crosspoints) (pool dest source : ℕ) → HaveValidTies plant crosspoints → Keeps plant crosspoints all → dest < destinations_of plant → source_of all dest ≡ Some source → pool_of plant source ≡ Some pool → wanted plant all pool ≤ size_of plant pool → IsChosen plant crosspoints source pool
unfolding chosen_tie
good_tie plant crosspoints all pool dest source valid keeps inside aimed pooled enough = by (find (has_origin origin) (occupied plant crosspoints pool)) refl
  where
    origin : ℕ
    origin = (remote_origin plant source pool pooled).0

    from : origin_of plant source ≡ Some origin
    from = (remote_origin plant source pool pooled).1

    pick : ℕ → Option ℕ → Option ℕ
    pick pool origin = option_or (option_and_then (tie_beside plant crosspoints pool) origin) (lowest_free plant crosspoints pool)

    free : Option ℕ
    free = lowest_free plant crosspoints pool

    picked : chosen_tie plant crosspoints source ≡ option_or (tie_beside plant crosspoints pool origin) free
    picked = ap (λ p. option_and_then (λ pool. pick pool (origin_of plant source)) p) pooled ∙ ap (pick pool) from

    beside : (found : Option Feed) → find (has_origin origin) (occupied plant crosspoints pool) ≡ found → chosen_tie plant crosspoints source ≡ option_or (option_and_then (λ (feed : Feed). feed.tie) found) free
    beside found e = picked ∙ ap (λ found. option_or (option_and_then (λ (feed : Feed). feed.tie) found) free) e

    new : find (has_origin origin) (occupied plant crosspoints pool) ≡ None → (lowest : Option ℕ) → free ≡ lowest → IsChosen plant crosspoints source pool
    new e None full = absurd (no_room plant crosspoints all pool origin valid keeps full (none_any (has_origin origin) (occupied plant crosspoints pool) e) (has_its_origin plant all pool dest source origin inside aimed pooled from) enough)
    new e (Some tie) lowest =
        let is = find_number (is_free plant crosspoints pool) 0 (size_of plant pool) tie lowest in
        let below : tie < 0 + size_of plant pool = is.0 in
        record {
          tie = tie;
          chosen = beside None e ∙ lowest;
          good = good_free plant crosspoints source pool origin tie from (none_any (has_origin origin) (occupied plant crosspoints pool) e) (omega (arith, below), is.1);
        }

    by : (found : Option Feed) → find (has_origin origin) (occupied plant crosspoints pool) ≡ found → IsChosen plant crosspoints source pool
    by None e = new e free refl
    by (Some feed) e =
        let is = find_occupied plant crosspoints pool (has_origin origin) feed e in
        let good = good_beside plant crosspoints source pool origin feed valid from is.0 is.1 in
        record {
          tie = good.0;
          chosen = beside (Some feed) e ∙ ap (λ tie. option_or tie free) good.1;
          good = good.2;
        }
