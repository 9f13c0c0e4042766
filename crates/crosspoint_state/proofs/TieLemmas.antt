-- What the destinations of a plant hold of a pool, and the tie that is chosen.
use Rattle.std.proofs.Common.{◌≡◌, ◌↔◌, ℕ, ◌+◌, ◌<◌, ◌==◌, nat_eq, Bool, true, false, not, cond, find, slice_get, Option, Some, None, refl, sym, ap, subst, ◌∙◌, arith, eq-eqb, eqb-true}
use Rattle.std.proofs.lemmas.Bool.{false≢true}
use Rattle.std.specs.Option.{option_map, option_and_then, option_eq, MatchOption, IsSomeAnd}
use Rattle.std.specs.List.{list_any}
use Rattle.std.specs.FinMap as finite
use Rattle.plant_config.specs.declared.records.Source.{Source}
use Rattle.plant_config.specs.Plant.{PlantData, destinations_of}
use Rattle.plant_config.specs.Sources.{origin_of, pool_of}
use Rattle.crosspoint_state.specs.declared.spot.Spot.{Spot}
use Rattle.crosspoint_state.specs.Crosspoints.{Crosspoints}
use Rattle.crosspoint_state.specs.Ties.{size_of, Feed, feed_of, occupied, is_free, Carries, HasItsTie, HaveValidTies}
use Rattle.crosspoint_state.proofs.FeedLists.{any_found, find_found}

pub same_option : (a b : Option ℕ) → option_eq nat_eq a b ≡ true → a ≡ b
same_option None None h = refl
same_option None (Some y) h = cc
same_option (Some x) None h = cc
same_option (Some x) (Some y) h = ap Some (eqb-true x y h)

option_itself : (a : Option ℕ) (x : ℕ) → a ≡ Some x → option_eq nat_eq a (Some x) ≡ true
option_itself a x e = ap (λ o. option_eq nat_eq o (Some x)) e ∙ eq-eqb x x refl

-- a source with a pool has an origin
pub remote_origin : (plant : PlantData) (source pool : ℕ) → pool_of plant source ≡ Some pool → (origin : ℕ) × (origin_of plant source ≡ Some origin)
remote_origin plant source pool e = by (slice_get plant.sources source) e
  where
    by : (found : Option Source) → option_and_then (λ (found : Source). found.pool) found ≡ Some pool → (origin : ℕ) × (option_map (λ (found : Source). found.origin) found ≡ Some origin)
    by None e = cc
    by (Some found) e = (found.origin, refl)

-- a spot by its feed of a pool
pub record IsFedBy (plant : PlantData) (pool : ℕ) (spot : Spot) (feed : Feed) : Type 0 where
  pub pooled : pool_of plant spot.source ≡ Some pool
  pub origin : origin_of plant spot.source ≡ Some feed.origin
  pub tie : spot.tie ≡ feed.tie

abbrev pub feed_with : Spot → ℕ → Feed
feed_with spot origin = record { tie = spot.tie; origin = origin }

pub fed_by : (plant : PlantData) (pool : ℕ) (spot : Spot) (feed : Feed) → feed_of plant pool spot ≡ Some feed → IsFedBy plant pool spot feed
fed_by plant pool spot feed e = by (option_eq nat_eq (pool_of plant spot.source) (Some pool)) refl (origin_of plant spot.source) refl e
  where
    by : (b : Bool) → option_eq nat_eq (pool_of plant spot.source) (Some pool) ≡ b → (origin : Option ℕ) → origin_of plant spot.source ≡ origin → cond b (option_map (λ (origin : ℕ). feed_with spot origin) origin) None ≡ Some feed → IsFedBy plant pool spot feed
    by false other origin is e = cc
    by true same None is e = cc
    by true same (Some origin) is e =
        let made : feed_with spot origin ≡ feed = cc in
        record {
          pooled = same_option (pool_of plant spot.source) (Some pool) same;
          origin = is ∙ ap (λ (f : Feed). Some f.origin) made;
          tie = ap (λ (f : Feed). f.tie) made;
        }

feeds : (plant : PlantData) (pool : ℕ) (spot : Spot) (origin : ℕ) → pool_of plant spot.source ≡ Some pool → origin_of plant spot.source ≡ Some origin → feed_of plant pool spot ≡ Some (feed_with spot origin)
feeds plant pool spot origin pooled is =
    ap (λ b. cond b (option_map (λ origin. feed_with spot origin) (origin_of plant spot.source)) None) (option_itself (pool_of plant spot.source) pool pooled)
    ∙ ap (λ o. option_map (λ origin. feed_with spot origin) o) is

-- what a destination holds is met by each search that it passes
pub any_occupied : (plant : PlantData) (crosspoints : Crosspoints) (pool dest : ℕ) (spot : Spot) (origin : ℕ) (test : Feed → Bool) → Carries plant crosspoints dest spot → pool_of plant spot.source ≡ Some pool → origin_of plant spot.source ≡ Some origin → test (feed_with spot origin) ≡ true → list_any test (occupied plant crosspoints pool) ≡ true
unfolding occupied
any_occupied plant crosspoints pool dest spot origin test carries pooled is passes =
    let here : 0 + dest ≡ dest = omega arith in
    any_found (λ dest. option_and_then (feed_of plant pool) (finite.get crosspoints dest)) test 0 (destinations_of plant) dest (feed_with spot origin) carries.inside
    (ap (λ d. option_and_then (feed_of plant pool) (finite.get crosspoints d)) here
    ∙ ap (option_and_then (feed_of plant pool)) carries.carried
    ∙ feeds plant pool spot origin pooled is) passes

-- a destination that holds this of a pool
pub record IsHeld (plant : PlantData) (crosspoints : Crosspoints) (pool : ℕ) (feed : Feed) : Type 0 where
  pub dest : ℕ
  pub spot : Spot
  pub carries : Carries plant crosspoints dest spot
  pub fed : IsFedBy plant pool spot feed

pub find_occupied : (plant : PlantData) (crosspoints : Crosspoints) (pool : ℕ) (test : Feed → Bool) (feed : Feed) → find test (occupied plant crosspoints pool) ≡ Some feed → IsHeld plant crosspoints pool feed × (test feed ≡ true)
unfolding occupied
find_occupied plant crosspoints pool test feed e =
    let found = find_found (λ dest. option_and_then (feed_of plant pool) (finite.get crosspoints dest)) test 0 (destinations_of plant) feed e in
    (by found.0.number found.0.within (finite.get crosspoints (0 + found.0.number)) refl found.0.is, found.1)
  where
    by : (number : ℕ) → number < destinations_of plant → (stands : Option Spot) → finite.get crosspoints (0 + number) ≡ stands → option_and_then (feed_of plant pool) stands ≡ Some feed → IsHeld plant crosspoints pool feed
    by number within None stood e = cc
    by number within (Some spot) stood e =
        let here : number ≡ 0 + number = omega arith in
        record {
          dest = number;
          spot = spot;
          carries = record { inside = within; carried = ap (finite.get crosspoints) here ∙ stood };
          fed = fed_by plant pool spot feed e;
        }

-- the tie of a spot whose source is of a pool
pub its_tie : (plant : PlantData) (pool : ℕ) (spot : Spot) → HasItsTie plant spot → pool_of plant spot.source ≡ Some pool → (tie : ℕ) × (spot.tie ≡ Some tie) × (tie < size_of plant pool)
its_tie plant pool spot has pooled =
    by spot.tie refl (subst (λ o. MatchOption o (spot.tie ≡ None) (λ pool. IsSomeAnd spot.tie (λ tie. tie < size_of plant pool))) pooled has)
  where
    by : (tie : Option ℕ) → spot.tie ≡ tie → IsSomeAnd spot.tie (λ tie. tie < size_of plant pool) → (t : ℕ) × (spot.tie ≡ Some t) × (t < size_of plant pool)
    by None e has = absurd (subst (λ o. IsSomeAnd o (λ tie. tie < size_of plant pool)) e has)
    by (Some t) e has = (t, e, subst (λ o. IsSomeAnd o (λ tie. tie < size_of plant pool)) e has)

-- a tie that may bring a source of a pool
pub record IsGoodTie (plant : PlantData) (crosspoints : Crosspoints) (source pool tie : ℕ) : Type 0 where
  pub fits : tie < size_of plant pool
  pub alone : (dest : ℕ) (spot : Spot) → Carries plant crosspoints dest spot → pool_of plant spot.source ≡ Some pool → (spot.tie ≡ Some tie) ↔ (origin_of plant spot.source ≡ origin_of plant source)

-- a search for an origin, and one for a tie
abbrev pub has_origin : ℕ → Feed → Bool
has_origin origin feed = feed.origin == origin

abbrev pub has_tie : ℕ → Feed → Bool
has_tie tie feed = option_eq nat_eq feed.tie (Some tie)

-- the tie beside the origin is good
pub good_beside : (plant : PlantData) (crosspoints : Crosspoints) (source pool origin : ℕ) (feed : Feed) → HaveValidTies plant crosspoints → origin_of plant source ≡ Some origin → IsHeld plant crosspoints pool feed → has_origin origin feed ≡ true → (tie : ℕ) × (feed.tie ≡ Some tie) × IsGoodTie plant crosspoints source pool tie
good_beside plant crosspoints source pool origin feed valid is held named =
    let own = its_tie plant pool held.spot (valid.tied held.dest held.spot held.carries) held.fed.pooled in
    let tied : held.spot.tie ≡ Some own.0 = own.1 in
    let same : origin_of plant held.spot.source ≡ origin_of plant source = held.fed.origin ∙ ap Some (eqb-true feed.origin origin named) ∙ sym is in (
      own.0,
      sym held.fed.tie ∙ tied,
      record {
        fits = own.2;
        alone = λ dest spot carries pooled.
            let share = valid.shared dest held.dest spot held.spot carries held.carries pool pooled held.fed.pooled in
            (λ e. share.0 (e ∙ sym tied) ∙ same, λ e. share.1 (e ∙ sym same) ∙ tied);
      },
    )

-- a free tie is good where nothing has the origin yet
pub good_free : (plant : PlantData) (crosspoints : Crosspoints) (source pool origin tie : ℕ) → origin_of plant source ≡ Some origin → list_any (has_origin origin) (occupied plant crosspoints pool) ≡ false → (tie < size_of plant pool) × (is_free plant crosspoints pool tie ≡ true) → IsGoodTie plant crosspoints source pool tie
good_free plant crosspoints source pool origin tie is absent free = record {
  fits = free.0;
  alone = λ dest spot carries pooled. (
    λ e. absurd (taken dest spot carries pooled e),
    λ e. absurd (false≢true (sym absent ∙ any_occupied plant crosspoints pool dest spot origin (has_origin origin) carries pooled (e ∙ is) (eq-eqb origin origin refl))),
  );
}
  where
    taken : (dest : ℕ) (spot : Spot) → Carries plant crosspoints dest spot → pool_of plant spot.source ≡ Some pool → spot.tie ≡ Some tie → ⊥
    taken dest spot carries pooled e =
        let from = remote_origin plant spot.source pool pooled in
        let met : list_any (has_tie tie) (occupied plant crosspoints pool) ≡ true = any_occupied plant crosspoints pool dest spot from.0 (has_tie tie) carries pooled from.1 (option_itself spot.tie tie e) in
        false≢true (sym (ap not met) ∙ free.1)
