-- What is held of the ties while one destination carries a source or not, and nothing else differs.
use Rattle.std.proofs.Common.{◌≡◌, ◌≢◌, ◌⊎◌, ℕ, ◌<◌, nat_eq, nat_lt, Bool, true, false, not, cond, ◌&&◌, ◌||◌, List, ◌∷◌, ◌++◌, find, length, set, Option, Some, None, inl, inr, refl, sym, ap, subst, ◌∙◌, eq-eqb, eqb-true}
use Rattle.std.proofs.lemmas.Bool.{cases_eq, ne_eqb, lt-ltb, false≢true, false_from_ne_true}
use Rattle.std.specs.Option.{option_map, option_and_then, option_or, option_eq}
use Rattle.std.specs.List.{list_any}
use Rattle.std.specs.FinMap as finite
use Rattle.std.specs.FinSet.{contains, insert, remove}
use Rattle.number_tables.specs.Table.{Entries, put}
use Rattle.number_tables.specs.Numbers.{Numbers, lowest}
use Rattle.number_tables.proofs.PutLemmas.{get-put_same, get-put_other}
use Rattle.plant_config.specs.Plant.{PlantData, destinations_of}
use Rattle.plant_config.specs.Sources.{origin_of, pool_of}
use Rattle.crosspoint_state.specs.declared.spot.Spot.{Spot}
use Rattle.crosspoint_state.specs.Crosspoints.{Crosspoints}
use Rattle.crosspoint_state.specs.Ties.{size_of, Feed, feed_of, occupied, tie_beside, is_free, lowest_free, chosen_tie, Carries, HaveValidTies}
use Rattle.crosspoint_state.proofs.FeedLists.{any_finds}
use Rattle.crosspoint_state.proofs.TieLemmas.{same_option, feed_with, any_occupied, find_occupied, has_origin, has_tie}
use Rattle.tie_pools.specs.Ways.{way_of}
use Rattle.tie_pools.specs.Counts.{free_of, HaveTies, HaveFree}
use Rattle.tie_pools.specs.HoldingsInside.{Holdings, tie_for}
use Rattle.tie_pools.proofs.Searches.{none_found, lowest_below}
use Rattle.tie_pools.proofs.FreeLemmas.{inserted_here, inserted_apart, removed_here, removed_apart}
use Rattle.tie_pools.proofs.Inserted.{before, behind, with_feed, occupied_put, any_inserted, find_inserted}
use Rattle.tie_pools.proofs.WayLemmas.{ways_differ}

-- A destination of the plant is to carry a remote source by a valid tie: its pool, origin, way and tie are these.
pub record ComesTied (plant : PlantData) (points : Crosspoints) (dest : ℕ) (spot : Spot) (pool origin way tie : ℕ) : Type 0 where
  pub inside : dest < destinations_of plant
  pub pooled : pool_of plant spot.source ≡ Some pool
  pub stands : origin_of plant spot.source ≡ Some origin
  pub is : way_of plant pool origin ≡ Some way
  pub tied : spot.tie ≡ Some tie
  pub below : tie < size_of plant pool
  pub valid : HaveValidTies plant (put points dest (Some spot))

-- The crosspoints with this destination's spot, and without it.
module _ (plant : PlantData) (points : Crosspoints) (dest : ℕ) (spot : Spot) (pool origin way tie : ℕ) (comes : ComesTied plant points dest spot pool origin way tie) where
  carries : Carries plant (put points dest (Some spot)) dest spot
  carries = record { inside = comes.inside; carried = get-put_same points dest (Some spot) }

  -- what is carried without it is carried with it
  stays : (at : ℕ) (other : Spot) → Carries plant (put points dest None) at other → Carries plant (put points dest (Some spot)) at other
  stays at other those = by (cases_eq at dest)
    where
      by : (at ≡ dest) ⊎ (at ≢ dest) → Carries plant (put points dest (Some spot)) at other
      by (inl here) =
          let both : None ≡ Some other = sym (get-put_same points dest None) ∙ ap (finite.get (put points dest None)) (sym here) ∙ those.carried in
          cc
      by (inr there) = record {
        inside = those.inside;
        carried = get-put_other points dest (Some spot) at there ∙ sym (get-put_other points dest None at there) ∙ those.carried;
      }

  -- the spots of this pool that have this origin are those that have this tie
  same_tie : (at : ℕ) (other : Spot) → Carries plant (put points dest (Some spot)) at other → pool_of plant other.source ≡ Some pool → origin_of plant other.source ≡ Some origin → other.tie ≡ Some tie
  same_tie at other those pooled from = (comes.valid.shared at dest other spot those carries pool pooled comes.pooled).1 (from ∙ sym comes.stands) ∙ comes.tied

  same_origin : (at : ℕ) (other : Spot) → Carries plant (put points dest (Some spot)) at other → pool_of plant other.source ≡ Some pool → other.tie ≡ Some tie → origin_of plant other.source ≡ Some origin
  same_origin at other those pooled has = (comes.valid.shared at dest other spot those carries pool pooled comes.pooled).0 (has ∙ sym comes.tied) ∙ comes.stands

  -- where this origin comes by the pool still, it comes by this tie
  beside_is : (some : Crosspoints) → ((at : ℕ) (other : Spot) → Carries plant some at other → Carries plant (put points dest (Some spot)) at other) → list_any (has_origin origin) (occupied plant some pool) ≡ true → tie_beside plant some pool origin ≡ Some tie
  beside_is some fewer any =
      let found = any_finds (has_origin origin) (occupied plant some pool) any in
      let held = find_occupied plant some pool (has_origin origin) found.0 found.1 in
      let from : origin_of plant held.0.spot.source ≡ Some origin = held.0.fed.origin ∙ ap Some (eqb-true found.0.origin origin held.1) in
      ap (option_and_then (λ (feed : Feed). feed.tie)) found.1
      ∙ sym held.0.fed.tie
      ∙ same_tie held.0.dest held.0.spot (fewer held.0.dest held.0.spot held.0.carries) held.0.fed.pooled from

  -- what the spot holds of its pool, and that it holds nothing of another one
  own_feed : feed_of plant pool spot ≡ Some (feed_with spot origin)
  own_feed =
      ap (λ b. cond b (option_map (λ origin. feed_with spot origin) (origin_of plant spot.source)) None) (ap (λ o. option_eq nat_eq o (Some pool)) comes.pooled ∙ eq-eqb pool pool refl)
      ∙ ap (λ o. option_map (λ origin. feed_with spot origin) o) comes.stands

  other_feed : (other : ℕ) → pool ≢ other → feed_of plant other spot ≡ None
  other_feed other apart =
      ap (λ b. cond b (option_map (λ origin. feed_with spot origin) (origin_of plant spot.source)) None) (ap (λ o. option_eq nat_eq o (Some other)) comes.pooled ∙ ne_eqb pool other apart)

  same_others : (other : ℕ) → pool ≢ other → occupied plant (put points dest (Some spot)) other ≡ occupied plant (put points dest None) other
  same_others other apart =
      occupied_put plant points other dest (Some spot) comes.inside
      ∙ ap (λ feed. with_feed (before plant points other dest) feed (behind plant points other dest)) (other_feed other apart)
      ∙ sym (occupied_put plant points other dest None comes.inside)

  with_it : occupied plant (put points dest (Some spot)) pool ≡ before plant points pool dest ++ feed_with spot origin ∷ behind plant points pool dest
  with_it =
      occupied_put plant points pool dest (Some spot) comes.inside
      ∙ ap (λ feed. with_feed (before plant points pool dest) feed (behind plant points pool dest)) own_feed

  without_it : occupied plant (put points dest None) pool ≡ before plant points pool dest ++ behind plant points pool dest
  without_it = occupied_put plant points pool dest None comes.inside

  -- a search of the pool that the spot passes, and those that it doesn't
  any_here : (test : Feed → Bool) → test (feed_with spot origin) ≡ true → list_any test (occupied plant (put points dest (Some spot)) pool) ≡ true
  any_here test passes = any_occupied plant (put points dest (Some spot)) pool dest spot origin test carries comes.pooled comes.stands passes

  any_apart : (test : Feed → Bool) → test (feed_with spot origin) ≡ false → list_any test (occupied plant (put points dest (Some spot)) pool) ≡ list_any test (occupied plant (put points dest None) pool)
  any_apart test fails =
      ap (list_any test) with_it
      ∙ any_inserted test (before plant points pool dest) (behind plant points pool dest) (feed_with spot origin)
      ∙ ap (λ b. b || list_any test (before plant points pool dest ++ behind plant points pool dest)) fails
      ∙ ap (list_any test) (sym without_it)

  find_apart : (test : Feed → Bool) → test (feed_with spot origin) ≡ false → find test (occupied plant (put points dest (Some spot)) pool) ≡ find test (occupied plant (put points dest None) pool)
  find_apart test fails =
      ap (find test) with_it
      ∙ find_inserted test (before plant points pool dest) (behind plant points pool dest) (feed_with spot origin) fails
      ∙ ap (find test) (sym without_it)

  -- other origins come by the ties by which they came, and other ties are held or not as they were
  tie_apart : (other other_origin : ℕ) → (pool ≡ other → origin ≡ other_origin → ⊥) → tie_beside plant (put points dest (Some spot)) other other_origin ≡ tie_beside plant (put points dest None) other other_origin
  tie_apart other other_origin apart = by (cases_eq pool other)
    where
      by : (pool ≡ other) ⊎ (pool ≢ other) → tie_beside plant (put points dest (Some spot)) other other_origin ≡ tie_beside plant (put points dest None) other other_origin
      by (inl same) =
          subst (λ p. tie_beside plant (put points dest (Some spot)) p other_origin ≡ tie_beside plant (put points dest None) p other_origin) same
          (ap (option_and_then (λ (feed : Feed). feed.tie)) (find_apart (has_origin other_origin) (ne_eqb origin other_origin (apart same))))
      by (inr differ) = ap (λ feeds. option_and_then (λ (feed : Feed). feed.tie) (find (has_origin other_origin) feeds)) (same_others other differ)

  held_apart : (other other_tie : ℕ) → (pool ≡ other → tie ≡ other_tie → ⊥) → list_any (has_tie other_tie) (occupied plant (put points dest (Some spot)) other) ≡ list_any (has_tie other_tie) (occupied plant (put points dest None) other)
  held_apart other other_tie apart = by (cases_eq pool other)
    where
      by : (pool ≡ other) ⊎ (pool ≢ other) → list_any (has_tie other_tie) (occupied plant (put points dest (Some spot)) other) ≡ list_any (has_tie other_tie) (occupied plant (put points dest None) other)
      by (inl same) =
          subst (λ p. list_any (has_tie other_tie) (occupied plant (put points dest (Some spot)) p) ≡ list_any (has_tie other_tie) (occupied plant (put points dest None) p)) same
          (any_apart (has_tie other_tie) (ap (λ o. option_eq nat_eq o (Some other_tie)) comes.tied ∙ ne_eqb tie other_tie (apart same)))
      by (inr differ) = ap (list_any (has_tie other_tie)) (same_others other differ)

  -- what is so of the way, and of each other one, is so of all
  by_way : (IsSo : ℕ → ℕ → ℕ → Type 0) → IsSo pool origin way → ((other other_origin other_way : ℕ) → other_way ≢ way → way_of plant other other_origin ≡ Some other_way → (pool ≡ other → origin ≡ other_origin → ⊥) → IsSo other other_origin other_way) → (other other_origin other_way : ℕ) → way_of plant other other_origin ≡ Some other_way → IsSo other other_origin other_way
  by_way IsSo here there other other_origin other_way is = by (cases_eq other_way way)
    where
      by : (other_way ≡ way) ⊎ (other_way ≢ way) → IsSo other other_origin other_way
      by (inl same) =
          let both = ways_differ plant other other_origin pool origin way (is ∙ ap Some same) comes.is in
          subst (λ o. IsSo other o other_way) (sym both.1)
          (subst (λ p. IsSo p origin other_way) (sym both.0)
          (subst (λ w. IsSo pool origin w) (sym same) here))
      by (inr differ) = there other other_origin other_way differ is (λ p o.
          let both : Some other_way ≡ Some way = sym is ∙ sym (ap (λ q. way_of plant q origin) p ∙ ap (way_of plant other) o) ∙ comes.is in
          let same : other_way ≡ way = cc in
          differ same)

  -- what is so of the tie, and of each other one, is so of all
  by_tie : (IsSo : ℕ → ℕ → Type 0) → IsSo pool tie → ((other other_tie : ℕ) → (pool ≡ other → tie ≡ other_tie → ⊥) → IsSo other other_tie) → (other other_tie : ℕ) → IsSo other other_tie
  by_tie IsSo here there other other_tie = by (cases_eq pool other) (cases_eq tie other_tie)
    where
      by : (pool ≡ other) ⊎ (pool ≢ other) → (tie ≡ other_tie) ⊎ (tie ≢ other_tie) → IsSo other other_tie
      by (inl same_pool) (inl same_tie) = subst (λ p. IsSo p other_tie) same_pool (subst (IsSo pool) same_tie here)
      by (inl same_pool) (inr apart) = there other other_tie (λ _ e. apart e)
      by (inr apart) either = there other other_tie (λ e _. apart e)

  -- whether the pool has the tie and it is free
  abbrev is_kept : Crosspoints → ℕ → ℕ → Bool
  is_kept some p t = nat_lt t (size_of plant p) && is_free plant some p t

  kept_here : (some : Crosspoints) → is_kept some pool tie ≡ is_free plant some pool tie
  kept_here some = ap (λ b. b && is_free plant some pool tie) (lt-ltb tie (size_of plant pool) comes.below)

  kept_apart : (p t : ℕ) → (pool ≡ p → tie ≡ t → ⊥) → is_kept (put points dest (Some spot)) p t ≡ is_kept (put points dest None) p t
  kept_apart p t apart = ap (λ b. nat_lt t (size_of plant p) && not b) (held_apart p t apart)

  -- the destination leaves, and another one has its origin still
  pub ties_stay : (ties : Entries ℕ) → HaveTies plant (put points dest (Some spot)) ties → list_any (has_origin origin) (occupied plant (put points dest None) pool) ≡ true → HaveTies plant (put points dest None) ties
  ties_stay ties have fed =
      by_way (λ p o w. finite.get ties w ≡ tie_beside plant (put points dest None) p o)
      (have pool origin way comes.is
      ∙ beside_is (put points dest (Some spot)) (λ at other those. those) (any_here (has_origin origin) (eq-eqb origin origin refl))
      ∙ sym (beside_is (put points dest None) stays fed))
      (λ p o w differ is apart. have p o w is ∙ tie_apart p o apart)

  -- another spot that has this origin has the tie, and one that has the tie has the origin
  still_held : list_any (has_origin origin) (occupied plant (put points dest None) pool) ≡ true → list_any (has_tie tie) (occupied plant (put points dest None) pool) ≡ true
  still_held fed =
      let found = any_finds (has_origin origin) (occupied plant (put points dest None) pool) fed in
      let held = find_occupied plant (put points dest None) pool (has_origin origin) found.0 found.1 in
      let from : origin_of plant held.0.spot.source ≡ Some origin = held.0.fed.origin ∙ ap Some (eqb-true found.0.origin origin held.1) in
      any_occupied plant (put points dest None) pool held.0.dest held.0.spot origin (has_tie tie) held.0.carries held.0.fed.pooled from
      (ap (λ o. option_eq nat_eq o (Some tie)) (same_tie held.0.dest held.0.spot (stays held.0.dest held.0.spot held.0.carries) held.0.fed.pooled from) ∙ eq-eqb tie tie refl)

  still_fed : list_any (has_tie tie) (occupied plant (put points dest None) pool) ≡ true → list_any (has_origin origin) (occupied plant (put points dest None) pool) ≡ true
  still_fed any =
      let found = any_finds (has_tie tie) (occupied plant (put points dest None) pool) any in
      let held = find_occupied plant (put points dest None) pool (has_tie tie) found.0 found.1 in
      let has : held.0.spot.tie ≡ Some tie = held.0.fed.tie ∙ same_option found.0.tie (Some tie) held.1 in
      any_occupied plant (put points dest None) pool held.0.dest held.0.spot origin (has_origin origin) held.0.carries held.0.fed.pooled
      (same_origin held.0.dest held.0.spot (stays held.0.dest held.0.spot held.0.carries) held.0.fed.pooled has)
      (eq-eqb origin origin refl)

  own_tie : has_tie tie (feed_with spot origin) ≡ true
  own_tie = ap (λ o. option_eq nat_eq o (Some tie)) comes.tied ∙ eq-eqb tie tie refl

  pub free_stay : (free : List Numbers) → HaveFree plant (put points dest (Some spot)) free → list_any (has_origin origin) (occupied plant (put points dest None) pool) ≡ true → HaveFree plant (put points dest None) free
  free_stay free have fed =
      by_tie (λ p t. contains (free_of free p) t ≡ is_kept (put points dest None) p t)
      (have pool tie ∙ ap (λ b. nat_lt tie (size_of plant pool) && not b) (any_here (has_tie tie) own_tie ∙ sym (still_held fed)))
      (λ p t apart. have p t ∙ kept_apart p t apart)

  -- it leaves, and no other one has its origin
  pub ties_freed : (ties : Entries ℕ) → HaveTies plant (put points dest (Some spot)) ties → list_any (has_origin origin) (occupied plant (put points dest None) pool) ≡ false → HaveTies plant (put points dest None) (put ties way None)
  ties_freed ties have unfed =
      by_way (λ p o w. finite.get (put ties way None) w ≡ tie_beside plant (put points dest None) p o)
      (get-put_same ties way None ∙ sym (ap (option_and_then (λ (feed : Feed). feed.tie)) (none_found (has_origin origin) (occupied plant (put points dest None) pool) unfed)))
      (λ p o w differ is apart. get-put_other ties way None w differ ∙ have p o w is ∙ tie_apart p o apart)

  pub free_freed : (free : List Numbers) → pool < length free → HaveFree plant (put points dest (Some spot)) free → list_any (has_origin origin) (occupied plant (put points dest None) pool) ≡ false →
      HaveFree plant (put points dest None) (set free pool (insert (free_of free pool) tie))
  free_freed free placed have unfed =
      let gone : list_any (has_tie tie) (occupied plant (put points dest None) pool) ≡ false = false_from_ne_true _ (λ any. false≢true (sym unfed ∙ still_fed any)) in
      by_tie (λ p t. contains (free_of (set free pool (insert (free_of free pool) tie)) p) t ≡ is_kept (put points dest None) p t)
      (inserted_here free pool tie placed ∙ sym (kept_here (put points dest None) ∙ ap not gone))
      (λ p t apart. inserted_apart free pool tie placed p t apart ∙ have p t ∙ kept_apart p t apart)

  -- it takes its source
  pub ties_given : (ties : Entries ℕ) → HaveTies plant (put points dest None) ties → HaveTies plant (put points dest (Some spot)) (put ties way (Some tie))
  ties_given ties have =
      by_way (λ p o w. finite.get (put ties way (Some tie)) w ≡ tie_beside plant (put points dest (Some spot)) p o)
      (get-put_same ties way (Some tie) ∙ sym (beside_is (put points dest (Some spot)) (λ at other those. those) (any_here (has_origin origin) (eq-eqb origin origin refl))))
      (λ p o w differ is apart. get-put_other ties way (Some tie) w differ ∙ have p o w is ∙ sym (tie_apart p o apart))

  pub free_given : (free : List Numbers) → pool < length free → HaveFree plant (put points dest None) free → HaveFree plant (put points dest (Some spot)) (set free pool (remove (free_of free pool) tie))
  free_given free placed have =
      by_tie (λ p t. contains (free_of (set free pool (remove (free_of free pool) tie)) p) t ≡ is_kept (put points dest (Some spot)) p t)
      (removed_here free pool tie placed ∙ sym (kept_here (put points dest (Some spot)) ∙ ap not (any_here (has_tie tie) own_tie)))
      (λ p t apart. removed_apart free pool tie placed p t apart ∙ have p t ∙ sym (kept_apart p t apart))

-- the tie that is kept for a way, or else the lowest free one, is the one that is chosen for its sources
pub chosen_is : (plant : PlantData) (points : Crosspoints) (source pool origin way : ℕ) (holdings : Holdings) → pool_of plant source ≡ Some pool → origin_of plant source ≡ Some origin → way_of plant pool origin ≡ Some way → HaveTies plant points holdings.ties.entries → HaveFree plant points holdings.free →
    tie_for holdings pool way ≡ chosen_tie plant points source
unfolding chosen_tie
chosen_is plant points source pool origin way holdings pooled stands is ties free =
    ap (λ tie. option_or tie (lowest (free_of holdings.free pool))) (ties pool origin way is)
    ∙ ap (option_or (tie_beside plant points pool origin)) (lowest_below (free_of holdings.free pool) (is_free plant points pool) (size_of plant pool) (free pool))
    ∙ sym picked
  where
    pick : ℕ → Option ℕ → Option ℕ
    pick pool origin = option_or (option_and_then (tie_beside plant points pool) origin) (lowest_free plant points pool)

    picked : chosen_tie plant points source ≡ option_or (tie_beside plant points pool origin) (lowest_free plant points pool)
    picked = ap (λ p. option_and_then (λ pool. pick pool (origin_of plant source)) p) pooled ∙ ap (pick pool) stands
