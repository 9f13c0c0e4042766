-- Where all is parked and one destination is moved that isn't live, no device is affected.
use Rattle.std.proofs.Common.{◌≡◌, ◌≢◌, ◌⊎◌, ◌<◌, ◌≤◌, ℕ, nat_cmp, ◌==◌, nat_eq, Bool, true, false, not, cond, List, [], ◌∷◌, length, slice_get, Option, Some, None, zero, suc, inl, inr, refl, sym, ap, subst, ◌∙◌, arith, eq-eqb}
use Rattle.std.proofs.lemmas.Bool.{both_ways, cases_eq}
use Rattle.std.proofs.lemmas.List.Elements.{All-nil, All-cons}
use Rattle.std.proofs.lemmas.Map.Keys.{any_passes_from_place, IsDistinct-cons}
use Rattle.std.specs.Option.{option_map, option_map_or, option_and_then, option_eq}
use Rattle.std.specs.FinMap.{empty, get, get-empty}
use Rattle.plant_config.specs.Sources.{origin_of}
use Rattle.plant_config.specs.Plant.{PlantData, destinations_of}
use Rattle.plant_config.specs.declared.records.Change.{Change}
use Rattle.crosspoint_state.specs.declared.spot.Spot.{Spot}
use Rattle.crosspoint_state.specs.Crosspoints.{Crosspoints, source_of}
use Rattle.crosspoint_state.proofs.ChangeLists.{NamesOnce-nil}
use Rattle.number_tables.specs.Table.{put}
use Rattle.number_tables.proofs.PutLemmas.{get-put_same, get-put_other}
use Rattle.mixer_effects.specs.Buses.{output_of, switched_at}
use Rattle.mixer_effects.specs.Live.{carries, is_fed_by, live, is_live, is_origin_seen}
use Rattle.mixer_effects.specs.Laws.{AreClosed}
use Rattle.mixer_effects.proofs.LiveLemmas.{live_is_least}
use Rattle.mixer_effects.proofs.AnyLemmas.{any_place}
use Rattle.tally.specs.Weight.{weights, weigh, device_weight}
use Rattle.tally.specs.Touched.{with_switched}
use Rattle.tally.specs.Moved.{has_moved, lost_between}
use Rattle.tally.specs.Update.{AreMoves}
use Rattle.tally.specs.Doubt.{is_doubtful, is_device_on, is_affected}
use Rattle.tally.specs.Reads.{moved_and_switched, read_bound}
use Rattle.tally.proofs.MovedLemmas.{each_named}
use Rattle.tally.proofs.WeightLemmas.{weigh_same}

-- a bit that can't be set
never_true : (b : Bool) → (b ≡ true → ⊥) → b ≡ false
never_true true never = absurd (never refl)
never_true false never = refl

-- what is parked carries no picture
dark : (plant : PlantData) (points : Crosspoints) (origin dest : ℕ) → get points dest ≡ None → carries plant points origin dest ≡ false
dark plant points origin dest parked =
    ap (λ spot. option_eq nat_eq (option_and_then (origin_of plant) (option_map (λ (spot : Spot). spot.source) spot)) (Some origin)) parked

-- and so no device feeds it
unfed : (plant : PlantData) (points : Crosspoints) (device dest : ℕ) → get points dest ≡ None → is_fed_by plant points device dest ≡ false
unfed plant points device dest parked = by (output_of plant device)
  where
    by : (out : Option ℕ) → option_map_or (λ output. carries plant points output dest) out false ≡ false
    by None = refl
    by (Some output) = dark plant points output dest parked

none_weighs : (w : ℕ → ℕ) (n : ℕ) → weights w (λ _. false) n ≡ 0
unfolding weights
none_weighs w zero = refl
none_weighs w (suc n) = let rest : weights w (λ _. false) n ≡ 0 = none_weighs w n in omega (arith, rest)

none_weigh : (w : ℕ → ℕ) → weigh w (λ _. false) ≡ 0
unfolding weigh
none_weigh w = none_weighs w _

none_below : (w : ℕ → ℕ) (f : ℕ → Bool) (n : ℕ) → ((k : ℕ) → k < n → f k ≡ false) → weights w f n ≡ 0
unfolding weights
none_below w f zero none = refl
none_below w f (suc n) none =
    let here : cond (f n) (w n) 0 ≡ 0 = ap (λ b. cond b (w n) 0) (none n (omega arith)) in
    let rest : weights w f n ≡ 0 = none_below w f n (λ k below. none k (omega arith)) in
    omega (arith, here, rest)

-- where no other number passes a test, what passes weighs no more than that one
only_weighs : (w : ℕ → ℕ) (f : ℕ → Bool) (d n : ℕ) → ((k : ℕ) → k ≢ d → f k ≡ false) → weights w f n ≤ w d
unfolding weights
only_weighs w f d zero others = omega arith
only_weighs w f d (suc n) others = by (cases_eq n d) (only_weighs w f d n others)
  where
    most : (b : Bool) (x : ℕ) → cond b x 0 ≤ x
    most true x = omega arith
    most false x = omega arith

    by : (n ≡ d) ⊎ (n ≢ d) → weights w f n ≤ w d → weights w f (suc n) ≤ w d
    by (inl same) rest =
        let none : weights w f n ≡ 0 = none_below w f n (λ k below. others k (λ is. omega (arith, is, same, below))) in
        let here : cond (f n) (w n) 0 ≤ w n = most (f n) (w n) in
        let it : w n ≡ w d = ap w same in
        omega (arith, none, here, it)
    by (inr apart) rest =
        let here : cond (f n) (w n) 0 ≡ 0 = ap (λ b. cond b (w n) 0) (others n apart) in
        omega (arith, here, rest)

no_first : (dests : List ℕ) → slice_get dests 0 ≡ None → dests ≡ []
no_first [] none = refl
no_first (dest ∷ dests) none = cc

module _ (plant : PlantData) (roots : List ℕ) (points : Crosspoints) (change : Change) (off : is_live plant empty roots change.dest ≡ false) (alone : (other : ℕ) → other ≢ change.dest → get points other ≡ None) where
  -- what is live where all is parked stays parked
  stays : (dest : ℕ) → is_live plant empty roots dest ≡ true → get points dest ≡ None
  stays dest lives = alone dest (λ same. both_ways (is_live plant empty roots change.dest) off (subst (λ d. is_live plant empty roots d ≡ true) same lives))

  closed : AreClosed plant points roots (is_live plant empty roots)
  closed = record {
    has_roots = (live_is_least plant empty roots).closed.has_roots;
    has_buses = λ place dest bus at on lives fed. absurd (both_ways (is_fed_by plant points bus.device dest) (unfed plant points bus.device dest (stays dest lives)) fed);
  }

  unseen : (origin : ℕ) → is_origin_seen plant points roots origin ≡ false
  unseen origin = never_true (is_origin_seen plant points roots origin) (λ seen.
      let found = any_place (carries plant points origin) (live plant points roots) seen in
      let lives = any_passes_from_place (λ other. other == found.1) (live plant points roots) found.0 found.1 found.2 (eq-eqb found.1 found.1 refl) in
      both_ways (carries plant points origin found.1) (dark plant points origin found.1 (stays found.1 ((live_is_least plant points roots).least (is_live plant empty roots) closed found.1 lives))) found.3)

  no_output : (device : ℕ) → is_device_on plant points roots device ≡ false
  no_output device = by (output_of plant device)
    where
      by : (out : Option ℕ) → option_map_or (is_origin_seen plant points roots) out false ≡ false
      by None = refl
      by (Some output) = unseen output

  no_doubt : (device : ℕ) → is_doubtful plant empty (lost_between plant empty points roots) device ≡ false
  no_doubt device = never_true (is_doubtful plant empty (lost_between plant empty points roots) device) (λ doubt.
      let found = any_place (is_fed_by plant empty device) (live plant empty (lost_between plant empty points roots)) doubt in
      both_ways (is_fed_by plant empty device found.1) (unfed plant empty device found.1 (get-empty nat_cmp found.1)) found.3)

  unaffected : (device : ℕ) → is_affected plant empty points roots device ≡ false
  unaffected device = rw (no_doubt device, no_output device) refl

  still : (dest : ℕ) → dest ≢ change.dest → has_moved empty points dest ≡ false
  still dest apart =
      ap (λ (spot : Option Spot). not (option_eq nat_eq (option_map (λ (spot : Spot). spot.source) spot) (source_of points dest))) (get-empty nat_cmp dest)
      ∙ ap (λ (spot : Option Spot). not (option_eq nat_eq None (option_map (λ (spot : Spot). spot.source) spot))) (alone dest apart)

  pub reads_little : slice_get (switched_at plant change.dest) 0 ≡ None → read_bound plant empty points roots ≤ 9
  reads_little none =
      let weight : weigh (device_weight plant) (is_affected plant empty points roots) ≡ 0 =
      weigh_same (device_weight plant) (is_affected plant empty points roots) (λ _. false) unaffected ∙ none_weigh (device_weight plant) in
      let few : moved_and_switched plant empty points ≤ length (with_switched plant change.dest) =
      only_weighs (λ dest. length (with_switched plant dest)) (has_moved empty points) change.dest (destinations_of plant) still in
      let one : length (with_switched plant change.dest) ≡ 1 =
      ap (λ (switched : List ℕ). length (change.dest ∷ switched)) (no_first (switched_at plant change.dest) none) in
      omega (arith, weight, few, one)

  pub one_moved : (changes : List Change) → changes ≡ change ∷ [] → has_moved empty points change.dest ≡ true → AreMoves empty points changes
  one_moved changes one moved = rw one (record {
    only = λ dest unnamed. alone dest (λ same. unnamed (0, omega arith, sym same)) ∙ sym (get-empty nat_cmp dest);
    each =
        each_named (λ dest. has_moved empty points dest ≡ true) (change ∷ [])
        (All-cons (λ (c : Change). has_moved empty points c.dest ≡ true) change [] moved (All-nil (λ (c : Change). has_moved empty points c.dest ≡ true)));
    once = IsDistinct-cons nat_eq change.dest [] tt NamesOnce-nil;
  })

-- a destination that was parked and carries something has moved
pub put_moved : (points : Crosspoints) (dest : ℕ) (spot : Spot) → has_moved empty (put points dest (Some spot)) dest ≡ true
put_moved points dest spot =
    ap (λ (old : Option Spot). not (option_eq nat_eq (option_map (λ (spot : Spot). spot.source) old) (source_of (put points dest (Some spot)) dest))) (get-empty nat_cmp dest)
    ∙ ap (λ (new : Option Spot). not (option_eq nat_eq None (option_map (λ (spot : Spot). spot.source) new))) (get-put_same points dest (Some spot))

-- where all was parked and one destination was put, the others are parked still
pub others_parked : (points : Crosspoints) (dest : ℕ) (spot : Option Spot) → points ≡ empty → (other : ℕ) → other ≢ dest → get (put points dest spot) other ≡ None
others_parked points dest spot parked other unlike =
    get-put_other points dest spot other unlike ∙ ap (λ (p : Crosspoints). get p other) parked ∙ get-empty nat_cmp other
