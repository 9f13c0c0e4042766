-- Where all is parked, the roots are live and nothing is on.
use Rattle.std.proofs.Common.{◌≡◌, ◌≢◌, ◌⊎◌, ℕ, ◌+◌, ◌<◌, ◌==◌, nat_lt, Bool, true, false, ◌||◌, List, [], ◌∷◌, take, length, slice_get, replicate, Option, Some, None, zero, suc, inl, inr, refl, sym, ap, subst, ◌∙◌, arith, eq-eqb, eqb-true, get_or}
use Rattle.std.proofs.lemmas.Bool.{cases_eq, ne_eqb, both_ways}
use Rattle.std.proofs.lemmas.List.Folds.{list_any-append}
use Rattle.std.proofs.lemmas.Map.Keys.{any_passes_from_place}
use Rattle.std.proofs.lemmas.Option.{slice_get_within, slice_get_read, get_or_from_slice_get}
use Rattle.std.specs.List.{All, Contains}
use Rattle.std.specs.Option.{option_map, option_and_then, unwrap_or}
use Rattle.std.specs.Ordering.{nat_cmp}
use Rattle.std.specs.FinMap as finite
use Rattle.std.specs.FinSet.{empty, contains, insert, contains-empty}
use Rattle.number_tables.proofs.Members.{contains_inserted}
use Rattle.tap_lists.specs.Lists.{Lists, list_of}
use Rattle.plant_config.specs.declared.records.Level.{Level}
use Rattle.plant_config.specs.Plant.{PlantData, dest_numbers, destinations_of, sources_of}
use Rattle.plant_config.specs.IsPlant.{IsPlant, IsMainDest, IsSomeSo}
use Rattle.plant_config.specs.Sites.{level_of, has_number}
use Rattle.plant_config.specs.Sources.{origin_of}
use Rattle.plant_config.proofs.SiteLemmas.{dests_are, level_of-is, numbers_within}
use Rattle.crosspoint_state.specs.declared.spot.Spot.{Spot}
use Rattle.crosspoint_state.specs.Taps.{origin_at}
use Rattle.mixer_effects.specs.Live.{is_live}
use Rattle.mixer_effects.proofs.LiveLemmas.{live_is_least}
use Rattle.mixer_effects.proofs.AnyLemmas.{any_place}
use Rattle.tally.specs.declared.roots.Roots.{Roots}
use Rattle.tally.specs.declared.roots.Roots.TheVariants.{Air, Preview}
use Rattle.tally.specs.Tally.{Origins, roots_of, is_root}
use Rattle.tally.specs.MarkLaws.{AreSettled}
use Rattle.tally.specs.Lost.{AreRoots}
use Rattle.tally.proofs.ListLemmas.{taken_more}

-- a destination of level 0 is one of the plant's
main_below : (plant : PlantData) → IsPlant plant → (dest : ℕ) → IsMainDest plant dest → dest < destinations_of plant
main_below plant is dest main = by (level_of dest_numbers plant dest) refl main
  where
    by : (found : Option Level) → level_of dest_numbers plant dest ≡ found → IsSomeSo found (λ at. at.level ≡ 0) → dest < destinations_of plant
    by None at main = absurd main
    by (Some level) at main =
        let among = level_of-is dest_numbers plant (dests_are plant is) dest level at in
        let inside = numbers_within dest_numbers plant (dests_are plant is) (has_number dest_numbers dest) level at in
        omega (arith, among.high, inside)

pub mains_below : (plant : PlantData) (dests : List ℕ) → IsPlant plant → All (IsMainDest plant) dests → All (λ dest. dest < 65536) dests
mains_below plant dests is main k d below = omega (arith, main_below plant is (get_or dests k d) (main k d below), is.destinations)

pub roots_main : (plant : PlantData) (roots : Roots) → IsPlant plant → All (IsMainDest plant) (roots_of plant roots)
roots_main plant Air is = is.linked.air.1
roots_main plant Preview is = is.linked.preview.1

-- one root more
pub roots_none : (set : Origins) → set ≡ empty → AreRoots [] set
roots_none set none dest = ap (λ (set : Origins). contains set dest) none ∙ contains-empty nat_cmp dest

pub roots_more : (roots : List ℕ) (i root number : ℕ) (before set : Origins) → i < length roots → root ≡ get_or roots i root → set ≡ insert before number → number ≡ root → AreRoots (take i roots) before → AreRoots (take (i + 1) roots) set
roots_more roots i root number before set below at put same are dest =
    ap (λ (set : Origins). contains set dest) put
    ∙ contains_inserted before number dest
    ∙ ap (λ b. (dest == number) || b) (are dest)
    ∙ by (cases_eq dest root) (is_root (take i roots) dest)
    ∙ sym (list_any-append (λ (other : ℕ). other == dest) (take i roots) (root ∷ []))
    ∙ sym (ap (λ (list : List ℕ). is_root list dest) (taken_more roots i root (sym (slice_get_read roots (length roots) i root refl below at))))
  where
    on : (b : Bool) → (true || b) ≡ (b || (true || false))
    on true = refl
    on false = refl

    off : (b : Bool) → (false || b) ≡ (b || (false || false))
    off true = refl
    off false = refl

    by : (dest ≡ root) ⊎ (dest ≢ root) → (b : Bool) → ((dest == number) || b) ≡ (b || ((root == dest) || false))
    by (inl here) b =
        ap (λ a. a || b) (eq-eqb dest number (here ∙ sym same)) ∙ on b ∙ sym (ap (λ a. b || (a || false)) (eq-eqb root dest (sym here)))
    by (inr apart) b =
        ap (λ a. a || b) (ne_eqb dest number (λ e. apart (e ∙ same))) ∙ off b ∙ sym (ap (λ a. b || (a || false)) (ne_eqb root dest (λ e. apart (sym e))))

-- nothing is under any head
none_in : (n k : ℕ) → unwrap_or {T = List ℕ} (slice_get (replicate n []) k) [] ≡ []
none_in zero zero = refl
none_in zero (suc k) = refl
none_in (suc n) zero = refl
none_in (suc n) (suc k) = none_in n k

module _ (plant : PlantData) (is : IsPlant plant) (roots : List ℕ) (main : All (IsMainDest plant) roots) (live : Origins) (lit : Lists) (fed turned : Origins) (rooted : AreRoots roots live) (count : ℕ) (heads : lit.by_head ≡ replicate count []) (heads_are : length lit.by_head ≡ sources_of plant) (members_are : lit.members ≡ destinations_of plant) (unfed : fed ≡ empty) where
  none_under : (origin : ℕ) → list_of lit origin ≡ []
  none_under origin = ap (λ (lists : List (List ℕ)). unwrap_or (slice_get lists origin) []) heads ∙ none_in count origin

  parked : (dest : ℕ) → origin_at plant finite.empty dest ≡ None
  parked dest = ap (λ spot. option_and_then (origin_of plant) (option_map (λ (s : Spot). s.source) spot)) (finite.get-empty nat_cmp dest)

  no_fed : (device : ℕ) → contains fed device ≡ false
  no_fed device = ap (λ (set : Origins). contains set device) unfed ∙ contains-empty nat_cmp device

  no_under : (origin dest : ℕ) → Contains (list_of lit origin) dest → ⊥
  no_under origin dest under =
      let none : Contains [] dest = subst (λ (list : List ℕ). Contains list dest) (none_under origin) under in
      omega (arith, none.1)

  no_origin : (origin dest : ℕ) → origin_at plant finite.empty dest ≡ Some origin → ⊥
  no_origin origin dest carried = let e : None ≡ Some origin = sym (parked dest) ∙ carried in cc

  pub settled_parked : AreSettled plant finite.empty roots (record { live = live; lit = lit; fed = fed; turned = turned })
  settled_parked = record {
    kept = record {
      heads = heads_are;
      members = members_are;
      below = λ dest marked.
          let found = any_place (λ root. root == dest) roots (sym (rooted dest) ∙ marked) in
          let below = main_below plant is found.1 (subst (IsMainDest plant) (get_or_from_slice_get roots found.0 found.1 found.1 found.2) (main found.0 found.1 (slice_get_within roots found.0 found.1 found.2))) in
          omega (arith, below, eqb-true found.1 dest found.3);
      lit = λ origin dest. (λ under. absurd (no_under origin dest under), λ both. absurd (no_origin origin dest both.1));
      fed = λ device output has. no_fed device ∙ sym (ap (λ (list : List ℕ). nat_lt 0 (length list)) (none_under output));
    };
    sound = λ dest marked.
        let found = any_place (λ root. root == dest) roots (sym (rooted dest) ∙ marked) in
        subst (λ dest. is_live plant finite.empty roots dest ≡ true) (eqb-true found.1 dest found.3) ((live_is_least plant finite.empty roots).closed.has_roots found.0 found.1 found.2);
    rooted = λ place root at. rooted root ∙ any_passes_from_place (λ other. other == root) roots place root at (eq-eqb root root refl);
    buses = λ place bus at on feeds. absurd (both_ways (contains fed bus.device) (no_fed bus.device) feeds);
  }
