-- The changes that bring what stands to where nothing stood, destination by destination.
use Rattle.std.proofs.Common.{◌≡◌, ℕ, ◌+◌, ◌<◌, nat_eq, true, false, not, List, [], ◌∷◌, ◌++◌, length, get_or, All, Option, Some, None, inl, inr, refl, sym, ap, subst, ◌∙◌, arith, eqb-true}
use Rattle.std.proofs.lemmas.Bool.{cases_eq, cases_lt, false_from_ne_true}
use Rattle.std.proofs.lemmas.List.{map_push, length-map, length_push, get_or-map}
use Rattle.std.proofs.lemmas.List.Elements.{Contains-append_left, Contains-push, Contains-push_cases}
use Rattle.std.proofs.lemmas.List.Folds.{Any-from_list_any}
use Rattle.std.proofs.lemmas.Map.Keys.{IsDistinct-push}
use Rattle.std.specs.Cmp.{nat_eq_equiv}
use Rattle.std.specs.FinMap.{empty, get, get-empty}
use Rattle.std.specs.List.{IsDistinct, list_any, Contains}
use Rattle.std.specs.Option.{option_map, option_eq}
use Rattle.std.specs.Ordering.{nat_cmp}
use Rattle.plant_config.specs.Plant.{PlantData, destinations_of}
use Rattle.plant_config.specs.IsPlant.{IsPlant, IsDest}
use Rattle.plant_config.specs.declared.records.Change.{Change}
use Rattle.plant_config.proofs.SiteLemmas.{dest_at-below}
use Rattle.crosspoint_state.specs.declared.spot.Spot.{Spot}
use Rattle.crosspoint_state.specs.Crosspoints.{Crosspoints, source_of}
use Rattle.crosspoint_state.proofs.ChangeLists.{NamesOnce-nil}
use Rattle.tally.specs.Moved.{has_moved}
use Rattle.tally.specs.Touched.{named_by}
use Rattle.tally.specs.Update.{AreMoves}
use Rattle.plant_core.specs.State.{AreCrosspoints}
use Rattle.plant_core.specs.ReadInside.{AreBrought}

no_member : (dest : ℕ) → Contains [] dest → ⊥
no_member dest (k, below, is) = absurd (omega arith)

pub brought_none : (points : Crosspoints) → AreBrought points 0 []
brought_none points = record {
  few = omega arith;
  below = λ dest among. absurd (no_member dest among);
  each = λ dest among. absurd (no_member dest among);
  only = λ dest below. absurd (omega arith);
  once = NamesOnce-nil;
}

parked : (spot : Option Spot) → option_map (λ (spot : Spot). spot.source) spot ≡ None → spot ≡ None
parked None is = refl
parked (Some spot) is = (cc)

-- a destination that is parked
pub brought_same : (points : Crosspoints) (count : ℕ) (changes : List Change) → AreBrought points count changes → source_of points count ≡ None → AreBrought points (count + 1) changes
brought_same points count changes are none = record {
  few = let few = are.few in omega arith;
  below = λ dest among. let below = are.below dest among in omega arith;
  each = are.each;
  only = λ dest below absent. elim (cases_eq dest count) [
    | inl here ↦ ap (get points) here ∙ parked (get points count) none
    | inr other ↦ are.only dest (omega arith) absent
  ];
  once = are.once;
}

not_among : (list : List ℕ) (count : ℕ) → ((dest : ℕ) → Contains list dest → dest < count) → list_any (nat_eq count) list ≡ false
not_among list count below =
    false_from_ne_true (list_any (nat_eq count) list)
    (λ some.
    let found = Any-from_list_any (nat_eq count) list some in
    let same : count ≡ found.1 = eqb-true count found.1 found.4 in
    let low : found.1 < count = below found.1 (found.0, found.2, found.3) in
    omega arith)

has_come : (points : Crosspoints) (dest source : ℕ) → source_of points dest ≡ Some source → has_moved empty points dest ≡ true
has_come points dest source carries =
    ap (λ found. not (option_eq nat_eq (option_map (λ (spot : Spot). spot.source) found) (source_of points dest))) (get-empty nat_cmp dest)
    ∙ ap (λ found. not (option_eq nat_eq None found)) carries

-- a destination that carries a source
brought_more : (points : Crosspoints) (count source : ℕ) (changes after : List Change) → AreBrought points count changes → source_of points count ≡ Some source →
    after ≡ changes ++ record { dest = count; source = Some source } ∷ [] → AreBrought points (count + 1) after
brought_more points count source changes after are carries behind = record {
  few = let few = are.few in let long = ap length behind ∙ length_push changes change in omega arith;
  below = λ dest among. elim (Contains-push_cases (named_by changes) count dest (within dest among)) [
    | inl before ↦ let below = are.below dest before in omega arith
    | inr here ↦ omega arith
  ];
  each = λ dest among. elim (Contains-push_cases (named_by changes) count dest (within dest among)) [
    | inl before ↦ are.each dest before
    | inr here ↦ subst (λ (at : ℕ). has_moved empty points at ≡ true) here (has_come points count source carries)
  ];
  only = λ dest below absent. elim (cases_eq dest count) [
    | inl here ↦ absurd (absent (subst (Contains (named_by after)) (sym here) (subst (λ list. Contains list count) (sym names) (Contains-push (named_by changes) count))))
    | inr other ↦ are.only dest (omega arith) (λ before. absent (subst (λ list. Contains list dest) (sym names) (Contains-append_left (named_by changes) (count ∷ []) dest before)))
  ];
  once = subst (IsDistinct nat_eq) (sym names) (IsDistinct-push nat_eq_equiv (named_by changes) count are.once (not_among (named_by changes) count are.below));
}
  where
    change : Change
    change = record { dest = count; source = Some source }

    names : named_by after ≡ named_by changes ++ count ∷ []
    names = ap named_by behind ∙ map_push (λ (change : Change). change.dest) changes change

    within : (dest : ℕ) → Contains (named_by after) dest → Contains (named_by changes ++ count ∷ []) dest
    within dest among = subst (λ list. Contains list dest) names among

-- the same, where the source was found before it is known to be one
pub brought_found : (points : Crosspoints) (count source : ℕ) (found : Option ℕ) (changes after : List Change) → AreBrought points count changes → found ≡ source_of points count → found ≡ Some source →
    after ≡ changes ++ record { dest = count; source = found } ∷ [] → AreBrought points (count + 1) after
brought_found points count source found changes after are of is behind =
    brought_more points count source changes after are (sym of ∙ is)
    (behind ∙ ap (λ (told : Option ℕ). changes ++ (let change : Change = record { dest = count; source = told } in change) ∷ []) is)

-- what the plant hasn't is parked
pub outside : (plant : PlantData) (points : Crosspoints) (dest : ℕ) (spot : Option Spot) → IsPlant plant → AreCrosspoints plant points → get points dest ≡ spot → (dest < destinations_of plant → ⊥) → spot ≡ None
outside plant points dest None is are carried above = refl
outside plant points dest (Some spot) is are carried above =
    let crosspoint = are dest spot carried in
    absurd (above (dest_at-below plant crosspoint.matrix crosspoint.level crosspoint.dest_number dest is crosspoint.dest_is))

pub brought_moves : (plant : PlantData) (points : Crosspoints) (changes : List Change) → IsPlant plant → AreCrosspoints plant points → AreBrought points (destinations_of plant) changes → AreMoves empty points changes
brought_moves plant points changes is crosspoints are = record {
  only = λ dest absent. elim (cases_lt dest (destinations_of plant)) [
    | inl below ↦ are.only dest below absent ∙ sym (get-empty nat_cmp dest)
    | inr above ↦ outside plant points dest (get points dest) is crosspoints refl (λ below. omega arith) ∙ sym (get-empty nat_cmp dest)
  ];
  each = are.each;
  once = are.once;
}

pub brought_inside : (plant : PlantData) (points : Crosspoints) (changes : List Change) → AreBrought points (destinations_of plant) changes → All (λ (change : Change). IsDest plant change.dest) changes
brought_inside plant points changes are k d below =
    are.below (get_or changes k d).dest (k, omega (arith, length-map changes (λ (change : Change). change.dest)), get_or-map (λ (change : Change). change.dest) changes k d (get_or changes k d).dest below)
