-- The screens that displays are on: the one list that rises and has those.
use Rattle.std.proofs.Common.{◌≡◌, ◌≢◌, ℕ, zero, suc, ◌+◌, ◌<◌, ◌≤◌, ◌==◌, Bool, true, false, cond, List, [], ◌∷◌, All, map, filter, length, get_or, Some, None, Result, Ok, Err, refl, sym, ap, subst, ◌∙◌, inl, inr, arith}
use Rattle.std.specs.Prelude.{◌||◌, ◌&&◌}
use Rattle.std.specs.List.{list_any, range_with_len, Contains}
use Rattle.std.specs.List.Sorted.{IsStrictlyIncreasing, IsStrictlySortedBy}
use Rattle.std.specs.Ordering.{nat_cmp}
use Rattle.std.specs.Result.{MatchResult, is_ok}
use Rattle.std.proofs.lemmas.Bool.{ne_eqb, eqb-true, eq-eqb, cases_lt}
use Rattle.std.proofs.lemmas.List.{get_or_default}
use Rattle.std.proofs.lemmas.List.Elements.{All-head, All-tail, All-map, All-weaker}
use Rattle.std.proofs.lemmas.List.Folds.{Any-from_list_any, list_any_at, list_any_none}
use Rattle.std.proofs.lemmas.List.FromFn.{length-range_with_len, get_or-range_with_len}
use Rattle.std.proofs.lemmas.List.Kept.{IsStrictlyIncreasing-filter}
use Rattle.std.proofs.lemmas.Map.Keys.{sorted_tail, below_from_sorted, sorted_from_strictly_increasing}
use Rattle.std.proofs.lemmas.Map.Views.{any-filter_same}
use Rattle.plant_config.specs.declared.records.Display.{Display}
use Rattle.plant_config.specs.Limits.{last_screen}
use Rattle.plant_config.specs.Plant.{PlantData}
use Rattle.plant_config.specs.IsPlant.{IsDisplay, IsPlant}
use Rattle.plant_config.specs.Screens.{is_screen_among, has_screen, screen_of, screens_among, ScreensAreOfDisplays}
use Rattle.plant_config.specs.DisplaysInside.{IsOnScreen}

same_answers : (a b : Bool) → (a ≡ true → b ≡ true) → (b ≡ true → a ≡ true) → a ≡ b
same_answers true b one other = sym (one refl)
same_answers false true one other = other refl
same_answers false false one other = refl

-- whether a number is among some
abbrev pub among : List ℕ → ℕ → Bool
among numbers number = list_any (λ other. other == number) numbers

pub among-Contains : (numbers : List ℕ) (number : ℕ) → Contains numbers number → among numbers number ≡ true
among-Contains numbers number has = list_any_at (λ other. other == number) numbers has.0 number has.1 (eq-eqb _ _ has.2)

pub Contains-among : (numbers : List ℕ) (number : ℕ) → among numbers number ≡ true → Contains numbers number
Contains-among numbers number has =
    let found = Any-from_list_any (λ other. other == number) numbers has in
    (found.0, found.2, subst (λ n. get_or numbers found.0 n ≡ n) (eqb-true _ _ found.4) found.3)

among-screens : (displays : List Display) (screen : ℕ) → among (map (λ (display : Display). display.screen) displays) screen ≡ is_screen_among displays screen
among-screens [] screen = refl
among-screens (display ∷ displays) screen = ap (λ rest. (display.screen == screen) || rest) (among-screens displays screen)

-- The numbers rise from this one on, and are below that one.
abbrev Rise : ℕ → ℕ → List ℕ → Type 0
Rise from to [] = Unit {0}
Rise from to (x ∷ xs) = (from ≤ x) × (x < to) × Rise (x + 1) to xs

rise_more : (from to : ℕ) (xs : List ℕ) → IsStrictlySortedBy nat_cmp xs → All (λ x. x < to) xs → ((d : ℕ) → zero < length xs → from ≤ get_or xs 0 d) → Rise from to xs
rise_more from to [] sorted below first = tt
rise_more from to (x ∷ xs) sorted below first = (
  first 0 (omega arith),
  All-head (λ y. y < to) x xs below,
  rise_more (x + 1) to xs (sorted_tail nat_cmp x xs sorted) (All-tail (λ y. y < to) x xs below) (λ d some. let less = below_from_sorted (x ∷ xs) 0 1 d sorted (omega arith) (omega (arith, some)) in omega (arith, less)),
)

none_below : (from to : ℕ) (xs : List ℕ) (number : ℕ) → Rise from to xs → number < from → among xs number ≡ false
none_below from to [] number rise low = refl
none_below from to (x ∷ xs) number rise low =
    let other : x ≢ number = λ same. absurd (omega (arith, same, low, rise.0)) in
    ap (λ one. one || among xs number) (ne_eqb x number other) ∙ none_below (x + 1) to xs number rise.2 (omega (arith, low, rise.0))

rise_past : (from to : ℕ) (xs : List ℕ) (more : ℕ) → Rise from to xs → ((d : ℕ) → zero < length xs → more ≤ get_or xs 0 d) → Rise more to xs
rise_past from to [] more rise first = tt
rise_past from to (x ∷ xs) more rise first = (first 0 (omega arith), rise.1, rise.2)

-- The numbers of a range that are among numbers that rise in it are those.
filter_is : (test : ℕ → Bool) (from count to : ℕ) (xs : List ℕ) → from + count ≡ to → Rise from to xs →
    ((number : ℕ) → from ≤ number → number < to → test number ≡ among xs number) → filter test (range_with_len from count) ≡ xs
filter_is test from zero to [] is rise same = refl
filter_is test from zero to (x ∷ xs) is rise same = absurd (omega (arith, is, rise.0, rise.1))
filter_is test from (suc count) to [] is rise same =
    let rest = filter test (range_with_len (from + 1) count) in
    ap (λ one. cond one (from ∷ rest) rest) (same from (omega arith) (omega (arith, is)))
    ∙ filter_is test (from + 1) count to [] (omega (arith, is)) tt (λ number low high. same number (omega (arith, low)) high)
filter_is test from (suc count) to (x ∷ xs) is rise same =
    let next : from + 1 + count ≡ to = omega (arith, is) in
    let rest = filter test (range_with_len (from + 1) count) in
    let here = same from (omega arith) (omega (arith, is)) in
    elim (x == from) as (λ first. (x == from) ≡ first → cond (test from) (from ∷ rest) rest ≡ x ∷ xs) [
      | true ↦ λ first.
          let e : x ≡ from = eqb-true x from first in
          let up : Rise (from + 1) to xs = subst (λ n. Rise (n + 1) to xs) e rise.2 in
          ap (λ one. cond one (from ∷ rest) rest) (here ∙ ap (λ one. one || among xs from) first)
          ∙ ap (λ others. from ∷ others) (filter_is test (from + 1) count to xs next up (λ number low high.
          let other : x ≢ number = λ e2. absurd (omega (arith, e, e2, low)) in
          same number (omega (arith, low)) high ∙ ap (λ one. one || among xs number) (ne_eqb x number other)))
          ∙ ap (λ n. n ∷ xs) (sym e)
      | false ↦ λ first.
          let past : from + 1 ≤ x = elim (cases_lt from x) [ inl less ↦ omega (arith, less) | inr more ↦ absurd (differ first (omega (arith, more, rise.0))) ] in
          let up : Rise (from + 1) to (x ∷ xs) = (past, rise.1, rise.2) in
          ap (λ one. cond one (from ∷ rest) rest) (here ∙ none_below (from + 1) to (x ∷ xs) from up (omega arith))
          ∙ filter_is test (from + 1) count to (x ∷ xs) next up (λ number low high. same number (omega (arith, low)) high)
    ] refl
  where
    differ : {a b : ℕ} → (a == b) ≡ false → a ≡ b → ⊥
    differ {a} {b} isnt is = cc (isnt, eq-eqb a b is)

module _ (displays : List Display) (within : All IsOnScreen displays) where
  abbrev own : List ℕ
  own = map (λ (display : Display). display.screen) displays

  screen_within : (screen : ℕ) → Contains own screen → screen < last_screen + 1
  screen_within screen has =
      let low = All-map (λ (n : ℕ). n ≤ last_screen) (λ (display : Display). display.screen) displays within has.0 screen has.1 in
      omega (arith, low, has.2)

  -- The list that rises and has the screens of displays is that of their screens.
  pub screens_are : (screens : List ℕ) → IsStrictlyIncreasing screens → ((screen : ℕ) → Contains own screen → Contains screens screen) → ((screen : ℕ) → Contains screens screen → Contains own screen) → screens ≡ screens_among displays
  unfolding screens_among
  screens_are screens rises keeps adds =
      let below : All (λ x. x < last_screen + 1) screens = λ k d low. screen_within _ (adds _ (k, low, get_or_default screens k _ d low)) in
      let rise = rise_more 0 (last_screen + 1) screens (sorted_from_strictly_increasing screens rises) below (λ d some. omega arith) in
      sym (filter_is (is_screen_among displays) 0 (last_screen + 1) (last_screen + 1) screens refl rise (λ screen low high.
      sym (among-screens displays screen) ∙ same_answers (among own screen) (among screens screen) (λ has. among-Contains screens screen (keeps screen (Contains-among own screen has))) (λ has. among-Contains own screen (adds screen (Contains-among screens screen has)))))

  -- A number is among the screens exactly where a display has it.
  pub screens_have : (screen : ℕ) → among (screens_among displays) screen ≡ is_screen_among displays screen
  unfolding screens_among
  screens_have screen =
      any-filter_same (λ other. other == screen) (is_screen_among displays) (is_screen_among displays screen) (λ other is. ap (is_screen_among displays) (eqb-true other screen is)) (range_with_len 0 (last_screen + 1))
      ∙ (elim (is_screen_among displays screen) as (λ has. is_screen_among displays screen ≡ has → (has && among (range_with_len 0 (last_screen + 1)) screen) ≡ has) [
        | true ↦ λ has.
            let low = screen_within screen (Contains-among own screen (among-screens displays screen ∙ has)) in
            among-Contains (range_with_len 0 (last_screen + 1)) screen (screen, omega (arith, low, length-range_with_len 0 (last_screen + 1)), get_or-range_with_len 0 (last_screen + 1) screen screen low ∙ omega arith)
        | false ↦ λ has. refl
      ] refl)

range_rises : (from count : ℕ) → IsStrictlyIncreasing (range_with_len from count)
range_rises from count k below =
    let low : k + 1 < count = omega (arith, below, length-range_with_len from count) in
    omega (arith, get_or-range_with_len from count k 0 (omega (arith, low)), get_or-range_with_len from count (k + 1) 0 low)

pub screens_rise : (displays : List Display) → IsStrictlyIncreasing (screens_among displays)
unfolding screens_among
screens_rise displays = IsStrictlyIncreasing-filter (is_screen_among displays) (range_with_len 0 (last_screen + 1)) (range_rises 0 (last_screen + 1))

-- what a search in numbers that rise says
pub search_is : (numbers : List ℕ) (number : ℕ) (r : Result ℕ ℕ) → MatchResult r (λ i. (i < length numbers) × (get_or numbers i 0 ≡ number)) (λ i. (i ≤ length numbers) × ((k : ℕ) → k < i → get_or numbers k 0 < number) × ((k : ℕ) → i ≤ k → k < length numbers → number < get_or numbers k 0)) → is_ok r ≡ among numbers number
search_is numbers number (Ok i) found = sym (list_any_at (λ other. other == number) numbers i 0 found.0 (eq-eqb _ _ found.1))
search_is numbers number (Err i) missed = sym (list_any_none (λ other. other == number) numbers (λ k d below. ne_eqb _ _ (λ same.
    let at : get_or numbers k 0 ≡ number = get_or_default numbers k 0 d below ∙ same in
    elim (cases_lt k i) [
      | inl low ↦ let less = missed.1 k low in absurd (omega (arith, at, less))
      | inr high ↦ let more = missed.2 k high below in absurd (omega (arith, at, more))
    ])))

-- A screen that a plant has is below 65,535.
pub screen_within_plant : (plant : PlantData) (screen : ℕ) → IsPlant plant → has_screen plant screen ≡ true → screen ≤ last_screen
screen_within_plant plant screen is has =
    let within = All-weaker (IsDisplay plant) IsOnScreen (λ display on. on.screen.1) plant.displays is.linked.displays.1 in
    let low = screen_within plant.displays within screen (Contains-among (own plant.displays within) screen (among-screens plant.displays screen ∙ has)) in
    omega (arith, low)

-- No number past those is one.
pub no_screen_past : (plant : PlantData) (screen : ℕ) → IsPlant plant → last_screen < screen → screen_of plant screen ≡ None
no_screen_past plant screen is past =
    ap (λ one. cond one (Some screen) None)
    (elim (has_screen plant screen) as (λ has. has_screen plant screen ≡ has → has ≡ false) [
      | true ↦ λ has. let low = screen_within_plant plant screen is has in absurd (omega (arith, low, past))
      | false ↦ λ has. refl
    ] refl)

-- what a look-up of a number says
pub screen_of-Some : (plant : PlantData) (number screen : ℕ) → Some screen ≡ screen_of plant number → (screen ≡ number) × (has_screen plant number ≡ true)
screen_of-Some plant number screen is =
    elim (has_screen plant number) as (λ has. has_screen plant number ≡ has → Some screen ≡ cond has (Some number) None → (screen ≡ number) × (has_screen plant number ≡ true)) [
      | true ↦ λ has same. let e : screen ≡ number = cc in (e, has)
      | false ↦ λ has same. cc
    ] refl is

pub screen_of-None : (plant : PlantData) (number : ℕ) → None ≡ screen_of plant number → has_screen plant number ≡ false
screen_of-None plant number is =
    elim (has_screen plant number) as (λ has. None ≡ cond has (Some number) None → has ≡ false) [
      | true ↦ λ same. cc
      | false ↦ λ same. refl
    ] is

pub screens_are_of_displays : (plant : PlantData) → IsPlant plant → ScreensAreOfDisplays plant
screens_are_of_displays plant is =
    let within = All-weaker (IsDisplay plant) IsOnScreen (λ display on. on.screen.1) plant.displays is.linked.displays.1 in
    record {
      ascend = screens_rise plant.displays;
      each = λ screen. (
        λ has. sym (screens_have plant.displays within screen) ∙ among-Contains (screens_among plant.displays) screen has,
        λ on. Contains-among (screens_among plant.displays) screen (screens_have plant.displays within screen ∙ on),
      );
    }
