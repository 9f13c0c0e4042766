-- Where the displays of a plant stand.
use Rattle.std.proofs.Common.{◌≡◌, ◌≢◌, ℕ, ◌+◌, ◌<◌, ◌≤◌, ◌==◌, nat_eq, true, false, List, [], ◌∷◌, length, get_or, set, slice_get, zero, suc, Option, Some, None, inl, inr, refl, sym, ap, ◌∙◌, arith, eq-eqb, eqb-true, get_or-set_same, get_or-set_other, length-set}
use Rattle.std.specs.List.{IsDistinct, AllByRecursion}
use Rattle.std.specs.Option.{option_map_or}
use Rattle.std.proofs.lemmas.Bool.{cases_eq, both_ways, or_cases}
use Rattle.std.proofs.lemmas.Option.{slice_get_within}
use Rattle.std.proofs.lemmas.Map.Keys.{IsDistinct-head, IsDistinct-tail, any_passes_from_place}
use Rattle.plant_config.specs.declared.records.Display.{Display}
use Rattle.plant_config.specs.Plant.{PlantData}
use Rattle.plant_config.specs.IsPlant.{IsPlant}
use Rattle.change_boards.specs.Screens.{displays_of}
use Rattle.change_boards.specs.ShownLaws.{is_in_list}
use Rattle.change_boards.proofs.ScreenDisplays.{displays_of-HasItsDisplays}
use Rattle.due_displays.specs.Due.{screen_at}
use Rattle.due_displays.specs.TablesInside.{ArePut, ArePositionsOf}

-- where a number stands in a list
pub record StandsIn (list : List ℕ) (number : ℕ) : Type 0 where
  pub position : ℕ
  pub there : slice_get list position ≡ Some number

pub stands_in : (list : List ℕ) (number : ℕ) → is_in_list list number ≡ true → StandsIn list number
stands_in [] number among = cc
stands_in (first ∷ list) number among =
    elim (or_cases (nat_eq number first) (is_in_list list number) among) [
      | inl here ↦ record { position = 0; there = ap Some (sym (eqb-true number first here)) }
      | inr behind ↦
          let more = stands_in list number behind in
          record { position = suc more.position; there = more.there }
    ]

pub in_list : (list : List ℕ) (position number : ℕ) → slice_get list position ≡ Some number → is_in_list list number ≡ true
in_list list position number there = any_passes_from_place (nat_eq number) list position number there (eq-eqb number number refl)

-- a number that a list is without stands at no position
apart_from : (list : List ℕ) (first position number : ℕ) → AllByRecursion (λ other. (first == other) ≡ false) list → slice_get list position ≡ Some number → first ≢ number
apart_from [] first position number apart there = cc
apart_from (other ∷ list) first zero number apart there =
    let same : other ≡ number = cc in
    λ one. both_ways (first == other) apart.0 (eq-eqb first other (one ∙ sym same))
apart_from (other ∷ list) first (suc position) number apart there = apart_from list first position number apart.1 there

-- in a list without repeats a number stands once
pub stands_once : (list : List ℕ) → IsDistinct nat_eq list → (number first second : ℕ) → slice_get list first ≡ Some number → slice_get list second ≡ Some number → first ≡ second
stands_once [] once number first second here there = cc
stands_once (head ∷ list) once number zero zero here there = refl
stands_once (head ∷ list) once number zero (suc second) here there =
    let same : head ≡ number = cc in
    absurd (apart_from list head second number (IsDistinct-head nat_eq head list once) there same)
stands_once (head ∷ list) once number (suc first) zero here there =
    let same : head ≡ number = cc in
    absurd (apart_from list head first number (IsDistinct-head nat_eq head list once) here same)
stands_once (head ∷ list) once number (suc first) (suc second) here there = ap suc (stands_once list (IsDistinct-tail nat_eq head list once) number first second here there)

-- a display of a screen is of the plant, and on the screen
pub record IsOfScreen (plant : PlantData) (screen display : ℕ) : Type 0 where
  pub on : screen_at plant display ≡ screen
  pub below : display < length plant.displays

pub of_screen : (plant : PlantData) (screen position display : ℕ) → IsPlant plant → slice_get (displays_of plant screen) position ≡ Some display → IsOfScreen plant screen display
of_screen plant screen position display is there =
    by (slice_get plant.displays display) refl
    (sym ((displays_of-HasItsDisplays plant screen is).each display) ∙ in_list (displays_of plant screen) position display there)
  where
    by : (found : Option Display) → slice_get plant.displays display ≡ found → option_map_or (λ (display : Display). display.screen == screen) found false ≡ true → IsOfScreen plant screen display
    by None at on = cc
    by (Some found) at on = record {
      on = ap (λ found. option_map_or (λ (found : Display). found.screen) found 0) at ∙ eqb-true found.screen screen on;
      below = slice_get_within plant.displays display found at;
    }

all : (list : List Display) (n : ℕ) → n < length list → slice_get list n ≡ None → ⊥
all [] n within at = omega (arith, within)
all (x ∷ list) zero within at = cc
all (x ∷ list) (suc n) within at = all list n (omega (arith, within)) at

-- a display of the plant stands on its screen
pub on_screen : (plant : PlantData) (display : ℕ) → IsPlant plant → display < length plant.displays → StandsIn (displays_of plant (screen_at plant display)) display
on_screen plant display is below =
    stands_in (displays_of plant (screen_at plant display)) display
    ((displays_of-HasItsDisplays plant (screen_at plant display) is).each display ∙ by (slice_get plant.displays display) refl)
  where
    by : (found : Option Display) → slice_get plant.displays display ≡ found →
        option_map_or (λ (found : Display). found.screen == screen_at plant display) found false ≡ true
    by None at = absurd (all plant.displays display below at)
    by (Some found) at = eq-eqb found.screen (screen_at plant display) (sym (ap (λ found. option_map_or (λ (found : Display). found.screen) found 0) at))

-- ---- the positions that are put one after another

pub record PutBelow (displays : List ℕ) (count : ℕ) (old new : List ℕ) : Type 0 where
  pub length_kept : length new ≡ length old
  pub each : (position display : ℕ) → position < count → ((first second : ℕ) → slice_get displays first ≡ Some display → slice_get displays second ≡ Some display → first ≡ second) →
      slice_get displays position ≡ Some display → get_or new display 0 ≡ position
  pub others : (display : ℕ) → ((position : ℕ) → slice_get displays position ≢ Some display) → get_or new display 0 ≡ get_or old display 0

pub put_none : (displays old : List ℕ) → PutBelow displays 0 old old
put_none displays old = record {
  length_kept = refl;
  each = λ position display below once there. absurd (omega (arith, below));
  others = λ display apart. refl;
}

pub put_more : (displays : List ℕ) (count display : ℕ) (old new : List ℕ) → slice_get displays count ≡ Some display → display < length new → PutBelow displays count old new → PutBelow displays (count + 1) old (set new display count)
put_more displays count display old new here within was = record {
  length_kept = length-set new display count ∙ was.length_kept;
  each = λ position other below once there. elim (cases_eq other display) [
    | inl same ↦
        let one : position ≡ count = once position count there (here ∙ ap Some (sym same)) in
        ap (λ n. get_or (set new display count) n 0) same ∙ get_or-set_same new display count 0 within ∙ sym one
    | inr apart ↦ elim (cases_eq position count) [
      | inl now ↦
          let both : Some other ≡ Some display = sym there ∙ ap (slice_get displays) now ∙ here in
          absurd (apart cc)
      | inr before ↦ get_or-set_other new display other count 0 apart ∙ was.each position other (omega (arith, below, before)) once there
    ]
  ];
  others = λ other apart.
      get_or-set_other new display other count 0 (λ same. apart count (here ∙ ap Some (sym same))) ∙ was.others other apart;
}

pub put_all : (displays : List ℕ) (old new : List ℕ) (count : ℕ) → length displays ≤ count → PutBelow displays count old new → ArePut displays old new
put_all displays old new count all was = record {
  count = was.length_kept;
  each = λ position display once there. was.each position display (omega (arith, all, slice_get_within displays position display there)) once there;
  others = was.others;
}

-- screen after screen
pub positions_none : (plant : PlantData) (positions : List ℕ) → length positions ≡ length plant.displays → ArePositionsOf plant 0 positions
positions_none plant positions count = record {
  many = count;
  each = λ screen position display below there. absurd (omega (arith, below));
}

pub positions_more : (plant : PlantData) (screen : ℕ) (old new : List ℕ) → IsPlant plant → ArePut (displays_of plant screen) old new → ArePositionsOf plant screen old → ArePositionsOf plant (screen + 1) new
positions_more plant screen old new is put was = record {
  many = put.count ∙ was.many;
  each = λ s position display below there. elim (cases_eq s screen) [
    | inl same ↦
        put.each position display (stands_once (displays_of plant screen) (displays_of-HasItsDisplays plant screen is).once display)
        (ap (λ n. slice_get (displays_of plant n) position) (sym same) ∙ there)
    | inr apart ↦
        put.others display (λ at here. apart (sym (of_screen plant s position display is there).on ∙ (of_screen plant screen at display is here).on))
        ∙ was.each s position display (omega (arith, below, apart)) there
  ];
}
