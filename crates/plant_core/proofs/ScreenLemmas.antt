-- The displays of a screen: each is of the plant and on the screen, and is there once. There are some where the plant has the
-- screen.
use Rattle.std.proofs.Common.{◌≡◌, ℕ, ◌+◌, ◌<◌, nat_eq, true, false, cond, not, List, [], ◌∷◌, length, map, get_or, All, suc, refl, sym, ap, subst, ◌∙◌, arith}
use Rattle.std.specs.Prelude.{◌==◌, ◌||◌}
use Rattle.std.specs.List.{AllByRecursion, IsDistinct, list_any}
use Rattle.std.specs.Ordering.{nat_cmp}
use Rattle.std.specs.Cmp.{nat_cmp_total}
use Rattle.std.specs.declared.cmp.Ordering.TheVariants.{Less, Equal, Greater}
use Rattle.std.specs.FinMap as finite
use Rattle.std.specs.FinMap.Entries.{put, by_order}
use Rattle.std.proofs.lemmas.Bool.{eqb-true, ne_eqb, eq-eqb, both_ways}
use Rattle.std.proofs.lemmas.List.{nil_from_length}
use Rattle.std.proofs.lemmas.List.Elements.{All-from_recursion, All-weaker}
use Rattle.std.proofs.lemmas.Map.Keys.{IsDistinct-head, IsDistinct-tail, IsDistinct-cons}
use Rattle.plant_config.specs.declared.records.Display.{Display}
use Rattle.plant_config.specs.Plant.{PlantData}
use Rattle.change_boards.specs.Screens.{by_index, displays_of}
use Rattle.plant_config.specs.Screens.{has_screen}

-- the displays of entries
abbrev numbers : List (ℕ × ℕ) → List ℕ
numbers entries = map (λ (entry : ℕ × ℕ). entry.1) entries

-- what holds of each, and of a new one, holds of each with the new one in its place
Each-put : (P : ℕ → Type 0) (key number : ℕ) (entries : List (ℕ × ℕ)) → AllByRecursion P (numbers entries) → P number → AllByRecursion P (numbers (put nat_cmp key number entries))
Each-put P key number [] each new = (new, tt)
Each-put P key number (entry ∷ entries) each new =
    elim (nat_cmp key entry.0) as (λ o. AllByRecursion P (numbers (by_order o ((key, number) ∷ entry ∷ entries) ((entry.0, number) ∷ entries) (entry ∷ put nat_cmp key number entries)))) [
      | Less ↦ (new, each)
      | Equal ↦ (new, each.1)
      | Greater ↦ (each.0, Each-put P key number entries each.1 new)
    ]

apart_back : (a b : ℕ) → (a == b) ≡ false → (b == a) ≡ false
apart_back a b apart = ne_eqb b a (λ same. both_ways (a == b) apart (eq-eqb a b (sym same)))

IsDistinct-nil : IsDistinct nat_eq []
unfolding IsDistinct
IsDistinct-nil = tt

-- a new one that isn't among the others keeps them apart
Once-put : (key number : ℕ) (entries : List (ℕ × ℕ)) → IsDistinct nat_eq (numbers entries) → AllByRecursion (λ other. (number == other) ≡ false) (numbers entries) → IsDistinct nat_eq (numbers (put nat_cmp key number entries))
Once-put key number [] once new = IsDistinct-cons nat_eq number [] tt IsDistinct-nil
Once-put key number (entry ∷ entries) once new =
    let head = IsDistinct-head nat_eq entry.1 (numbers entries) once in
    let tail = IsDistinct-tail nat_eq entry.1 (numbers entries) once in
    elim (nat_cmp key entry.0) as (λ o. IsDistinct nat_eq (numbers (by_order o ((key, number) ∷ entry ∷ entries) ((entry.0, number) ∷ entries) (entry ∷ put nat_cmp key number entries)))) [
      | Less ↦ IsDistinct-cons nat_eq number (numbers (entry ∷ entries)) new once
      | Equal ↦ IsDistinct-cons nat_eq number (numbers entries) new.1 tail
      | Greater ↦
          IsDistinct-cons nat_eq entry.1 (numbers (put nat_cmp key number entries))
          (Each-put (λ other. (entry.1 == other) ≡ false) key number entries head (apart_back number entry.1 new.0)) (Once-put key number entries tail new.1)
    ]

Some-put : (key number : ℕ) (entries : List (ℕ × ℕ)) → 0 < length (numbers (put nat_cmp key number entries))
Some-put key number [] = omega arith
Some-put key number (entry ∷ entries) =
    elim (nat_cmp key entry.0) as (λ o. 0 < length (numbers (by_order o ((key, number) ∷ entry ∷ entries) ((entry.0, number) ∷ entries) (entry ∷ put nat_cmp key number entries)))) [
      | Less ↦ omega arith
      | Equal ↦ omega arith
      | Greater ↦ omega arith
    ]

-- the entries of a screen, as a list
abbrev entries_of : ℕ → ℕ → List Display → List (ℕ × ℕ)
entries_of screen number [] = []
entries_of screen number (display ∷ displays) =
    cond (display.screen == screen) (put nat_cmp display.index number (entries_of screen (number + 1) displays)) (entries_of screen (number + 1) displays)

entries-by_index : (screen number : ℕ) (displays : List Display) → finite.entries (by_index screen number displays) ≡ entries_of screen number displays
entries-by_index screen number [] =
    nil_from_length (finite.entries (finite.empty {X = ℕ} {R = nat_cmp})) (sym (finite.len-entries (finite.empty {X = ℕ} {R = nat_cmp})) ∙ finite.len-empty nat_cmp ℕ)
entries-by_index screen number (display ∷ displays) =
    let rest = by_index screen (number + 1) displays in
    let others = entries_of screen (number + 1) displays in
    let same = entries-by_index screen (number + 1) displays in
    elim (display.screen == screen) as (λ b. finite.entries (cond b (finite.insert rest display.index number) rest) ≡ cond b (put nat_cmp display.index number others) others) [
      | true ↦ finite.entries-insert nat_cmp_total rest display.index number ∙ ap (put nat_cmp display.index number) same
      | false ↦ same
    ]

numbers-are : (plant : PlantData) (screen : ℕ) → displays_of plant screen ≡ numbers (entries_of screen 0 plant.displays)
numbers-are plant screen = ap numbers (entries-by_index screen 0 plant.displays)

-- a display is one of these, of which the first has this number, and is on the screen
pub record IsOn (screen number : ℕ) (displays : List Display) (display : ℕ) : Type 0 where
  pub place : ℕ
  pub is : display ≡ number + place
  pub within : place < length displays
  pub on : (d : Display) → (get_or displays place d).screen ≡ screen

IsOn-behind : (screen number : ℕ) (first : Display) (displays : List Display) (display : ℕ) → IsOn screen (number + 1) displays display → IsOn screen number (first ∷ displays) display
IsOn-behind screen number first displays display on = record {
  place = suc on.place;
  is = omega (arith, on.is);
  within = omega (arith, on.within);
  on = on.on;
}

Each-behind : (screen number : ℕ) (first : Display) (displays : List Display) (list : List ℕ) → AllByRecursion (IsOn screen (number + 1) displays) list → AllByRecursion (IsOn screen number (first ∷ displays)) list
Each-behind screen number first displays [] each = tt
Each-behind screen number first displays (display ∷ list) each =
    (IsOn-behind screen number first displays display each.0, Each-behind screen number first displays list each.1)

Apart-behind : (screen number : ℕ) (displays : List Display) (list : List ℕ) → AllByRecursion (IsOn screen (number + 1) displays) list → AllByRecursion (λ other. (number == other) ≡ false) list
Apart-behind screen number displays [] each = tt
Apart-behind screen number displays (display ∷ list) each =
    (ne_eqb number display (λ same. absurd (omega (arith, same, each.0.is))), Apart-behind screen number displays list each.1)

each-on : (screen number : ℕ) (displays : List Display) → AllByRecursion (IsOn screen number displays) (numbers (entries_of screen number displays))
each-on screen number [] = tt
each-on screen number (display ∷ displays) =
    let others = entries_of screen (number + 1) displays in
    let each = Each-behind screen number display displays (numbers others) (each-on screen (number + 1) displays) in
    elim (display.screen == screen) as (λ b. (display.screen == screen) ≡ b → AllByRecursion (IsOn screen number (display ∷ displays)) (numbers (cond b (put nat_cmp display.index number others) others))) [
      | true ↦ λ here.
          let new : IsOn screen number (display ∷ displays) number =
          record {
            place = 0;
            is = omega arith;
            within = omega arith;
            on = λ d. eqb-true display.screen screen here;
          } in
          Each-put (IsOn screen number (display ∷ displays)) display.index number others each new
      | false ↦ λ other. each
    ] refl

each-once : (screen number : ℕ) (displays : List Display) → IsDistinct nat_eq (numbers (entries_of screen number displays))
each-once screen number [] = IsDistinct-nil
each-once screen number (display ∷ displays) =
    let others = entries_of screen (number + 1) displays in
    let once = each-once screen (number + 1) displays in
    elim (display.screen == screen) as (λ b. IsDistinct nat_eq (numbers (cond b (put nat_cmp display.index number others) others))) [
      | true ↦ Once-put display.index number others once (Apart-behind screen number displays (numbers others) (each-on screen (number + 1) displays))
      | false ↦ once
    ]

some-on : (screen number : ℕ) (displays : List Display) → not (length (numbers (entries_of screen number displays)) == 0) ≡ list_any (λ (display : Display). display.screen == screen) displays
some-on screen number [] = ap not (eq-eqb 0 0 refl)
some-on screen number (display ∷ displays) =
    let others = entries_of screen (number + 1) displays in
    elim (display.screen == screen) as (λ b. not (length (numbers (cond b (put nat_cmp display.index number others) others)) == 0) ≡ (b || list_any (λ (display : Display). display.screen == screen) displays)) [
      | true ↦ ap not (ne_eqb _ 0 (λ none. absurd (omega (arith, none, Some-put display.index number others))))
      | false ↦ some-on screen (number + 1) displays
    ]

-- all displays of a screen are on it
pub displays-on : (plant : PlantData) (screen : ℕ) → All (IsOn screen 0 plant.displays) (displays_of plant screen)
displays-on plant screen =
    subst (All (IsOn screen 0 plant.displays)) (sym (numbers-are plant screen))
    (All-from_recursion (IsOn screen 0 plant.displays) _ (each-on screen 0 plant.displays))

-- they are of the plant
pub displays-below : (plant : PlantData) (screen : ℕ) → All (λ display. display < length plant.displays) (displays_of plant screen)
displays-below plant screen =
    All-weaker (IsOn screen 0 plant.displays) (λ display. display < length plant.displays) (λ display on. omega (arith, on.is, on.within)) (displays_of plant screen) (displays-on plant screen)

-- each is there once
pub displays-once : (plant : PlantData) (screen : ℕ) → IsDistinct nat_eq (displays_of plant screen)
displays-once plant screen = subst (IsDistinct nat_eq) (sym (numbers-are plant screen)) (each-once screen 0 plant.displays)

-- and there are some where the plant has the screen
pub displays-some : (plant : PlantData) (screen : ℕ) → not (length (displays_of plant screen) == 0) ≡ has_screen plant screen
displays-some plant screen = ap (λ list. not (length list == 0)) (numbers-are plant screen) ∙ some-on screen 0 plant.displays
