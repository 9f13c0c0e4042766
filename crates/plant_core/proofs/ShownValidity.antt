-- What displays were last shown stays such as they can have.
use Rattle.std.proofs.Common.{◌≡◌, ℕ, Bool, true, false, List, [], ◌∷◌, length, set, Option, Some, None, IfSome, inl, inr, refl, sym, ap, subst, ◌∙◌}
use Rattle.std.specs.Prelude.{slice_get}
use Rattle.std.specs.Option.{option_map_or}
use Rattle.std.proofs.lemmas.Bool.{cases_eq, cases_lt}
use Rattle.std.proofs.lemmas.List.{get_or-set_same, get_or-set_other, set_past, length-set}
use Rattle.plant_config.specs.declared.records.Display.{Display}
use Rattle.plant_config.specs.Plant.{PlantData}
use Rattle.crosspoint_state.specs.Crosspoints.{Crosspoints, source_of}
use Rattle.change_boards.specs.declared.value.Value.{Value}
use Rattle.change_boards.specs.Screens.{displays_of}
use Rattle.change_boards.specs.Shown.{Shown, last, with_shown, with_forgotten}
use Rattle.plant_core.specs.State.{State, IsCrosspoint, AreCrosspoints, CanHave, AreShown, IsValid}
use Rattle.plant_core.specs.Displays.{dark, value_with, display_value, value_in, refreshed, shown_all}
use Rattle.plant_core.proofs.Validity.{source_of-spot}
use Rattle.plant_core.proofs.Shows.{shown_with, first_of, shown_behind}

-- a display, if there is one of this number, can be shown a value
abbrev Can : PlantData → ℕ → Value → Type 0
Can plant number value = (display : Display) → slice_get plant.displays number ≡ Some display → CanHave plant display.watch value

-- one display is shown a value that it can have, or none
each-set : (plant : PlantData) (shown : Shown) (number : ℕ) (new : Option Value) → ((n : ℕ) (v : Value) → last shown n ≡ Some v → Can plant n v) → IfSome new (Can plant number) →
    (n : ℕ) (v : Value) → last (set shown number new) n ≡ Some v → Can plant n v
each-set plant shown number new all can n v h = elim (cases_eq n number) [
  | inl here ↦ elim (cases_lt number (length shown)) [
    | inl within ↦
        let now : new ≡ Some v = sym (get_or-set_same shown number new None within) ∙ ap (last (set shown number new)) (sym here) ∙ h in
        subst (λ n. Can plant n v) (sym here) (subst (λ o. IfSome o (Can plant number)) now can)
    | inr past ↦ all n v (ap (λ (s : Shown). last s n) (sym (set_past shown number new past)) ∙ h)
  ]
  | inr other ↦ all n v (sym (get_or-set_other shown number n new None other) ∙ h)
]

AreShown-set : (plant : PlantData) (shown : Shown) (number : ℕ) (new : Option Value) → AreShown plant shown → IfSome new (Can plant number) → AreShown plant (set shown number new)
AreShown-set plant shown number new are can = record {
  count = length-set shown number new ∙ are.count;
  each = λ n display value found h. each-set plant shown number new (λ n v h display found. are.each n display v found h) can n value h display found;
}

pub AreShown-forgotten : (list : List ℕ) (plant : PlantData) (shown : Shown) → AreShown plant shown → AreShown plant (with_forgotten shown list)
AreShown-forgotten [] plant shown are = are
AreShown-forgotten (first ∷ list) plant shown are = AreShown-forgotten list plant (set shown first None) (AreShown-set plant shown first None are tt)

-- the value of a destination is one that it can have
at-can : (plant : PlantData) (crosspoints : Crosspoints) (dest : ℕ) → AreCrosspoints plant crosspoints → CanHave plant dest (display_value plant crosspoints dest)
at-can plant crosspoints dest are =
    elim (source_of crosspoints dest) as (λ o. source_of crosspoints dest ≡ o → CanHave plant dest (option_map_or (value_with plant crosspoints) o dark)) [
      | None ↦ λ h. record { source = tt; parked = λ none. (refl, refl) }
      | Some source ↦ λ h.
          let spot = source_of-spot crosspoints dest source h in
          record {
            source = subst (IsCrosspoint plant dest) spot.2 (are dest spot.0 spot.1);
            parked = λ none. absurd cc;
          }
    ] refl

value-can : (plant : PlantData) (crosspoints : Crosspoints) (number : ℕ) → AreCrosspoints plant crosspoints → Can plant number (value_in plant crosspoints number)
value-can plant crosspoints number are display found =
    subst (λ o. CanHave plant display.watch (option_map_or (λ (d : Display). display_value plant crosspoints d.watch) o dark)) (sym found) (at-can plant crosspoints display.watch are)

pub AreShown-shown_all : (list : List ℕ) (plant : PlantData) (crosspoints : Crosspoints) (shown : Shown) → AreCrosspoints plant crosspoints → AreShown plant shown →
    AreShown plant (shown_all (value_in plant crosspoints) list shown)
AreShown-shown_all [] plant crosspoints shown carry are = are
AreShown-shown_all (first ∷ list) plant crosspoints shown carry are =
    let value : Value = value_in plant crosspoints first in
    AreShown-shown_all list plant crosspoints (with_shown shown first value) carry (AreShown-set plant shown first (Some value) are (value-can plant crosspoints first carry))

-- what was shown behind a display poll
shown_with-are : (state : State) (list : List ℕ) → AreCrosspoints state.plant state.crosspoints → AreShown state.plant state.shown → AreShown state.plant (shown_with state list)
shown_with-are state [] carry are = are
shown_with-are state (first ∷ list) carry are =
    AreShown-shown_all (first ∷ list) state.plant state.crosspoints state.shown carry are

pub shown_behind-are : (state : State) (screen : ℕ) (refresh : Bool) → IsValid state → AreShown state.plant (shown_behind state screen refresh)
shown_behind-are state screen true valid =
    shown_with-are (refreshed state screen true) (first_of state screen true) valid.is_crosspoint (AreShown-forgotten (displays_of state.plant screen) state.plant state.shown valid.shown)
shown_behind-are state screen false valid = shown_with-are state (first_of state screen false) valid.is_crosspoint valid.shown
