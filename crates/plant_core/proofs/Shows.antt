-- What a display poll changes: what displays were last shown, and nothing else.
use Rattle.std.proofs.Common.{◌≡◌, ℕ, ◌≤◌, Bool, true, false, cond, List, [], ◌∷◌, length, take, All, refl, arith}
use Rattle.std.proofs.lemmas.List.{length-map, length-take}
use Rattle.std.proofs.lemmas.List.Elements.{All-nil, All-push, All-map}
use Rattle.change_boards.specs.Shown as shown
use Rattle.plant_core.specs.declared.answer.Answer.TheVariants.{Lamp, Finished}
use Rattle.plant_core.specs.State.{State}
use Rattle.plant_core.specs.Displays.{lamp_limit, value_of, differing, refreshed, shown_all, is_finished, told_displays, display_polled}
use Rattle.plant_core.specs.Answer.{IsSayable}

-- what was shown once these were told_displays
abbrev pub shown_with : State → List ℕ → shown.Shown
shown_with state [] = state.shown
shown_with state (display ∷ displays) = shown_all (value_of state) (display ∷ displays) state.shown

taken-is : (state : State) (displays : List ℕ) → (told_displays state displays).state ≡ record state { shown = shown_with state displays }
taken-is state [] = refl
taken-is state (display ∷ displays) = refl

-- the displays that a poll takes
abbrev pub first_of : State → ℕ → Bool → List ℕ
first_of state screen refresh = take lamp_limit (differing (refreshed state screen refresh) screen)

-- what was shown behind a display poll
abbrev pub shown_behind : State → ℕ → Bool → shown.Shown
shown_behind state screen refresh = shown_with (refreshed state screen refresh) (first_of state screen refresh)

pub display_polled-is : (state : State) (screen : ℕ) (refresh : Bool) → (display_polled state screen refresh).state ≡ record state { shown = shown_behind state screen refresh }
display_polled-is state screen true = taken-is (refreshed state screen true) (first_of state screen true)
display_polled-is state screen false = taken-is (refreshed state screen false) (first_of state screen false)

-- no more displays are told_displays than there may be lamps
taken-few : (state : State) (displays : List ℕ) → length displays ≤ lamp_limit → length (told_displays state displays).answers ≤ lamp_limit
taken-few state [] few =
    elim (is_finished state) as (λ b. length (cond b (Finished ∷ []) []) ≤ lamp_limit) [ true ↦ omega arith | false ↦ omega arith ]
taken-few state (display ∷ displays) few = omega (arith, few, length-map (display ∷ displays) (λ (display : ℕ). Lamp display (value_of state display)))

pub display_polled-few : (state : State) (screen : ℕ) (refresh : Bool) → length (display_polled state screen refresh).answers ≤ lamp_limit
display_polled-few state screen refresh =
    taken-few (refreshed state screen refresh) (first_of state screen refresh)
    (omega (arith, length-take lamp_limit (differing (refreshed state screen refresh) screen)))

-- and what is told of displays can be spelled
taken-sayable : (state : State) (displays : List ℕ) → All IsSayable (told_displays state displays).answers
taken-sayable state [] =
    elim (is_finished state) as (λ b. All IsSayable (cond b (Finished ∷ []) [])) [
      | true ↦ All-push IsSayable [] Finished (All-nil IsSayable) tt
      | false ↦ All-nil IsSayable
    ]
taken-sayable state (display ∷ displays) =
    All-map IsSayable (λ (display : ℕ). Lamp display (value_of state display)) (display ∷ displays) (λ k other below. tt)

pub display_polled-sayable : (state : State) (screen : ℕ) (refresh : Bool) → All IsSayable (display_polled state screen refresh).answers
display_polled-sayable state screen refresh = taken-sayable (refreshed state screen refresh) (first_of state screen refresh)
