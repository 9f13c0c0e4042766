-- A refresh makes all displays of its screen differ, and a poll leaves what displays of other screens were shown.
use Rattle.std.proofs.Common.{◌≡◌, ◌≢◌, ℕ, Bool, true, false, cond, not, List, [], ◌∷◌, length, filter, take, drop, All, Some, None, inl, inr, refl, sym, ap, subst, ◌∙◌}
use Rattle.std.specs.Prelude.{◌==◌}
use Rattle.std.specs.List.{Contains}
use Rattle.std.specs.Option.{option_eq}
use Rattle.std.proofs.lemmas.Bool.{cases_eq, cases_lt, both_ways, eq-eqb}
use Rattle.std.proofs.lemmas.List.{get_or-set_same, get_or-set_other, get_or_past, set_past}
use Rattle.std.proofs.lemmas.List.Elements.{All-nil, All-cons, All-head, All-tail, All-take, All-filter, All-weaker, All-contains_itself}
use Rattle.change_boards.specs.declared.value.Value.{Value}
use Rattle.change_boards.specs.Screens.{displays_of}
use Rattle.plant_config.specs.Screens.{has_screen}
use Rattle.change_boards.specs.Shown.{Shown, is_same, last, with_shown, with_forgotten}
use Rattle.plant_core.specs.declared.request.Request.TheVariants.{DisplayPoll}
use Rattle.plant_core.specs.State.{State, IsValid}
use Rattle.plant_core.specs.Displays as displays
use Rattle.plant_core.specs.Displays.{lamp_limit, value_of, differing, refreshed, told_displays, taken_first, shown_all}
use Rattle.plant_core.specs.Step.{step}
use Rattle.plant_core.specs.DisplayLaws.{lamps_for}
use Rattle.plant_core.proofs.Validity.{IsValid-shown}
use Rattle.plant_core.proofs.ShownValidity.{AreShown-forgotten}
use Rattle.plant_core.proofs.ScreenLemmas.{displays-some}
use Rattle.plant_core.proofs.LampLemmas.{taken-state, taken-rest}

-- a refresh makes all displays of its screen differ
none-here : (shown : Shown) (display : ℕ) → last (with_forgotten shown (display ∷ [])) display ≡ None
none-here shown display = elim (cases_lt display (length shown)) [
  | inl below ↦ get_or-set_same shown display None None below
  | inr past ↦ ap (λ (s : Shown). last s display) (set_past shown display None past) ∙ get_or_past shown display None past
]

stays-none : (list : List ℕ) (shown : Shown) (display : ℕ) → last shown display ≡ None → last (with_forgotten shown list) display ≡ None
stays-none [] shown display none = none
stays-none (first ∷ list) shown display none =
    stays-none list (with_forgotten shown (first ∷ [])) display
    (elim (cases_eq display first) [
      | inl here ↦ subst (λ (other : ℕ). last (with_forgotten shown (other ∷ [])) display ≡ None) here (none-here shown display)
      | inr other ↦ get_or-set_other shown first display None None other ∙ none
    ])

all-none : (list : List ℕ) (shown : Shown) → All (λ display. last (with_forgotten shown list) display ≡ None) list
all-none [] shown = All-nil _
all-none (first ∷ list) shown =
    let one : Shown = with_forgotten shown (first ∷ []) in
    All-cons (λ display. last (with_forgotten one list) display ≡ None) first list (stays-none list one first (none-here shown first)) (all-none list one)

all-pass : (test : ℕ → Bool) (list : List ℕ) → All (λ x. test x ≡ true) list → filter test list ≡ list
all-pass test [] all = refl
all-pass test (first ∷ list) all =
    ap (λ b. cond b (first ∷ filter test list) (filter test list)) (All-head (λ x. test x ≡ true) first list all)
    ∙ ap (λ rest. first ∷ rest) (all-pass test list (All-tail (λ x. test x ≡ true) first list all))

refreshed-differ : (state : State) (screen : ℕ) → differing (refreshed state screen true) screen ≡ displays_of state.plant screen
refreshed-differ state screen =
    let all : List ℕ = displays_of state.plant screen in
    let fresh : State = refreshed state screen true in
    all-pass (displays.differs fresh) all
    (All-weaker (λ display. last fresh.shown display ≡ None) (λ display. displays.differs fresh display ≡ true) (λ display none. ap (λ o. not (option_eq is_same o (Some (value_of fresh display)))) none) all (all-none all state.shown))

-- so that a poll with a refresh tells the first of them
all-told_first : (state : State) (list : List ℕ) → not (length list == 0) ≡ true → (told_displays state (take lamp_limit list)).answers ≡ lamps_for state (take lamp_limit list)
all-told_first state [] some = absurd (both_ways _ (ap not (eq-eqb 0 0 refl)) some)
all-told_first state (display ∷ list) some = refl

pub refresh-told : (state : State) (screen : ℕ) → has_screen state.plant screen ≡ true → (step state (DisplayPoll screen true)).answers ≡ lamps_for state (take lamp_limit (displays_of state.plant screen))
refresh-told state screen has =
    ap (λ list. (told_displays (refreshed state screen true) (take lamp_limit list)).answers) (refreshed-differ state screen)
    ∙ all-told_first (refreshed state screen true) (displays_of state.plant screen) (displays-some state.plant screen ∙ has)

pub IsValid-refreshed : (state : State) (screen : ℕ) (refresh : Bool) → IsValid state → IsValid (refreshed state screen refresh)
IsValid-refreshed state screen true valid =
    let all : List ℕ = displays_of state.plant screen in
    IsValid-shown state (with_forgotten state.shown all) valid (AreShown-forgotten all state.plant state.shown valid.shown)
IsValid-refreshed state screen false valid = valid

pub refresh-left : (state : State) (screen : ℕ) → IsValid state → differing (step state (DisplayPoll screen true)).state screen ≡ drop lamp_limit (displays_of state.plant screen)
refresh-left state screen valid =
    taken-rest (refreshed state screen true) screen (IsValid-refreshed state screen true valid) ∙ ap (drop lamp_limit) (refreshed-differ state screen)

-- what displays that aren't of the screen were shown stays
forgotten-other : (list : List ℕ) (shown : Shown) (display : ℕ) → All (λ other. display ≢ other) list → last (with_forgotten shown list) display ≡ last shown display
forgotten-other [] shown display apart = refl
forgotten-other (first ∷ list) shown display apart =
    forgotten-other list (with_forgotten shown (first ∷ [])) display (All-tail (λ other. display ≢ other) first list apart)
    ∙ get_or-set_other shown first display None None (All-head (λ other. display ≢ other) first list apart)

shown-other : (list : List ℕ) (values : ℕ → Value) (shown : Shown) (display : ℕ) → All (λ other. display ≢ other) list → last (shown_all values list shown) display ≡ last shown display
shown-other [] values shown display apart = refl
shown-other (first ∷ list) values shown display apart =
    shown-other list values (with_shown shown first (values first)) display (All-tail (λ other. display ≢ other) first list apart)
    ∙ get_or-set_other shown first display (Some (values first)) None (All-head (λ other. display ≢ other) first list apart)

apart-of : (list : List ℕ) (display : ℕ) → ¬ Contains list display → All (λ other. display ≢ other) list
apart-of list display outside =
    All-weaker (Contains list) (λ other. display ≢ other) (λ other among same. outside (subst (Contains list) (sym same) among)) list (All-contains_itself list)

taken-other : (state : State) (screen display : ℕ) → ¬ Contains (displays_of state.plant screen) display → last (taken_first state screen).state.shown display ≡ last state.shown display
taken-other state screen display outside =
    let all : List ℕ = displays_of state.plant screen in
    let test : ℕ → Bool = displays.differs state in
    ap (λ (new : State). last new.shown display) (taken-state state (take lamp_limit (filter test all)))
    ∙ shown-other (take lamp_limit (filter test all)) (value_of state) state.shown display
    (All-take (λ other. display ≢ other) lamp_limit (filter test all) (All-filter test (λ other. display ≢ other) all (apart-of all display outside)))

pub others-stay : (state : State) (screen : ℕ) (refresh : Bool) (display : ℕ) → ¬ Contains (displays_of state.plant screen) display → last (step state (DisplayPoll screen refresh)).state.shown display ≡ last state.shown display
others-stay state screen false display outside = taken-other state screen display outside
others-stay state screen true display outside =
    taken-other (refreshed state screen true) screen display outside
    ∙ forgotten-other (displays_of state.plant screen) state.shown display (apart-of (displays_of state.plant screen) display outside)
