-- Which displays polls tell, and what they leave to be told.
use Rattle.std.proofs.Common.{◌≡◌, ℕ, ◌+◌, ◌*◌, ◌<◌, ◌≤◌, nat_eq, Bool, true, false, cond, not, List, [], ◌∷◌, length, map, filter, take, drop, All, Some, None, suc, zero, inl, inr, refl, sym, ap, subst, ◌∙◌, arith}
use Rattle.std.specs.Prelude.{◌==◌, ◌&&◌, ◌/◌}
use Rattle.std.specs.List.{AllByRecursion, IsDistinct, Contains}
use Rattle.std.specs.Option.{option_eq}
use Rattle.std.specs.Bool.{beq}
use Rattle.std.proofs.lemmas.Bool.{cases_eq, cases_lt}
use Rattle.std.proofs.lemmas.List.{get_or-set_same, get_or-set_other, set_past, length-set, drop-drop, drop_all}
use Rattle.std.proofs.lemmas.List.Elements.{All-nil, All-push, All-cons, All-head, All-tail, All-map, All-take, All-filter, All-contains_itself, filter_passes, recursion_from_All}
use Rattle.std.proofs.lemmas.Map.Keys.{IsDistinct-head, IsDistinct-tail, IsDistinct-cons}
use Rattle.change_boards.specs.declared.value.Value.{Value}
use Rattle.change_boards.specs.Screens.{displays_of}
use Rattle.change_boards.specs.Shown.{Shown, is_same, last, differs, with_shown}
use Rattle.plant_core.specs.declared.answer.Answer.{Answer}
use Rattle.plant_core.specs.declared.answer.Answer.TheVariants.{Lamp, Finished}
use Rattle.plant_core.specs.declared.request.Request.TheVariants.{DisplayPoll}
use Rattle.plant_core.specs.State.{State, IsValid}
use Rattle.plant_core.specs.Displays as displays
use Rattle.plant_core.specs.Displays.{lamp_limit, value_of, differing_of, differing, is_finished, told_displays, taken_first, shown_all}
use Rattle.plant_core.specs.Step.{step}
use Rattle.plant_core.specs.Laws.{after}
use Rattle.plant_core.specs.DisplayLaws.{NoneDiffers, IsNoLamp, IsOfLit, lamps_among, lamps_for, polls_of_screen}
use Rattle.plant_core.proofs.Changes.{source_same}
use Rattle.plant_core.proofs.StepValidity.{IsValid-step}
use Rattle.plant_core.proofs.Shows.{display_polled-is}
use Rattle.plant_core.proofs.ScreenLemmas.{displays-below, displays-once}
use Rattle.plant_core.proofs.DisplayLemmas.{differing-others}

-- a display that was shown its value doesn't differ
beq-itself : (b : Bool) → beq b b ≡ true
beq-itself true = refl
beq-itself false = refl

is_same-itself : (value : Value) → is_same value value ≡ true
is_same-itself value =
    ap (λ b. b && beq value.air value.air && beq value.preview value.preview) (source_same value.source)
    ∙ ap (λ b. b && beq value.preview value.preview) (beq-itself value.air)
    ∙ beq-itself value.preview

told-same : (shown : Shown) (display : ℕ) (value : Value) → last shown display ≡ Some value → differs shown display value ≡ false
told-same shown display value is = ap (λ o. not (option_eq is_same o (Some value))) is ∙ ap not (is_same-itself value)

shown-here : (shown : Shown) (display : ℕ) (value : Value) → display < length shown → differs (with_shown shown display value) display value ≡ false
shown-here shown display value below = told-same (with_shown shown display value) display value (get_or-set_same shown display (Some value) None below)

-- and doesn't, whatever is shown its value behind that
stays-told : (list : List ℕ) (values : ℕ → Value) (shown : Shown) (display : ℕ) → differs shown display (values display) ≡ false → differs (shown_all values list shown) display (values display) ≡ false
stays-told [] values shown display told = told
stays-told (first ∷ list) values shown display told =
    let one : differs (with_shown shown first (values first)) display (values display) ≡ false =
    elim (cases_eq display first) [
      | inl here ↦ elim (cases_lt display (length shown)) [
        | inl below ↦ subst (λ (other : ℕ). differs (with_shown shown other (values other)) display (values display) ≡ false) here (shown-here shown display (values display) below)
        | inr past ↦ subst (λ (other : ℕ). differs (with_shown shown other (values other)) display (values display) ≡ false) here
            (subst (λ (s : Shown). differs s display (values display) ≡ false) (sym (set_past shown display (Some (values display)) past)) told)
      ]
      | inr other ↦ ap (λ o. not (option_eq is_same o (Some (values display)))) (get_or-set_other shown first display (Some (values first)) None other) ∙ told
    ] in
    stays-told list values (with_shown shown first (values first)) display one

all-told : (list : List ℕ) (values : ℕ → Value) (shown : Shown) (count : ℕ) → length shown ≡ count → AllByRecursion (λ display. display < count) list → All (λ display. differs (shown_all values list shown) display (values display) ≡ false) list
all-told [] values shown count long below = All-nil _
all-told (first ∷ list) values shown count long below =
    let more : Shown = with_shown shown first (values first) in
    All-cons (λ display. differs (shown_all values list more) display (values display) ≡ false) first list
    (stays-told list values more first (shown-here shown first (values first) (subst (λ n. first < n) (sym long) below.0)))
    (all-told list values more count (length-set shown first (Some (values first)) ∙ long) below.1)

-- once the first so many that differ were shown their values, the others differ
rest-differs : (list : List ℕ) (values : ℕ → Value) (n : ℕ) (shown : Shown) (count : ℕ) → IsDistinct nat_eq list → length shown ≡ count → AllByRecursion (λ display. display < count) list →
    differing_of values (shown_all values (take n (differing_of values shown list)) shown) list ≡ drop n (differing_of values shown list)
rest-differs list values zero shown count once long below = refl
rest-differs [] values (suc n) shown count once long below = refl
rest-differs (first ∷ list) values (suc n) shown count once long below =
    let value : Value = values first in
    let rest : List ℕ = differing_of values shown list in
    let more : Shown = with_shown shown first value in
    let tail : IsDistinct nat_eq list = IsDistinct-tail nat_eq first list once in
    let same : differing_of values more list ≡ rest = differing-others values shown first value list (IsDistinct-head nat_eq first list once) in
    elim (differs shown first value) as (λ b. differs shown first value ≡ b → differing_of values (shown_all values (take (suc n) (cond b (first ∷ rest) rest)) shown) (first ∷ list) ≡ drop (suc n) (cond b (first ∷ rest) rest)) [
      | true ↦ λ news.
          let all : Shown = shown_all values (take n rest) more in
          let gone : differs all first value ≡ false = stays-told (take n rest) values more first (shown-here shown first value (subst (λ n. first < n) (sym long) below.0)) in
          ap (λ b. cond b (first ∷ differing_of values all list) (differing_of values all list)) gone
          ∙ ap (λ r. differing_of values (shown_all values (take n r) more) list) (sym same)
          ∙ rest-differs list values n more count tail (length-set shown first (Some value) ∙ long) below.1
          ∙ ap (drop n) same
      | false ↦ λ old.
          let all : Shown = shown_all values (take (suc n) rest) shown in
          let gone : differs all first value ≡ false = stays-told (take (suc n) rest) values shown first old in
          ap (λ b. cond b (first ∷ differing_of values all list) (differing_of values all list)) gone
          ∙ rest-differs list values (suc n) shown count tail long below.1
    ] refl

-- what a poll leaves: the state in which those that it took were shown their values
pub taken-state : (state : State) (list : List ℕ) → (told_displays state list).state ≡ record state { shown = shown_all (value_of state) list state.shown }
taken-state state [] = refl
taken-state state (display ∷ list) = refl

pub taken-rest : (state : State) (screen : ℕ) → IsValid state → differing (taken_first state screen).state screen ≡ drop lamp_limit (differing state screen)
taken-rest state screen valid =
    ap (λ (new : State). differing new screen) (taken-state state (take lamp_limit (differing state screen)))
    ∙ rest-differs (displays_of state.plant screen) (value_of state) lamp_limit state.shown (length state.plant.displays) (displays-once state.plant screen) valid.shown.count
    (recursion_from_All (λ display. display < length state.plant.displays) (displays_of state.plant screen) (displays-below state.plant screen))

-- so many polls leave all but the first so many times 64
pub turns-left : (turns : ℕ) (state : State) (screen : ℕ) → IsValid state → differing (after state (polls_of_screen screen turns)) screen ≡ drop (lamp_limit * turns) (differing state screen)
turns-left zero state screen valid = let none : 0 ≡ lamp_limit * 0 = omega arith in ap (λ n. drop n (differing state screen)) none
turns-left (suc turns) state screen valid =
    let all : List ℕ = differing state screen in
    let next : State = (step state (DisplayPoll screen false)).state in
    let more : lamp_limit + lamp_limit * turns ≡ lamp_limit * suc turns = omega arith in
    turns-left turns next screen (IsValid-step state (DisplayPoll screen false) valid)
    ∙ ap (drop (lamp_limit * turns)) (taken-rest state screen valid)
    ∙ drop-drop (lamp_limit * turns) lamp_limit all
    ∙ ap (λ n. drop n all) more

-- and each display its value
turns-value : (turns : ℕ) (state : State) (screen display : ℕ) → value_of (after state (polls_of_screen screen turns)) display ≡ value_of state display
turns-value zero state screen display = refl
turns-value (suc turns) state screen display =
    turns-value turns (step state (DisplayPoll screen false)).state screen display ∙ ap (λ (state : State). value_of state display) (display_polled-is state screen false)

-- the lamps of a poll are those of what it took
only-lamps : (state : State) (list : List ℕ) → lamps_among (lamps_for state list) ≡ lamps_for state list
only-lamps state [] = refl
only-lamps state (display ∷ list) = ap (λ (lamps : List Answer). Lamp display (value_of state display) ∷ lamps) (only-lamps state list)

taken-lamps : (state : State) (list : List ℕ) → lamps_among (told_displays state list).answers ≡ lamps_for state list
taken-lamps state [] = elim (is_finished state) as (λ b. lamps_among (cond b (Finished ∷ []) []) ≡ []) [ true ↦ refl | false ↦ refl ]
taken-lamps state (display ∷ list) = only-lamps state (display ∷ list)

pub turns-told : (state : State) (screen turn : ℕ) → IsValid state →
    lamps_among (step (after state (polls_of_screen screen turn)) (DisplayPoll screen false)).answers ≡ lamps_for state (take lamp_limit (drop (lamp_limit * turn) (differing state screen)))
turns-told state screen turn valid =
    let before : State = after state (polls_of_screen screen turn) in
    let left = turns-left turn state screen valid in
    taken-lamps before (take lamp_limit (differing before screen))
    ∙ (λ i. map (λ display. Lamp display (turns-value turn state screen display i)) (take lamp_limit (left i)))

pub turns-done : (state : State) (screen : ℕ) → IsValid state → differing (after state (polls_of_screen screen (length (differing state screen) / lamp_limit + 1))) screen ≡ []
turns-done state screen valid =
    let count : ℕ = length (differing state screen) in
    let enough : count ≤ lamp_limit * (count / lamp_limit + 1) = omega arith in
    turns-left (count / lamp_limit + 1) state screen valid ∙ drop_all (lamp_limit * (count / lamp_limit + 1)) (differing state screen) enough

-- none differs twice
Each-filtered : (test : ℕ → Bool) (P : ℕ → Type 0) (list : List ℕ) → AllByRecursion P list → AllByRecursion P (filter test list)
Each-filtered test P [] each = tt
Each-filtered test P (first ∷ list) each =
    elim (test first) as (λ b. AllByRecursion P (cond b (first ∷ filter test list) (filter test list))) [
      | true ↦ (each.0, Each-filtered test P list each.1)
      | false ↦ Each-filtered test P list each.1
    ]

Once-filtered : (test : ℕ → Bool) (list : List ℕ) → IsDistinct nat_eq list → IsDistinct nat_eq (filter test list)
Once-filtered test [] once = once
Once-filtered test (first ∷ list) once =
    let rest = Once-filtered test list (IsDistinct-tail nat_eq first list once) in
    elim (test first) as (λ b. IsDistinct nat_eq (cond b (first ∷ filter test list) (filter test list))) [
      | true ↦ IsDistinct-cons nat_eq first (filter test list) (Each-filtered test (λ other. (first == other) ≡ false) list (IsDistinct-head nat_eq first list once)) rest
      | false ↦ rest
    ]

pub differ-once : (state : State) (screen : ℕ) → IsDistinct nat_eq (differing state screen)
differ-once state screen = Once-filtered (displays.differs state) (displays_of state.plant screen) (displays-once state.plant screen)

-- nothing passes a test exactly where each fails it
pub none-pass : (test : ℕ → Bool) (list : List ℕ) → All (λ x. test x ≡ false) list → filter test list ≡ []
none-pass test [] all = refl
none-pass test (first ∷ list) all =
    ap (λ b. cond b (first ∷ filter test list) (filter test list)) (All-head (λ x. test x ≡ false) first list all) ∙ none-pass test list (All-tail (λ x. test x ≡ false) first list all)

each-fails : (test : ℕ → Bool) (list : List ℕ) → filter test list ≡ [] → All (λ x. test x ≡ false) list
each-fails test [] none = All-nil (λ x. test x ≡ false)
each-fails test (first ∷ list) none =
    elim (test first) as (λ b. test first ≡ b → cond b (first ∷ filter test list) (filter test list) ≡ [] → All (λ x. test x ≡ false) (first ∷ list)) [
      | true ↦ λ is some. absurd cc
      | false ↦ λ is none. All-cons (λ x. test x ≡ false) first list is (each-fails test list none)
    ] refl none

quiet-none : (state : State) (list : List ℕ) → All IsNoLamp (told_displays state (take lamp_limit list)).answers → list ≡ []
quiet-none state [] all = refl
quiet-none state (display ∷ list) all = absurd (all 0 Finished (omega arith))

none-quiet : (state : State) → All IsNoLamp (told_displays state []).answers
none-quiet state =
    elim (is_finished state) as (λ b. All IsNoLamp (cond b (Finished ∷ []) [])) [ true ↦ All-push IsNoLamp [] Finished (All-nil IsNoLamp) tt | false ↦ All-nil IsNoLamp ]

-- a poll tells no lamp exactly where none differs
pub quiet-taken : (state : State) (screen : ℕ) → All IsNoLamp (taken_first state screen).answers → NoneDiffers state screen
quiet-taken state screen all = each-fails (displays.differs state) (displays_of state.plant screen) (quiet-none state (differing state screen) all)

pub taken-quiet : (state : State) (screen : ℕ) → NoneDiffers state screen → All IsNoLamp (taken_first state screen).answers
taken-quiet state screen none =
    subst (λ list. All IsNoLamp (told_displays state (take lamp_limit list)).answers) (sym (none-pass (displays.differs state) (displays_of state.plant screen) none)) (none-quiet state)

-- each that is told_displays is of the screen and differed, and doesn't differ any more
lit-each : (state : State) (screen : ℕ) (list : List ℕ) → All (Contains (displays_of state.plant screen)) list → All (λ display. displays.differs state display ≡ true) list →
    All (λ display. displays.differs (told_displays state list).state display ≡ false) list → All (IsOfLit state (told_displays state list).state screen) (told_displays state list).answers
lit-each state screen [] on differed shown =
    elim (is_finished state) as (λ b. All (IsOfLit state state screen) (cond b (Finished ∷ []) [])) [
      | true ↦ All-push (IsOfLit state state screen) [] Finished (All-nil (IsOfLit state state screen)) tt
      | false ↦ All-nil (IsOfLit state state screen)
    ]
lit-each state screen (display ∷ list) on differed shown =
    All-map (IsOfLit state (told_displays state (display ∷ list)).state screen) (λ (display : ℕ). Lamp display (value_of state display)) (display ∷ list)
    (λ k d below. record { on = on k d below; differed = differed k d below; told = refl; shown = shown k d below })

pub taken-lit : (state : State) (screen : ℕ) → IsValid state → All (IsOfLit state (taken_first state screen).state screen) (taken_first state screen).answers
taken-lit state screen valid =
    let all : List ℕ = displays_of state.plant screen in
    let test : ℕ → Bool = displays.differs state in
    let list : List ℕ = take lamp_limit (filter test all) in
    let below = All-take (λ display. display < length state.plant.displays) lamp_limit (filter test all) (All-filter test (λ display. display < length state.plant.displays) all (displays-below state.plant screen)) in
    let told =
    all-told list (value_of state) state.shown (length state.plant.displays) valid.shown.count (recursion_from_All (λ display. display < length state.plant.displays) list below) in
    lit-each state screen list
    (All-take (Contains all) lamp_limit (filter test all) (All-filter test (Contains all) all (All-contains_itself all)))
    (All-take (λ display. test display ≡ true) lamp_limit (filter test all) (filter_passes test all))
    (subst (λ (new : State). All (λ display. displays.differs new display ≡ false) list) (sym (taken-state state list)) told)
