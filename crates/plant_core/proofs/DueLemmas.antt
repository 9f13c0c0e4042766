-- Displays stay due, and those that watch what moved or turned become so.
use Rattle.std.proofs.Common.{◌≡◌, ◌↔◌, ℕ, ◌+◌, ◌<◌, ◌≤◌, ◌==◌, true, false, List, [], ◌∷◌, length, get_or, map, slice_get, zero, suc, Option, Some, None, inl, inr, refl, sym, ap, subst, ◌∙◌, arith, eq-eqb, eqb-true}
use Rattle.std.specs.Prelude.{Contains}
use Rattle.std.specs.Option.{option_map_or}
use Rattle.std.proofs.lemmas.Bool.{cases_eq, or_left, or_right}
use Rattle.std.proofs.lemmas.List.{get_or_default, length-map}
use Rattle.std.proofs.lemmas.Option.{slice_get-get_or}
use Rattle.plant_config.specs.Plant.{PlantData}
use Rattle.plant_config.specs.declared.records.Change.{Change}
use Rattle.tap_lists.specs.Lists.{Lists, list_of, IsUnder, IsHeadOf}
use Rattle.tally.specs.Touched.{named_by}
use Rattle.due_displays.specs.Due.{Due, AreDueOf, is_due}
use Rattle.due_displays.specs.Changed.{BecomeDue, watches}
use Rattle.due_displays.specs.Watchers.{watch_of}
use Rattle.crosspoint_state.specs.Crosspoints.{Crosspoints}
use Rattle.plant_core.specs.DueInside.{StayDue, AreWatchersDue, AreTappedDue, FollowValues}

pub stay_self : (plant : PlantData) (due : Due) → AreDueOf plant due → StayDue plant due due
stay_self plant due are = record { tables = are; stay = λ display below is. is }

-- without displays nothing follows
pub nobody_follows : (plant : PlantData) (old new : Crosspoints) (due : Due) → length plant.displays ≡ 0 → AreDueOf plant due → FollowValues plant old new due due
nobody_follows plant old new due none are = record { due = stay_self plant due are; same = λ display below is. absurd (omega (arith, none, below)) }

pub stay_then : (plant : PlantData) (old between new : Due) → StayDue plant old between → StayDue plant between new → StayDue plant old new
stay_then plant old between new first then = record { tables = then.tables; stay = λ display below is. then.stay display below (first.stay display below is) }

pub stay_one : (plant : PlantData) (old new : Due) (dest : ℕ) → BecomeDue plant old new (watches plant dest) → StayDue plant old new
stay_one plant old new dest become = record {
  tables = become.kept;
  stay = λ display below is. become.each display below ∙ or_right (watches plant dest display) (is_due plant old display) is;
}

pub stay_more : (plant : PlantData) (old between new : Due) (dest : ℕ) → StayDue plant old between → BecomeDue plant between new (watches plant dest) → StayDue plant old new
stay_more plant old between new dest first become = stay_then plant old between new first (stay_one plant between new dest become)

pub watchers_one : (plant : PlantData) (old new : Due) (dest : ℕ) → BecomeDue plant old new (watches plant dest) → AreWatchersDue plant new dest
watchers_one plant old new dest become display below watch =
    become.each display below
    ∙ or_left (watches plant dest display) (is_due plant old display) (ap (λ at. option_map_or (λ n. n == dest) at false) watch ∙ eq-eqb dest dest refl)

pub watchers_stay : (plant : PlantData) (old new : Due) (dest : ℕ) → StayDue plant old new → AreWatchersDue plant old dest → AreWatchersDue plant new dest
watchers_stay plant old new dest still are display below watch = still.stay display below (are display below watch)

pub tapped_stay : (plant : PlantData) (old new : Due) (taps : Lists) (head : ℕ) → StayDue plant old new → AreTappedDue plant old taps head → AreTappedDue plant new taps head
tapped_stay plant old new taps head still are dest under = watchers_stay plant old new dest still (are dest under)

-- ---- what changes name

pub moved_none : (plant : PlantData) (due : Due) (changes : List Change) (k : ℕ) (d : Change) → k < 0 → k < length changes → AreWatchersDue plant due (get_or changes k d).dest
moved_none plant due changes k d none within = absurd (omega (arith, none))

pub moved_more : (plant : PlantData) (old new : Due) (changes : List Change) (index : ℕ) (change : Change) → change ≡ get_or changes index change → BecomeDue plant old new (watches plant change.dest) →
    ((k : ℕ) (d : Change) → k < index → k < length changes → AreWatchersDue plant old (get_or changes k d).dest) →
    (k : ℕ) (d : Change) → k < index + 1 → k < length changes → AreWatchersDue plant new (get_or changes k d).dest
moved_more plant old new changes index change is become before k d below within = elim (cases_eq k index) [
  | inl here ↦
      let same : get_or changes k d ≡ change = get_or_default changes k d change within ∙ ap (λ n. get_or changes n change) here ∙ sym is in
      subst (λ (change : Change). AreWatchersDue plant new change.dest) (sym same) (watchers_one plant old new change.dest become)
  | inr apart ↦ watchers_stay plant old new (get_or changes k d).dest (stay_one plant old new change.dest become) (before k d (omega (arith, below, apart)) within)
]

pub moved_all : (plant : PlantData) (due : Due) (changes : List Change) (index : ℕ) → length changes ≤ index → ((k : ℕ) (d : Change) → k < index → k < length changes → AreWatchersDue plant due (get_or changes k d).dest) →
    (dest : ℕ) → Contains (named_by changes) dest → AreWatchersDue plant due dest
moved_all plant due changes index all are dest named =
    let within : named.0 < length changes = omega (arith, named.1, length-map changes (λ (change : Change). change.dest)) in
    let d : Change = record { dest = dest; source = None } in
    subst (AreWatchersDue plant due) (sym (at changes named.0 d) ∙ named.2) (are named.0 d (omega (arith, within, all)) within)
  where
    at : (list : List Change) (k : ℕ) (d : Change) → get_or (map (λ (change : Change). change.dest) list) k d.dest ≡ (get_or list k d).dest
    at [] k d = refl
    at (change ∷ list) zero d = refl
    at (change ∷ list) (suc k) d = at list k d

-- ---- what is under local sources

pub tapped_none : (plant : PlantData) (due : Due) (taps : Lists) (origins : List ℕ) (k d : ℕ) → k < 0 → k < length origins → AreTappedDue plant due taps (get_or origins k d)
tapped_none plant due taps origins k d none within = absurd (omega (arith, none))

pub tapped_more : (plant : PlantData) (old new : Due) (taps : Lists) (origins : List ℕ) (index origin : ℕ) → origin ≡ get_or origins index origin → StayDue plant old new → AreTappedDue plant new taps origin →
    ((k d : ℕ) → k < index → k < length origins → AreTappedDue plant old taps (get_or origins k d)) →
    (k d : ℕ) → k < index + 1 → k < length origins → AreTappedDue plant new taps (get_or origins k d)
tapped_more plant old new taps origins index origin is still now before k d below within = elim (cases_eq k index) [
  | inl here ↦
      let same : get_or origins k d ≡ origin = get_or_default origins k d origin within ∙ ap (λ n. get_or origins n origin) here ∙ sym is in
      subst (AreTappedDue plant new taps) (sym same) now
  | inr apart ↦ tapped_stay plant old new taps (get_or origins k d) still (before k d (omega (arith, below, apart)) within)
]

pub tapped_all : (plant : PlantData) (due : Due) (taps : Lists) (origins : List ℕ) (index : ℕ) → length origins ≤ index → ((k d : ℕ) → k < index → k < length origins → AreTappedDue plant due taps (get_or origins k d)) →
    (origin : ℕ) → Contains origins origin → AreTappedDue plant due taps origin
tapped_all plant due taps origins index all are origin has =
    subst (AreTappedDue plant due taps) has.2 (are has.0 origin (omega (arith, has.1, all)) has.1)

-- one tap after another
pub passed_none : (plant : PlantData) (due : Due) (list : List ℕ) (k dest : ℕ) → k < 0 → slice_get list k ≡ Some dest → AreWatchersDue plant due dest
passed_none plant due list k dest none at = absurd (omega (arith, none))

pub passed_more : (plant : PlantData) (old new : Due) (list : List ℕ) (place dest : ℕ) → slice_get list place ≡ Some dest → BecomeDue plant old new (watches plant dest) →
    ((k d : ℕ) → k < place → slice_get list k ≡ Some d → AreWatchersDue plant old d) → (k d : ℕ) → k < place + 1 → slice_get list k ≡ Some d → AreWatchersDue plant new d
passed_more plant old new list place dest here become before k d below at = elim (cases_eq k place) [
  | inl same ↦
      let both : Some dest ≡ Some d = sym here ∙ ap (slice_get list) (sym same) ∙ at in
      let one : dest ≡ d = cc in
      subst (AreWatchersDue plant new) one (watchers_one plant old new dest become)
  | inr apart ↦ watchers_stay plant old new d (stay_one plant old new dest become) (before k d (omega (arith, below, apart)) at)
]

pub passed_all : (plant : PlantData) (due : Due) (taps : Lists) (origin place : ℕ) → length (list_of taps origin) ≤ place → ((k d : ℕ) → k < place → slice_get (list_of taps origin) k ≡ Some d → AreWatchersDue plant due d) → AreTappedDue plant due taps origin
passed_all plant due taps origin place all are dest under =
    are under.0 dest (omega (arith, under.1, all)) (slice_get-get_or (list_of taps origin) under.0 dest under.1 ∙ ap Some under.2)

-- a list ends where nothing stands
pub ended : (list : List ℕ) (place : ℕ) → slice_get list place ≡ None → length list ≤ place
ended [] place none = omega arith
ended (first ∷ list) zero none = cc
ended (first ∷ list) (suc place) none = omega (arith, ended list place none)

-- ---- one display after another

pub showing_more : (plant : PlantData) (old new : Due) (taps : Lists) (origin number watch : ℕ) → watch_of plant.displays number ≡ Some watch → number < length plant.displays → StayDue plant old new →
    (IsUnder taps origin watch → is_due plant new number ≡ true) → ((display dest : ℕ) → display < number → watch_of plant.displays display ≡ Some dest → IsUnder taps origin dest → is_due plant old display ≡ true) →
    (display dest : ℕ) → display < number + 1 → watch_of plant.displays display ≡ Some dest → IsUnder taps origin dest → is_due plant new display ≡ true
showing_more plant old new taps origin number watch at within still here before display dest below is under = elim (cases_eq display number) [
  | inl same ↦
      let both : Some dest ≡ Some watch = sym is ∙ ap (watch_of plant.displays) same ∙ at in
      let one : dest ≡ watch = cc in
      rw same (here (subst (IsUnder taps origin) one under))
  | inr apart ↦ still.stay display (omega (arith, below, apart, within)) (before display dest (omega (arith, below, apart)) is under)
]

-- a display that was added is due, and so is each that was
pub stay_added : (plant : PlantData) (old new : Due) (number : ℕ) → BecomeDue plant old new (λ other. other == number) → StayDue plant old new
stay_added plant old new number become = record {
  tables = become.kept;
  stay = λ display below is. become.each display below ∙ or_right (display == number) (is_due plant old display) is;
}

pub added_due : (plant : PlantData) (old new : Due) (number : ℕ) → number < length plant.displays → BecomeDue plant old new (λ other. other == number) → is_due plant new number ≡ true
added_due plant old new number within become = become.each number within ∙ or_left (number == number) (is_due plant old number) (eq-eqb number number refl)

-- a destination carries the picture of its head, and of no other
pub head_is : (taps : Lists) (dest head origin : ℕ) (found : Option ℕ) → IsHeadOf taps dest found → found ≡ Some head → ((head == origin) ≡ true) ↔ IsUnder taps origin dest
head_is taps dest head origin found of is = (
  λ same. (of origin).0 (is ∙ ap Some (eqb-true head origin same)),
  λ under. eq-eqb head origin (number (sym is ∙ (of origin).1 under)),
)
  where
    number : Some head ≡ Some origin → head ≡ origin
    number e = cc

pub head_none : (taps : Lists) (dest origin : ℕ) (found : Option ℕ) → IsHeadOf taps dest found → found ≡ None → (false ≡ true) ↔ IsUnder taps origin dest
head_none taps dest origin found of is = (λ e. cc, λ under. absurd (nothing (sym is ∙ (of origin).1 under)))
  where
    nothing : None ≡ Some origin → ⊥
    nothing e = cc
