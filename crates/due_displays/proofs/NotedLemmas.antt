-- The screens that are noted: just those with displays that are due.
use Rattle.std.proofs.Common.{◌≡◌, ◌⊎◌, ◌↔◌, ℕ, ◌<◌, ◌==◌, Bool, true, false, not, ◌&&◌, List, [], ◌∷◌, length, slice_get, zero, suc, is_some, IsTrue, Option, Some, None, inl, inr, refl, sym, ap, ◌∙◌, arith, eq-eqb}
use Rattle.std.specs.FinSet.{empty, contains, remove, contains-empty}
use Rattle.std.specs.Ordering.{nat_cmp}
use Rattle.std.proofs.lemmas.Bool.{cases_eq, ne_eqb, both_ways}
use Rattle.number_tables.specs.Numbers.{Numbers}
use Rattle.number_tables.proofs.Members.{contains_removed, same_members}
use Rattle.plant_config.specs.Plant.{PlantData}
use Rattle.change_boards.specs.Screens.{displays_of}
use Rattle.due_displays.specs.Row.{Row, has_at, IsLowestOf}
use Rattle.due_displays.specs.Due.{Due, AreDueOf, row_of, screen_at, position_of, is_due}

-- Just the screens with displays that are due are noted.
abbrev pub AreNoted : Due → Type 0
AreNoted due = (screen : ℕ) → (contains due.screens screen ≡ true) ↔ ((position : ℕ) × (has_at (row_of due screen) position ≡ true))

-- The screens that are noted are those that were, but for one where none is due any more, and this one only if some still is.
pub record AreNotedBut (old new : Due) (here : ℕ) (row : Row) : Type 0 where
  pub still : (screen : ℕ) → contains old.screens screen ≡ true → (contains new.screens screen ≡ true) ⊎ ((screen ≡ here) × ((position : ℕ) → has_at row position ≡ false))
  pub was : (screen : ℕ) → contains new.screens screen ≡ true → contains old.screens screen ≡ true
  pub some : contains new.screens here ≡ true → (position : ℕ) × (has_at row position ≡ true)

pub true_and : (a b : Bool) → (a && b) ≡ true → (a ≡ true) × (b ≡ true)
true_and true b is = (refl, is)
true_and false b is = cc

-- a row that is empty now
pub emptied : (old new : Due) (here : ℕ) (row : Row) → new.screens ≡ remove old.screens here → ((position : ℕ) → has_at row position ≡ true → ⊥) → AreNotedBut old new here row
emptied old new here row noted none = record {
  still = λ screen was. elim (cases_eq screen here) [
    | inl same ↦ inr (same, λ position. by position (has_at row position) refl)
    | inr apart ↦ inl (now_noted screen ∙ ap (λ b. not b && contains old.screens screen) (ne_eqb screen here apart) ∙ was)
  ];
  was = λ screen holds. (true_and (not (screen == here)) (contains old.screens screen) (sym (now_noted screen) ∙ holds)).1;
  some = λ holds.
      absurd (both_ways (contains new.screens here) (now_noted here ∙ ap (λ b. not b && contains old.screens here) (eq-eqb here here refl)) holds);
}
  where
    now_noted : (screen : ℕ) → contains new.screens screen ≡ (not (screen == here) && contains old.screens screen)
    now_noted screen = ap (λ (s : Numbers). contains s screen) noted ∙ contains_removed old.screens here screen

    by : (position : ℕ) (b : Bool) → has_at row position ≡ b → b ≡ false
    by position true holds = absurd (none position holds)
    by position false off = refl

-- a row that has some still
pub still_some : (old new : Due) (here : ℕ) (row : Row) (found : Option ℕ) (none : Bool) → new.screens ≡ old.screens → IsLowestOf row found → is_some found ≡ not none → none ≡ false → AreNotedBut old new here row
still_some old new here row found none same lowest is holds = record {
  still = λ screen was. inl (ap (λ (s : Numbers). contains s screen) same ∙ was);
  was = λ screen now. ap (λ (s : Numbers). contains s screen) (sym same) ∙ now;
  some = λ now. by found refl;
}
  where
    by : (at : Option ℕ) → found ≡ at → (position : ℕ) × (has_at row position ≡ true)
    by (Some position) here_at = (position, lowest.there position here_at)
    by None here_at =
        let no : false ≡ true = ap is_some (sym here_at) ∙ is ∙ ap not holds in
        cc

pub none_from : (found : Option ℕ) (none : Bool) → is_some found ≡ not none → none ≡ true → found ≡ None
none_from None none is holds = refl
none_from (Some n) true is holds = cc
none_from (Some n) false is holds = cc

-- where no screen is noted, no display is due
pub none_due : (plant : PlantData) (due : Due) (display : ℕ) → AreDueOf plant due → ((screen : ℕ) → contains due.screens screen ≡ false) → is_due plant due display ≡ false
none_due plant due display are none = by (is_due plant due display) refl
  where
    by : (b : Bool) → is_due plant due display ≡ b → b ≡ false
    by true holds = absurd (both_ways (contains due.screens (screen_at plant display)) (none (screen_at plant display)) ((are.noted (screen_at plant display)).1 (position_of due display, holds)))
    by false off = refl

-- what a screen's row has at a position is whether the display there is due
pub due_there : (plant : PlantData) (due : Due) (screen position display : ℕ) → AreDueOf plant due → slice_get (displays_of plant screen) position ≡ Some display → is_due plant due display ≡ has_at (row_of due screen) position
due_there plant due screen position display are there =
    let stands = are.placed screen position display there in
    ap (λ n. has_at (row_of due n) (position_of due display)) stands.on ∙ ap (has_at (row_of due screen)) stands.at

-- where no display is due, no screen is noted
pub none_noted : (plant : PlantData) (due : Due) → AreDueOf plant due → ((display : ℕ) → display < length plant.displays → is_due plant due display ≡ false) → due.screens ≡ empty
none_noted plant due are none = same_members due.screens empty (λ screen. by screen (contains due.screens screen) refl ∙ sym (contains-empty nat_cmp screen))
  where
    not_within : (list : List ℕ) (n : ℕ) → n < length list → slice_get list n ≡ None → ⊥
    not_within [] n within at = omega (arith, within)
    not_within (x ∷ list) zero within at = cc
    not_within (x ∷ list) (suc n) within at = not_within list n (omega (arith, within)) at

    held : (screen position : ℕ) → has_at (row_of due screen) position ≡ true → (found : Option ℕ) → slice_get (displays_of plant screen) position ≡ found → ⊥
    held screen position holds None at = not_within (displays_of plant screen) position (are.within screen position holds) at
    held screen position holds (Some display) at =
        both_ways (is_due plant due display) (none display (are.placed screen position display at).below) (due_there plant due screen position display are at ∙ holds)

    by : (screen : ℕ) (b : Bool) → contains due.screens screen ≡ b → contains due.screens screen ≡ false
    by screen true holds =
        let found = (are.noted screen).0 holds in
        absurd (held screen found.0 found.1 (slice_get (displays_of plant screen) found.0) refl)
    by screen false off = off

-- so no screen is noted exactly if no display is due
pub empty_exactly : (plant : PlantData) (due : Due) (result : Bool) → (IsTrue result ↔ (due.screens ≡ empty)) → AreDueOf plant due → (IsTrue result ↔ ((display : ℕ) → display < length plant.displays → is_due plant due display ≡ false))
empty_exactly plant due result is are = (
  λ holds display below. none_due plant due display are (λ screen. ap (λ (s : Numbers). contains s screen) (is.0 holds) ∙ contains-empty nat_cmp screen),
  λ none. is.1 (none_noted plant due are none),
)
