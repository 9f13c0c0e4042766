-- A poll looks at displays that are due, one after another.
use Rattle.std.proofs.Common.{◌≡◌, ◌≢◌, ℕ, ◌+◌, ◌-◌, ◌<◌, ◌==◌, nat_eq, Bool, true, false, cond, not, ◌&&◌, ◌||◌, List, [], ◌∷◌, ◌++◌, length, take, drop, slice_get, zero, suc, Option, Some, None, inl, inr, refl, sym, ap, ◌∙◌, arith, eq-eqb}
use Rattle.std.specs.List.{IsDistinct, list_any, range_with_len}
use Rattle.std.proofs.lemmas.Bool.{cases_eq, cases_lt, ne_eqb, both_ways, and_left, and_right}
use Rattle.std.proofs.lemmas.List.{get_or-set_other}
use Rattle.plant_config.specs.Plant.{PlantData}
use Rattle.crosspoint_state.specs.Crosspoints.{Crosspoints}
use Rattle.change_boards.specs.declared.value.Value.{Value}
use Rattle.std.specs.Option.{option_eq}
use Rattle.change_boards.specs.Shown.{Shown, is_same, differs, with_shown, with_forgotten}
use Rattle.change_boards.specs.Screens.{displays_of}
use Rattle.change_boards.specs.ShownLaws.{is_in_list}
use Rattle.change_boards.proofs.ShownLemmas.{with_shown-ShowsOne, with_forgotten-Forgets}
use Rattle.due_displays.specs.Due.{Due, AreDueOf, is_due}
use Rattle.due_displays.specs.Changed.{BecomeDue, LosesDue, IsFirstDue, NoneIsDueAt}
use Rattle.due_displays.proofs.PositionLemmas.{stands_once}
use Rattle.plant_core.specs.declared.answer.Answer.{Answer}
use Rattle.plant_core.specs.declared.answer.Answer.TheVariants.{Lamp}
use Rattle.plant_core.specs.Displays.{value_in, differing_of, shown_all, lamps_of}
use Rattle.plant_core.specs.DueInside.{AreDueToDiffer, AreKeptDue}
use Rattle.plant_core.proofs.DisplayLemmas.{left_of, Leads, Leads-one, apart-behind, none_more}

-- whether what a display was last shown is another value
abbrev differs-of : Option Value → Value → Bool
differs-of last value = not (option_eq is_same last (Some value))

-- a display that isn't due doesn't differ
pub not_due : (plant : PlantData) (values : ℕ → Value) (shown : Shown) (due : Due) → AreDueToDiffer plant values shown due → (display : ℕ) → display < length plant.displays → is_due plant due display ≡ false → differs shown display (values display) ≡ false
not_due plant values shown due are display below off = by (differs shown display (values display)) refl
  where
    by : (b : Bool) → differs shown display (values display) ≡ b → b ≡ false
    by true is = absurd (both_ways (is_due plant due display) off (are display below is))
    by false is = refl

-- those in front of the ones that differ can be left out
pub skip : (values : ℕ → Value) (shown : Shown) (list : List ℕ) (count : ℕ) → ((k d : ℕ) → k < count → slice_get list k ≡ Some d → differs shown d (values d) ≡ false) → differing_of values shown list ≡ differing_of values shown (drop count list)
skip values shown list zero none = refl
skip values shown [] (suc count) none = refl
skip values shown (first ∷ list) (suc count) none =
    ap (λ b. cond b (first ∷ differing_of values shown list) (differing_of values shown list)) (none 0 first (omega arith) refl)
    ∙ skip values shown list count (λ k d below at. none (suc k) d (omega (arith, below)) at)

pub all_skipped : (values : ℕ → Value) (shown : Shown) (list : List ℕ) → ((k d : ℕ) → slice_get list k ≡ Some d → differs shown d (values d) ≡ false) → differing_of values shown list ≡ []
all_skipped values shown list none = skip values shown list (length list) (λ k d below at. none k d at) ∙ ap (differing_of values shown) (all list)
  where
    all : (list : List ℕ) → drop (length list) list ≡ []
    all [] = refl
    all (first ∷ list) = all list

-- one display was shown its value, or shows it
module _ (values : ℕ → Value) (shown new : Shown) (display : ℕ) (now : new ≡ cond (differs shown display (values display)) (with_shown shown display (values display)) shown) where
  pub others_same : (other : ℕ) (value : Value) → other ≢ display → differs new other value ≡ differs shown other value
  others_same other value apart = ap (λ s. differs s other value) now ∙ by (differs shown display (values display))
    where
      by : (b : Bool) → differs (cond b (with_shown shown display (values display)) shown) other value ≡ differs shown other value
      by true = ap (λ last. differs-of last value) (get_or-set_other shown display other (Some (values display)) None apart)
      by false = refl

  pub self_same : display < length shown → differs new display (values display) ≡ false
  self_same within = ap (λ s. differs s display (values display)) now ∙ by (differs shown display (values display)) refl
    where
      by : (b : Bool) → differs shown display (values display) ≡ b → differs (cond b (with_shown shown display (values display)) shown) display (values display) ≡ false
      by true is = (with_shown-ShowsOne shown display (values display) within).same
      by false is = is

-- what is left to be shown and told, one display further
pub looked : (values : ℕ → Value) (shown new : Shown) (items new_items : List Answer) (list : List ℕ) (position display : ℕ) → IsDistinct nat_eq list → slice_get list position ≡ Some display → display < length shown → length items < 64 →
    new ≡ cond (differs shown display (values display)) (with_shown shown display (values display)) shown → new_items ≡ cond (differs shown display (values display)) (items ++ Lamp display (values display) ∷ []) items →
    ((k d : ℕ) → k < position → slice_get list k ≡ Some d → differs shown d (values d) ≡ false) → Leads values shown new items new_items list list
looked values shown new items new_items list position display once at within few now told passed =
    let rest : List ℕ = drop (suc position) list in
    let before : drop position list ≡ display ∷ rest = first_of list position at in
    let one = Leads-one values shown items display rest new new_items few (apart-behind list position display rest once before) now told in
    let behind : differing_of values new list ≡ differing_of values new rest = skip values new list (suc position) still in
    let ahead : differing_of values shown list ≡ differing_of values shown (display ∷ rest) = skip values shown list position passed ∙ ap (differing_of values shown) before in
    record {
      lit = ap (λ l. shown_all values (take (64 - length new_items) l) new) behind ∙ one.lit ∙ ap (λ l. shown_all values (take (64 - length items) l) shown) (sym ahead);
      told = ap (λ l. new_items ++ lamps_of values (take (64 - length new_items) l)) behind ∙ one.told ∙ ap (λ l. items ++ lamps_of values (take (64 - length items) l)) (sym ahead);
      few = one.few;
    }
  where
    first_of : (list : List ℕ) (n : ℕ) → slice_get list n ≡ Some display → drop n list ≡ display ∷ drop (suc n) list
    first_of [] n at = cc
    first_of (x ∷ list) zero at =
        let same : x ≡ display = cc in
        ap (λ y. y ∷ list) same
    first_of (x ∷ list) (suc n) at = first_of list n at

    still : (k d : ℕ) → k < suc position → slice_get list k ≡ Some d → differs new d (values d) ≡ false
    still k d below here = elim (cases_eq k position) [
      | inl same ↦
          let both : Some d ≡ Some display = sym here ∙ ap (slice_get list) same ∙ at in
          let one : d ≡ display = cc in
          ap (λ n. differs new n (values n)) one ∙ self_same values shown new display now within
      | inr apart ↦
          others_same values shown new display now d (values d) (λ same. apart (stands_once list once d k position here (at ∙ ap Some (sym same)))) ∙ passed k d (omega (arith, below, apart)) here
    ]

-- and those that differ stay due
pub looked_due : (plant : PlantData) (points : Crosspoints) (shown new : Shown) (before after : Due) (display : ℕ) → display < length shown → new ≡ cond (differs shown display (value_in plant points display)) (with_shown shown display (value_in plant points display)) shown →
    AreKeptDue plant points shown before → LosesDue plant before after display → AreKeptDue plant points new after
looked_due plant points shown new before after display within now kept loses = record {
  tables = loses.kept;
  differing = λ other below is. elim (cases_eq other display) [
    | inl same ↦ absurd (both_ways (differs new display (value_in plant points display)) (self_same (value_in plant points) shown new display now within) (ap (λ n. differs new n (value_in plant points n)) (sym same) ∙ is))
    | inr apart ↦
        loses.each other below ∙ ap (λ b. not b && is_due plant before other) (ne_eqb other display apart)
        ∙ kept.differing other below (sym (others_same (value_in plant points) shown new display now other (value_in plant points other) apart) ∙ is)
  ];
}

-- the positions that were passed
pub passed_one : (plant : PlantData) (before after : Due) (screen turn position display : ℕ) → ((k d : ℕ) → slice_get (displays_of plant screen) k ≡ Some d → d < length plant.displays) → IsFirstDue plant before screen (Some position) →
    slice_get (displays_of plant screen) position ≡ Some display → LosesDue plant before after display → ((k : ℕ) → k < turn → NoneIsDueAt plant before screen k) → (k : ℕ) → k < turn + 1 → NoneIsDueAt plant after screen k
passed_one plant before after screen turn position display inside first at loses passed k below d here =
    loses.each d (inside k d here) ∙ elim (cases_lt k position) [
      | inl less ↦ and_right (not (d == display)) (is_due plant before d) (first.passed position k refl less d here)
      | inr more ↦ elim (cases_eq k position) [
        | inl same ↦
            let both : Some d ≡ Some display = sym here ∙ ap (slice_get (displays_of plant screen)) same ∙ at in
            let one : d ≡ display = cc in
            and_left (not (d == display)) (is_due plant before d) (ap not (eq-eqb d display one))
        | inr apart ↦
            absurd (both_ways (is_due plant before display) (passed position (omega (arith, more, apart, below)) display at) (first.is position display refl at))
      ]
    ]

-- what a refresh forgets becomes due
pub kept_forgotten : (plant : PlantData) (points : Crosspoints) (shown : Shown) (before after : Due) (list : List ℕ) → AreKeptDue plant points shown before → BecomeDue plant before after (is_in_list list) → AreKeptDue plant points (with_forgotten shown list) after
kept_forgotten plant points shown before after list kept become = record {
  tables = become.kept;
  differing = λ display below is. become.each display below ∙ by display below is (is_in_list list display) refl;
}
  where
    by : (display : ℕ) → display < length plant.displays → differs (with_forgotten shown list) display (value_in plant points display) ≡ true → (b : Bool) → is_in_list list display ≡ b → (b || is_due plant before display) ≡ true
    by display below is true in_list = refl
    by display below is false out =
        kept.differing display below (ap (λ last. differs-of last (value_in plant points display)) (sym ((with_forgotten-Forgets shown list).others display out)) ∙ is)

-- at the start all are due
pub kept_start : (plant : PlantData) (points : Crosspoints) (shown : Shown) (due : Due) → AreDueOf plant due → ((display : ℕ) → display < length plant.displays → is_due plant due display ≡ true) → AreKeptDue plant points shown due
kept_start plant points shown due are all = record { tables = are; differing = λ display below is. all display below }

-- where none is due none differs
pub none_differs : (test : ℕ → Bool) (count : ℕ) → ((n : ℕ) → n < count → test n ≡ false) → list_any test (range_with_len 0 count) ≡ false
none_differs test zero none = refl
none_differs test (suc count) none =
    let more : count + 1 ≡ suc count = omega arith in
    ap (λ n. list_any test (range_with_len 0 n)) (sym more)
    ∙ none_more test count (none_differs test count (λ n below. none n (omega (arith, below)))) (none count (omega arith))

-- where none differs any more, all was shown and told
pub none_left : (values : ℕ → Value) (shown : Shown) (list : List ℕ) (count : ℕ) → differing_of values shown list ≡ [] → left_of values count shown list ≡ []
none_left values shown list count none = ap (take count) none ∙ by count
  where
    by : (n : ℕ) → take {A = ℕ} n [] ≡ []
    by zero = refl
    by (suc n) = refl
