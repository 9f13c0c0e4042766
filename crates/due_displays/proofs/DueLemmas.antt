-- Displays become due, and lose it, one by one.
use Rattle.std.proofs.Common.{◌≡◌, ◌≢◌, ℕ, ◌<◌, ◌≤◌, ◌==◌, Bool, true, false, not, ◌&&◌, ◌||◌, List, [], ◌∷◌, All, length, get_or, set, slice_get, zero, suc, Option, Some, inl, inr, refl, sym, ap, ◌∙◌, arith, eq-eqb, eqb-true, get_or-set_same, get_or-set_other, length-set}
use Rattle.std.specs.Option.{option_map_or}
use Rattle.std.specs.FinSet.{empty, contains, insert, contains-empty}
use Rattle.std.specs.Ordering.{nat_cmp}
use Rattle.std.proofs.lemmas.Bool.{cases_eq, cases_lt, ne_eqb, both_ways}
use Rattle.std.proofs.lemmas.List.{get_or_past, get_or_read}
use Rattle.std.proofs.lemmas.Option.{slice_get_within, slice_get-get_or}
use Rattle.number_tables.specs.Numbers.{Numbers}
use Rattle.number_tables.proofs.Members.{contains_inserted}
use Rattle.plant_config.specs.declared.records.Display.{Display}
use Rattle.plant_config.specs.Plant.{PlantData}
use Rattle.plant_config.specs.IsPlant.{IsPlant}
use Rattle.change_boards.specs.Screens.{Screens, AreScreensOf, displays_of}
use Rattle.due_displays.specs.Row.{Row, has_at, row_room, IsLowestOf}
use Rattle.due_displays.specs.Watchers.{AreWatchersOf}
use Rattle.due_displays.specs.Due.{Due, AreDueOf, row_of, screen_at, position_of, is_due}
use Rattle.due_displays.specs.Changed.{BecomeDue, LosesDue, IsFirstDue}
use Rattle.due_displays.specs.TablesInside.{AreRowsOf, ArePositionsOf}
use Rattle.due_displays.proofs.PositionLemmas.{of_screen, on_screen}
use Rattle.due_displays.proofs.NotedLemmas.{AreNoted, AreNotedBut, true_and, due_there}

-- two displays that stand at one position of one screen are one
pub same_stand : (plant : PlantData) (due : Due) (one other : ℕ) → AreDueOf plant due → one < length plant.displays → other < length plant.displays → screen_at plant one ≡ screen_at plant other → position_of due one ≡ position_of due other → one ≡ other
same_stand plant due one other are below beneath screen position =
    let both : Some one ≡ Some other =
    sym (are.listed one below) ∙ ap (λ n. slice_get (displays_of plant n) (position_of due one)) screen ∙ ap (slice_get (displays_of plant (screen_at plant other))) position ∙ are.listed other beneath in
    cc

-- there is room for a display
pub stand_room : (plant : PlantData) (due : Due) (display : ℕ) → AreDueOf plant due → display < length plant.displays → position_of due display < row_room (row_of due (screen_at plant display))
stand_room plant due display are below =
    omega (arith, are.room (screen_at plant display), slice_get_within (displays_of plant (screen_at plant display)) (position_of due display) display (are.listed display below))

pub screen_within : (plant : PlantData) (due : Due) (display : ℕ) → AreDueOf plant due → display < length plant.displays → screen_at plant display < length due.rows
screen_within plant due display are below = elim (cases_lt (screen_at plant display) (length due.rows)) [
  | inl within ↦ within
  | inr past ↦
      let none : row_of due (screen_at plant display) ≡ [] = get_or_past due.rows (screen_at plant display) [] past in
      absurd (omega (arith, stand_room plant due display are below, ap length none))
]

-- The row of one screen changed at one position, and nothing else but which screens are noted.
pub record ChangesAt (old new : Due) (screen : ℕ) (row : Row) (position : ℕ) (change : Bool → Bool → Bool) : Type 0 where
  pub lasts : new.lasts ≡ old.lasts
  pub befores : new.befores ≡ old.befores
  pub positions : new.positions ≡ old.positions
  pub rows : new.rows ≡ set old.rows screen row
  pub count : length row ≡ length (row_of old screen)
  pub each : (other : ℕ) → has_at row other ≡ change (other == position) (has_at (row_of old screen) other)

module _ (plant : PlantData) (old new : Due) (display : ℕ) (row : Row) (change : Bool → Bool → Bool) (are : AreDueOf plant old) (below : display < length plant.displays) (stays : (b : Bool) → change false b ≡ b)
    (is : ChangesAt old new (screen_at plant display) row (position_of old display) change) where
  here : row_of new (screen_at plant display) ≡ row
  here = ap (λ rows. get_or rows (screen_at plant display) []) is.rows ∙ get_or-set_same old.rows (screen_at plant display) row [] (screen_within plant old display are below)

  elsewhere : (screen : ℕ) → screen ≢ screen_at plant display → row_of new screen ≡ row_of old screen
  elsewhere screen apart = ap (λ rows. get_or rows screen []) is.rows ∙ get_or-set_other old.rows (screen_at plant display) screen row [] apart

  same_positions : (other : ℕ) → position_of new other ≡ position_of old other
  same_positions other = ap (λ positions. get_or positions other 0) is.positions

  -- what a row has at a position
  pub changed_has : (screen position : ℕ) → has_at (row_of new screen) position ≡ change ((screen == screen_at plant display) && (position == position_of old display)) (has_at (row_of old screen) position)
  changed_has screen position = elim (cases_eq screen (screen_at plant display)) [
    | inl same ↦
        ap (λ n. has_at (row_of new n) position) same ∙ ap (λ r. has_at r position) here ∙ is.each position
        ∙ ap (λ n. change (position == position_of old display) (has_at (row_of old n) position)) (sym same)
        ∙ ap (λ b. change (b && (position == position_of old display)) (has_at (row_of old screen) position)) (sym (eq-eqb screen (screen_at plant display) same))
    | inr apart ↦
        ap (λ r. has_at r position) (elsewhere screen apart) ∙ sym (stays (has_at (row_of old screen) position))
        ∙ ap (λ b. change (b && (position == position_of old display)) (has_at (row_of old screen) position)) (sym (ne_eqb screen (screen_at plant display) apart))
  ]

  pub changed_each : (other : ℕ) → other < length plant.displays → is_due plant new other ≡ change (other == display) (is_due plant old other)
  changed_each other beneath =
      ap (has_at (row_of new (screen_at plant other))) (same_positions other) ∙ changed_has (screen_at plant other) (position_of old other)
      ∙ ap (λ b. change b (is_due plant old other)) both
    where
      both : ((screen_at plant other == screen_at plant display) && (position_of old other == position_of old display)) ≡ (other == display)
      both = elim (cases_eq other display) [
        | inl same ↦
            ap (λ b. b && (position_of old other == position_of old display)) (eq-eqb (screen_at plant other) (screen_at plant display) (ap (screen_at plant) same))
            ∙ eq-eqb (position_of old other) (position_of old display) (ap (position_of old) same)
            ∙ sym (eq-eqb other display same)
        | inr apart ↦ elim (cases_eq (screen_at plant other) (screen_at plant display)) [
          | inl one ↦
              ap (λ b. b && (position_of old other == position_of old display)) (eq-eqb (screen_at plant other) (screen_at plant display) one)
              ∙ ne_eqb (position_of old other) (position_of old display) (λ two. apart (same_stand plant old other display are beneath below one two))
              ∙ sym (ne_eqb other display apart)
          | inr two ↦
              ap (λ b. b && (position_of old other == position_of old display)) (ne_eqb (screen_at plant other) (screen_at plant display) two)
              ∙ sym (ne_eqb other display apart)
        ]
      ]

  -- a position is taken only by what the change says
  pub changed_are : ((screen position : ℕ) → has_at (row_of new screen) position ≡ true → position < length (displays_of plant screen)) → AreNoted new → AreDueOf plant new
  changed_are within noted = record {
    count = ap length is.positions ∙ are.count;
    listed = λ other beneath. ap (slice_get (displays_of plant (screen_at plant other))) (same_positions other) ∙ are.listed other beneath;
    placed = λ screen position other there.
        let stands = are.placed screen position other there in
        record { below = stands.below; on = stands.on; at = same_positions other ∙ stands.at };
    room = λ screen. elim (cases_eq screen (screen_at plant display)) [
      | inl same ↦
          let many : length (row_of new screen) ≡ length (row_of old screen) = ap (λ n. length (row_of new n)) same ∙ ap length here ∙ is.count ∙ ap (λ n. length (row_of old n)) (sym same) in
          omega (arith, many, are.room screen)
      | inr apart ↦ omega (arith, ap length (elsewhere screen apart), are.room screen)
    ];
    few = omega (arith, ap length is.rows, length-set old.rows (screen_at plant display) row, are.few);
    within = within;
    noted = noted;
    watched = rw (is.lasts, is.befores) are.watched;
  }

-- a display became due
pub added : (plant : PlantData) (old new : Due) (display : ℕ) (row : Row) → AreDueOf plant old → display < length plant.displays → ChangesAt old new (screen_at plant display) row (position_of old display) (λ a b. a || b) →
    new.screens ≡ insert old.screens (screen_at plant display) → BecomeDue plant old new (λ other. other == display)
added plant old new display row are below is noted = record {
  kept = changed_are plant old new display row (λ a b. a || b) are below (λ b. refl) is within notes;
  each = changed_each plant old new display row (λ a b. a || b) are below (λ b. refl) is;
}
  where
    or_was : (screen position : ℕ) (a b : Bool) → (screen == screen_at plant display) ≡ a → (position == position_of old display) ≡ b → ((a && b) || has_at (row_of old screen) position) ≡ true → (has_at (row_of old screen) position ≡ true → position < length (displays_of plant screen)) → position < length (displays_of plant screen)
    or_was screen position true true s p holds was =
        let at : slice_get (displays_of plant screen) position ≡ Some display =
        ap (λ n. slice_get (displays_of plant n) position) (eqb-true screen (screen_at plant display) s) ∙ ap (slice_get (displays_of plant (screen_at plant display))) (eqb-true position (position_of old display) p) ∙ are.listed display below in
        slice_get_within (displays_of plant screen) position display at
    or_was screen position true false s p holds was = was holds
    or_was screen position false b s p holds was = was holds

    within : (screen position : ℕ) → has_at (row_of new screen) position ≡ true → position < length (displays_of plant screen)
    within screen position holds =
        or_was screen position (screen == screen_at plant display) (position == position_of old display) refl refl
        (sym (changed_has plant old new display row (λ a b. a || b) are below (λ b. refl) is screen position) ∙ holds) (are.within screen position)

    or_noted : (screen position : ℕ) (a b : Bool) → (screen == screen_at plant display) ≡ a → ((a && b) || has_at (row_of old screen) position) ≡ true → (a || contains old.screens screen) ≡ true
    or_noted screen position true b s holds = refl
    or_noted screen position false b s holds = (are.noted screen).1 (position, holds)

    has : (screen position : ℕ) → has_at (row_of new screen) position ≡ (((screen == screen_at plant display) && (position == position_of old display)) || has_at (row_of old screen) position)
    has = changed_has plant old new display row (λ a b. a || b) are below (λ b. refl) is

    now_noted : (screen : ℕ) → contains new.screens screen ≡ ((screen == screen_at plant display) || contains old.screens screen)
    now_noted screen = ap (λ (s : Numbers). contains s screen) noted ∙ contains_inserted old.screens (screen_at plant display) screen

    some : (screen : ℕ) (a : Bool) → (screen == screen_at plant display) ≡ a → (a || contains old.screens screen) ≡ true → (position : ℕ) × (has_at (row_of new screen) position ≡ true)
    some screen true s holds = (
      position_of old display,
      has screen (position_of old display) ∙ ap (λ b. (b && (position_of old display == position_of old display)) || has_at (row_of old screen) (position_of old display)) s
          ∙ ap (λ b. b || has_at (row_of old screen) (position_of old display)) (eq-eqb (position_of old display) (position_of old display) refl),
    )
    some screen false s holds =
        let found = (are.noted screen).0 holds in
        (found.0, has screen found.0 ∙ ap (λ b. (b && (found.0 == position_of old display)) || has_at (row_of old screen) found.0) s ∙ found.1)

    notes : AreNoted new
    notes screen = (
      λ holds. some screen (screen == screen_at plant display) refl (sym (now_noted screen) ∙ holds),
      λ found. now_noted screen ∙ or_noted screen found.0 (screen == screen_at plant display) (found.0 == position_of old display) refl (sym (has screen found.0) ∙ found.1),
    )

-- a display isn't due any more
pub lost : (plant : PlantData) (old new : Due) (display : ℕ) (row : Row) → AreDueOf plant old → display < length plant.displays → ChangesAt old new (screen_at plant display) row (position_of old display) (λ a b. not a && b) → AreNotedBut old new (screen_at plant display) row → LosesDue plant old new display
lost plant old new display row are below is noted = record {
  kept = changed_are plant old new display row (λ a b. not a && b) are below (λ b. refl) is within notes;
  each = changed_each plant old new display row (λ a b. not a && b) are below (λ b. refl) is;
}
  where
    was : (screen position : ℕ) → has_at (row_of new screen) position ≡ true → has_at (row_of old screen) position ≡ true
    was screen position holds =
        (true_and (not ((screen == screen_at plant display) && (position == position_of old display))) (has_at (row_of old screen) position)
        (sym (changed_has plant old new display row (λ a b. not a && b) are below (λ b. refl) is screen position) ∙ holds)).1

    within : (screen position : ℕ) → has_at (row_of new screen) position ≡ true → position < length (displays_of plant screen)
    within screen position holds = are.within screen position (was screen position holds)

    here_row : row_of new (screen_at plant display) ≡ row
    here_row = here plant old new display row (λ a b. not a && b) are below (λ b. refl) is

    kept : (screen position : ℕ) → has_at (row_of new screen) position ≡ true → contains new.screens screen ≡ true
    kept screen position holds = elim (noted.still screen ((are.noted screen).1 (position, was screen position holds))) [
      | inl still ↦ still
      | inr gone ↦
          absurd (both_ways (has_at (row_of new screen) position)
          (ap (λ n. has_at (row_of new n) position) gone.0 ∙ ap (λ r. has_at r position) here_row ∙ gone.1 position) holds)
    ]

    some : (screen : ℕ) → contains new.screens screen ≡ true → (position : ℕ) × (has_at (row_of new screen) position ≡ true)
    some screen holds = elim (cases_eq screen (screen_at plant display)) [
      | inl same ↦
          let found = noted.some (ap (contains new.screens) (sym same) ∙ holds) in
          (found.0, ap (λ n. has_at (row_of new n) found.0) same ∙ ap (λ r. has_at r found.0) here_row ∙ found.1)
      | inr apart ↦
          let found = (are.noted screen).0 (noted.was screen holds) in
          (found.0, ap (λ r. has_at r found.0) (elsewhere plant old new display row (λ a b. not a && b) are below (λ b. refl) is screen apart) ∙ found.1)
    ]

    notes : AreNoted new
    notes screen = (some screen, λ found. kept screen found.0 found.1)

-- the first display that is due
pub first_due : (plant : PlantData) (due : Due) (screen : ℕ) (found : Option ℕ) → AreDueOf plant due → IsLowestOf (row_of due screen) found → IsFirstDue plant due screen found
first_due plant due screen found are is = record {
  within = λ position at. are.within screen position (is.there position at);
  is = λ position display at there. due_there plant due screen position display are there ∙ is.there position at;
  passed = λ position before at less display there. not_due before display there (λ holds. absurd (omega (arith, is.least position before at holds, less)));
  none = λ position at display there. not_due position display there (λ holds. is.none position at holds);
}
  where
    not_due : (position display : ℕ) → slice_get (displays_of plant screen) position ≡ Some display → (has_at (row_of due screen) position ≡ true → ⊥) → is_due plant due display ≡ false
    not_due position display there fails = due_there plant due screen position display are there ∙ by (has_at (row_of due screen) position) refl
      where
        by : (b : Bool) → has_at (row_of due screen) position ≡ b → b ≡ false
        by true holds = absurd (fails holds)
        by false off = refl

-- at first no display is due
pub start_due : (plant : PlantData) (screens : Screens) (due : Due) (count : ℕ) → IsPlant plant → AreScreensOf plant screens → All (λ (display : Display). display.screen < count) plant.displays → count ≤ 65536 →
    AreWatchersOf plant.displays due.lasts due.befores → ArePositionsOf plant count due.positions → AreRowsOf screens count due.rows → due.screens ≡ empty → AreDueOf plant due
start_due plant screens due count is screened above most watched placed rowed none = record {
  count = placed.many;
  listed = λ display below.
      let at = on_screen plant display is below in
      let position : position_of due display ≡ at.position = placed.each (screen_at plant display) at.position display (screen_below display below) at.there in
      ap (slice_get (displays_of plant (screen_at plant display))) position ∙ at.there;
  placed = λ screen position display there.
      let of = of_screen plant screen position display is there in
      record {
        below = of.below;
        on = of.on;
        at = placed.each screen position display (omega (arith, screen_below display of.below, of.on)) there;
      };
  room = λ screen. elim (cases_lt screen count) [
    | inl within ↦ omega (arith, ap length (screened screen), rowed.room screen within)
    | inr past ↦ omega (arith, none_there screen past (displays_of plant screen) refl)
  ];
  few = omega (arith, rowed.many, most);
  within = λ screen position holds. absurd (both_ways (has_at (row_of due screen) position) (rowed.none screen position) holds);
  noted = λ screen. (
    λ holds. absurd (both_ways (contains due.screens screen) (ap (λ (s : Numbers). contains s screen) none ∙ contains-empty nat_cmp screen) holds),
    λ found. absurd (both_ways (has_at (row_of due screen) found.0) (rowed.none screen found.0) found.1),
  );
  watched = watched;
}
  where
    screen_below : (display : ℕ) → display < length plant.displays → screen_at plant display < count
    screen_below display below = by plant.displays display below above
      where
        by : (list : List Display) (n : ℕ) → n < length list → All (λ (display : Display). display.screen < count) list → option_map_or (λ (found : Display). found.screen) (slice_get list n) 0 < count
        by [] n within all = absurd (omega (arith, within))
        by (x ∷ list) zero within all = all 0 x within
        by (x ∷ list) (suc n) within all = by list n (omega (arith, within)) (λ k d inside. all (suc k) d (omega (arith, inside)))

    none_there : (screen : ℕ) → count ≤ screen → (list : List ℕ) → displays_of plant screen ≡ list → length list ≡ 0
    none_there screen past [] these = refl
    none_there screen past (display ∷ list) these =
        let of = of_screen plant screen 0 display is (ap (λ list. slice_get list 0) these) in
        absurd (omega (arith, screen_below display of.below, of.on, past))

-- ---- what a body reads

pub read_screen : (plant : PlantData) (display number : ℕ) (list : List Display) (d : Display) → list ≡ plant.displays → number ≡ display → display < length plant.displays → (get_or list number d).screen ≡ screen_at plant display
read_screen plant display number list d these same below =
    ap (λ (list : List Display). (get_or list number d).screen) these ∙ ap (λ n. (get_or plant.displays n d).screen) same
    ∙ sym (ap (λ found. option_map_or (λ (found : Display). found.screen) found 0) (slice_get-get_or plant.displays display d below))

pub read_position : (plant : PlantData) (due : Due) (display number position : ℕ) → AreDueOf plant due → display < length plant.displays → number ≡ display → position ≡ get_or due.positions number position → position ≡ position_of due display
read_position plant due display number position are below same is =
    get_or_read due.positions display position (omega (arith, below, are.count)) (is ∙ ap (λ n. get_or due.positions n position) same) 0

pub read_row : (plant : PlantData) (due : Due) (display screen : ℕ) (row : Row) → AreDueOf plant due → display < length plant.displays → screen ≡ screen_at plant display → row ≡ get_or due.rows screen row → row ≡ row_of due (screen_at plant display)
read_row plant due display screen row are below same is =
    get_or_read due.rows (screen_at plant display) row (screen_within plant due display are below) (is ∙ ap (λ n. get_or due.rows n row) same) []
