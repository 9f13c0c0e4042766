-- The number behind the last screen, and rows screen by screen.
use Rattle.std.proofs.Common.{◌≡◌, ℕ, ◌+◌, ◌<◌, ◌≤◌, false, List, [], ◌∷◌, ◌++◌, All, length, get_or, zero, suc, Option, Some, None, inl, inr, refl, sym, ap, subst, ◌∙◌, arith}
use Rattle.std.proofs.lemmas.Bool.{cases_eq, cases_lt}
use Rattle.std.proofs.lemmas.List.{get_or_past, length_push, get_or_push, get_or_default}
use Rattle.std.specs.FinSet.{contains-empty}
use Rattle.std.specs.Ordering.{nat_cmp}
use Rattle.plant_config.specs.declared.records.Display.{Display}
use Rattle.plant_config.specs.declared.records.Level.{Level}
use Rattle.plant_config.specs.Plant.{PlantData, dest_numbers, destinations_of}
use Rattle.plant_config.specs.IsPlant.{IsPlant, IsDisplay, IsSomeSo, IsMainDest}
use Rattle.plant_config.specs.Sites.{level_of, has_number}
use Rattle.plant_config.proofs.SiteLemmas.{dests_are, level_of-is, numbers_within}
use Rattle.change_boards.specs.Screens.{Screens, displays_at}
use Rattle.due_displays.specs.Row.{Row, has_at, row_room}
use Rattle.due_displays.specs.TablesInside.{AreRowsOf}

-- the screens of the first displays are below a count
abbrev pub AreAbove : List Display → ℕ → ℕ → Type 0
AreAbove displays first count = (place : ℕ) (d : Display) → place < first → place < length displays → (get_or displays place d).screen < count

pub above_more : (displays : List Display) (first : ℕ) (display : Display) (count more : ℕ) → display ≡ get_or displays first display → count ≤ more → display.screen < more → AreAbove displays first count → AreAbove displays (first + 1) more
above_more displays first display count more is grows below above place d inside within = elim (cases_eq place first) [
  | inl here ↦
      let same : get_or displays place d ≡ display = ap (λ n. get_or displays n d) here ∙ at first (omega (arith, within, here)) ∙ sym is in
      omega (arith, ap (λ (display : Display). display.screen) same, below)
  | inr apart ↦ omega (arith, above place d (omega (arith, inside, apart)) within, grows)
]
  where
    at : (n : ℕ) → n < length displays → get_or displays n d ≡ get_or displays n display
    at n within = get_or_default displays n d display within

pub above_all : (displays : List Display) (first count : ℕ) → length displays ≤ first → AreAbove displays first count → All (λ (display : Display). display.screen < count) displays
above_all displays first count all above place d within = above place d (omega (arith, all, within)) within

-- one row more
pub rows_more : (screens : Screens) (screen : ℕ) (rows : List Row) (row : Row) → length (displays_at screens screen) ≤ row_room row → ((position : ℕ) → has_at row position ≡ false) → AreRowsOf screens screen rows → AreRowsOf screens (screen + 1) (rows ++ row ∷ [])
rows_more screens screen rows row room none are = record {
  many = length_push rows row ∙ ap (λ n. n + 1) are.many;
  room = λ s below. elim (cases_eq s screen) [
    | inl here ↦ rw (here, get_or_push rows row [] screen are.many) room
    | inr apart ↦
        let earlier : s < length rows = omega (arith, below, apart, are.many) in
        rw (front rows s earlier) (are.room s (omega (arith, below, apart)))
  ];
  none = λ s position. elim (cases_lt s (length rows)) [
    | inl earlier ↦ ap (λ r. has_at r position) (front rows s earlier) ∙ are.none s position
    | inr later ↦ elim (cases_eq s (length rows)) [
      | inl here ↦ ap (λ r. has_at r position) (get_or_push rows row [] s (sym here)) ∙ none position
      | inr past ↦
          ap (λ r. has_at r position) (get_or_past (rows ++ row ∷ []) s [] (omega (arith, later, past, length_push rows row)) ∙ sym (get_or_past rows s [] later)) ∙ are.none s position
    ]
  ];
}
  where
    front : (xs : List Row) (n : ℕ) → n < length xs → get_or (xs ++ row ∷ []) n [] ≡ get_or xs n []
    front [] n below = absurd (omega (arith, below))
    front (x ∷ xs) zero below = refl
    front (x ∷ xs) (suc n) below = front xs n (omega (arith, below))

pub rows_none : (screens : Screens) → AreRowsOf screens 0 []
rows_none screens = record {
  many = refl;
  room = λ screen below. absurd (omega (arith, below));
  none = λ screen position. empty_none position;
}
  where
    empty_none : (position : ℕ) → has_at [] position ≡ false
    empty_none position = contains-empty nat_cmp _

-- the screen of a display of a plant is within its limit
pub screen_least : (plant : PlantData) → IsPlant plant → (place : ℕ) (display : Display) → place < length plant.displays → display ≡ get_or plant.displays place display → display.screen ≤ 65534
screen_least plant is place display within at = (subst (IsDisplay plant) (sym at) (is.linked.displays.1 place display within)).screen.1

-- and the destination that it watches
main_below : (plant : PlantData) → IsPlant plant → (dest : ℕ) → IsMainDest plant dest → dest < destinations_of plant
main_below plant is dest main = by (level_of dest_numbers plant dest) refl main
  where
    by : (found : Option Level) → level_of dest_numbers plant dest ≡ found → IsSomeSo found (λ at. at.level ≡ 0) → dest < destinations_of plant
    by None at main = absurd main
    by (Some level) at main =
        let among = level_of-is dest_numbers plant (dests_are plant is) dest level at in
        let within = numbers_within dest_numbers plant (dests_are plant is) (has_number dest_numbers dest) level at in
        omega (arith, among.high, within)

pub watch_below : (plant : PlantData) → IsPlant plant → (place : ℕ) (display : Display) → place < length plant.displays → display ≡ get_or plant.displays place display → display.watch < destinations_of plant
watch_below plant is place display within at = main_below plant is display.watch (subst (IsDisplay plant) (sym at) (is.linked.displays.1 place display within)).watch
