-- What a text tells that displays were last shown.
use Rattle.std.proofs.Common.{◌≡◌, ℕ, ◌+◌, ◌*◌, ◌<◌, ◌≤◌, ◌==◌, ◌||◌, zero, suc, Bool, true, false, if◌then◌else◌, List, [], ◌∷◌, ◌++◌, length, replicate, Option, Some, None, IfSome, is_none, inl, inr, refl, ap, sym, subst, ◌∙◌, arith}
use Rattle.std.specs.Prelude.{slice_get}
use Rattle.std.specs.Option.{option_map_or}
use Rattle.std.proofs.lemmas.Bool.{cases_eq}
use Rattle.std.proofs.lemmas.Bool.Decides.{nat_tests}
use Rattle.std.proofs.lemmas.List.{get_or-set_same, get_or-set_other, length-set, length-replicate}
use Rattle.std.proofs.lemmas.Option.{slice_get_within}
use Rattle.plant_config.specs.declared.records.Display.{Display}
use Rattle.plant_config.specs.Plant.{PlantData}
use Rattle.plant_config.specs.IsPlant.{IsPlant}
use Rattle.change_boards.specs.declared.value.Value.{Value}
use Rattle.change_boards.specs.Shown.{Shown, last, never_shown, with_shown}
use Rattle.plant_core.specs.State.{IsCrosspoint, CanHave, AreShown}
use Rattle.plant_core.specs.StateText.{four, bit, four_or_none, display_text, state_size}
use Rattle.plant_core.specs.StateFields.{byte_at, four_at, place_of_display}
use Rattle.plant_core.specs.StateFault.{is_of_level, was_shown, shown_source_in, watch_at, shown_source_holds, most_lamp, first_fault}
use Rattle.plant_core.specs.ReadInside.{part, AreShownIn}
use Rattle.plant_core.specs.ReadParts.{shown_in}
use Rattle.plant_core.proofs.HoldLemmas.{was_shown_held, shown_source_held, air_held, preview_held}
use Rattle.plant_core.proofs.LevelLemmas.{level_crosspoint}
use Rattle.plant_core.proofs.PartLemmas.{AreBytes, part_byte, part_four, part_some_four, part_texts, parts_join}

-- the text of a display

shown_row : (bytes : List ℕ) (place first air preview : ℕ) (source : List ℕ) → place + 7 ≤ length bytes → first ≡ byte_at bytes place → source ≡ part bytes (place + 1) 4 → air ≡ byte_at bytes (place + 5) → preview ≡ byte_at bytes (place + 6) →
    first ∷ source ++ air ∷ preview ∷ [] ≡ part bytes place 7
shown_row bytes place first air preview source inside is of_source is_air is_preview =
    let one_byte : (number at : ℕ) → number ≡ byte_at bytes at → at < length bytes → number ∷ [] ≡ part bytes at 1 = λ number at same below. ap (λ (byte : ℕ). byte ∷ []) same ∙ part_byte bytes at below in
    parts_join bytes (first ∷ []) (source ++ air ∷ preview ∷ []) place (place + 1) 1 6 (one_byte first place is (omega (arith, inside)))
    (parts_join bytes source (air ∷ preview ∷ []) (place + 1) (place + 5) 4 2 of_source
    (parts_join bytes (air ∷ []) (preview ∷ []) (place + 5) (place + 6) 1 1 (one_byte air (place + 5) is_air (omega (arith, inside))) (one_byte preview (place + 6) is_preview (omega (arith, inside))) (omega arith)) (omega arith)) refl

zero_four : (bytes : List ℕ) (place : ℕ) → AreBytes bytes → place + 4 ≤ length bytes → four_at bytes place ≡ 0 → replicate 4 0 ≡ part bytes place 4
zero_four bytes place are inside zero_is =
    let same : four 0 ≡ four (four_at bytes place) = ap four (sym zero_is) in
    same ∙ part_four bytes place are inside

bit_of : (byte : ℕ) → byte ≤ 1 → bit (byte == 1) ≡ byte
bit_of zero few = refl
bit_of (suc zero) few = refl
bit_of (suc (suc byte)) few = absurd (omega (arith, few))

lamp_by : (dark : Bool) → (if dark then 0 else 1) ≤ 1
lamp_by true = omega arith
lamp_by false = omega arith

most_one : (plant : PlantData) (bytes : List ℕ) (display : ℕ) → most_lamp plant bytes display ≤ 1
unfolding most_lamp
most_one plant bytes display = lamp_by (was_shown plant bytes display == 0 || is_none (shown_source_in plant bytes display))

dark_by : (one two : Bool) → two ≡ true → ◌≡◌ {A = ℕ} (if one || two then 0 else 1) 0
dark_by true two is = refl
dark_by false true is = refl
dark_by false false is = absurd (cc)

unshown_by : (one two : Bool) → one ≡ true → ◌≡◌ {A = ℕ} (if one || two then 0 else 1) 0
unshown_by true two is = refl
unshown_by false two is = absurd (cc)

-- no lamp is lit where no source was shown, or nothing
most_dark : (plant : PlantData) (bytes : List ℕ) (display : ℕ) → shown_source_in plant bytes display ≡ None → most_lamp plant bytes display ≡ 0
unfolding most_lamp
most_dark plant bytes display none = dark_by (was_shown plant bytes display == 0) (is_none (shown_source_in plant bytes display)) (ap (λ (o : Option ℕ). is_none o) none)

most_unshown : (plant : PlantData) (bytes : List ℕ) (display : ℕ) → (was_shown plant bytes display == 0) ≡ true → most_lamp plant bytes display ≡ 0
unfolding most_lamp
most_unshown plant bytes display is = unshown_by (was_shown plant bytes display == 0) (is_none (shown_source_in plant bytes display)) is

unshown_source : (unshown zero_source holds : Bool) → unshown ≡ true → (if unshown then zero_source else holds) ≡ true → zero_source ≡ true
unshown_source true zero_source holds is all = all
unshown_source false zero_source holds is all = absurd (cc)

shown_source : (unshown zero_source holds : Bool) → unshown ≡ false → (if unshown then zero_source else holds) ≡ true → holds ≡ true
shown_source true zero_source holds is all = absurd (cc)
shown_source false zero_source holds is all = all

is_zero : (number : ℕ) → (number == 0) ≡ true → number ≡ 0
is_zero number is = grind (arith, nat_tests)

isnt_zero : (number : ℕ) → (number == 0) ≡ false → number ≤ 1 → 1 ≡ number
isnt_zero zero is few = absurd (cc)
isnt_zero (suc zero) is few = refl
isnt_zero (suc (suc number)) is few = absurd (omega (arith, few))

no_source : (plant : PlantData) (bytes : List ℕ) (display : ℕ) → (was_shown plant bytes display == 0) ≡ true → shown_source_holds plant bytes display ≡ true → four_at bytes (place_of_display plant display + 1) ≡ 0
unfolding shown_source_holds
no_source plant bytes display is holds =
    is_zero (four_at bytes (place_of_display plant display + 1))
    (unshown_source (was_shown plant bytes display == 0) (four_at bytes (place_of_display plant display + 1) == 0) (option_map_or (is_of_level plant (watch_at plant display)) (shown_source_in plant bytes display) true) is holds)

of_level : (plant : PlantData) (bytes : List ℕ) (display : ℕ) → (was_shown plant bytes display == 0) ≡ false → shown_source_holds plant bytes display ≡ true → option_map_or (is_of_level plant (watch_at plant display)) (shown_source_in plant bytes display) true ≡ true
unfolding shown_source_holds
of_level plant bytes display is holds =
    shown_source (was_shown plant bytes display == 0) (four_at bytes (place_of_display plant display + 1) == 0) (option_map_or (is_of_level plant (watch_at plant display)) (shown_source_in plant bytes display) true) is holds

was_byte : (plant : PlantData) (bytes : List ℕ) (display : ℕ) → was_shown plant bytes display ≡ byte_at bytes (place_of_display plant display)
unfolding was_shown
was_byte plant bytes display = refl

source_part : (plant : PlantData) (bytes : List ℕ) (display : ℕ) → AreBytes bytes → place_of_display plant display + 7 ≤ length bytes → four_or_none (shown_source_in plant bytes display) ≡ part bytes (place_of_display plant display + 1) 4
unfolding shown_source_in
source_part plant bytes display are inside = part_some_four bytes (place_of_display plant display + 1) are (omega (arith, inside))

-- the value of a display that was shown one
value_of : PlantData → List ℕ → ℕ → Value
value_of plant bytes display = record {
  source = shown_source_in plant bytes display;
  air = byte_at bytes (place_of_display plant display + 5) == 1;
  preview = byte_at bytes (place_of_display plant display + 6) == 1;
}

text_by : (plant : PlantData) (bytes : List ℕ) (display : ℕ) (unshown : Bool) → first_fault plant bytes ≡ None → AreBytes bytes → display < length plant.displays → place_of_display plant display + 7 ≤ length bytes → (was_shown plant bytes display == 0) ≡ unshown →
    display_text (if unshown then None else Some (value_of plant bytes display)) ≡ part bytes (place_of_display plant display) 7
unfolding value_of
text_by plant bytes display true none are below inside is =
    let place : ℕ = place_of_display plant display in
    let dark : most_lamp plant bytes display ≡ 0 = most_unshown plant bytes display is in
    shown_row bytes place 0 0 0 (replicate 4 0) inside (sym (is_zero (was_shown plant bytes display) is) ∙ was_byte plant bytes display)
    (zero_four bytes (place + 1) are (omega (arith, inside)) (no_source plant bytes display is (shown_source_held plant bytes display below none)))
    (omega (arith, dark, air_held plant bytes display below none)) (omega (arith, dark, preview_held plant bytes display below none))
text_by plant bytes display false none are below inside is =
    let place : ℕ = place_of_display plant display in
    let few : most_lamp plant bytes display ≤ 1 = most_one plant bytes display in
    shown_row bytes place 1 (bit (byte_at bytes (place + 5) == 1)) (bit (byte_at bytes (place + 6) == 1)) (four_or_none (shown_source_in plant bytes display)) inside
    (isnt_zero (was_shown plant bytes display) is (was_shown_held plant bytes display below none) ∙ was_byte plant bytes display)
    (source_part plant bytes display are inside)
    (bit_of (byte_at bytes (place + 5)) (omega (arith, few, air_held plant bytes display below none)))
    (bit_of (byte_at bytes (place + 6)) (omega (arith, few, preview_held plant bytes display below none)))

shown_text : (plant : PlantData) (bytes : List ℕ) (display : ℕ) → first_fault plant bytes ≡ None → AreBytes bytes → display < length plant.displays → place_of_display plant display + 7 ≤ length bytes → display_text (shown_in plant bytes display) ≡ part bytes (place_of_display plant display) 7
unfolding shown_in value_of
shown_text plant bytes display none are below inside = text_by plant bytes display (was_shown plant bytes display == 0) none are below inside refl

-- a value that was shown is one that the display can have

source_can : (plant : PlantData) (dest : ℕ) (source : Option ℕ) → IsPlant plant → option_map_or (is_of_level plant dest) source true ≡ true → IfSome source (IsCrosspoint plant dest)
source_can plant dest None is holds = tt
source_can plant dest (Some source) is holds = level_crosspoint plant dest source is holds

no_lamp : (byte : ℕ) → byte ≤ 0 → (byte == 1) ≡ false
no_lamp byte few = grind (arith, nat_tests)

can_by : (plant : PlantData) (bytes : List ℕ) (display : ℕ) (value : Value) (unshown : Bool) → IsPlant plant → first_fault plant bytes ≡ None → display < length plant.displays → (was_shown plant bytes display == 0) ≡ unshown →
    (if unshown then None else Some (value_of plant bytes display)) ≡ Some value → CanHave plant (watch_at plant display) value
unfolding value_of
can_by plant bytes display value true is none below unshown shown = absurd (cc)
can_by plant bytes display value false is none below unshown shown =
    let same : value_of plant bytes display ≡ value = (cc) in
    subst (CanHave plant (watch_at plant display)) same (record {
      source = source_can plant (watch_at plant display) (shown_source_in plant bytes display) is (of_level plant bytes display unshown (shown_source_held plant bytes display below none));
      parked = λ parked.
          let dark : most_lamp plant bytes display ≡ 0 = most_dark plant bytes display parked in (
            no_lamp (byte_at bytes (place_of_display plant display + 5)) (omega (arith, dark, air_held plant bytes display below none)),
            no_lamp (byte_at bytes (place_of_display plant display + 6)) (omega (arith, dark, preview_held plant bytes display below none)),
          );
    })

can_have : (plant : PlantData) (bytes : List ℕ) (display : ℕ) (value : Value) → IsPlant plant → first_fault plant bytes ≡ None → display < length plant.displays → shown_in plant bytes display ≡ Some value → CanHave plant (watch_at plant display) value
unfolding shown_in value_of
can_have plant bytes display value is none below shown = can_by plant bytes display value (was_shown plant bytes display == 0) is none below refl shown

watched : (plant : PlantData) (number : ℕ) (display : Display) → slice_get plant.displays number ≡ Some display → watch_at plant number ≡ display.watch
unfolding watch_at
watched plant number display found = rw found refl

-- all displays

-- What the displays below a count were shown is read, and those above were shown nothing.
pub record AreShownTo (plant : PlantData) (bytes : List ℕ) (shown : Shown) (count : ℕ) : Type 0 where
  pub all : length shown ≡ length plant.displays
  pub below : (display : ℕ) → display < count → last shown display ≡ shown_in plant bytes display
  pub above : (display : ℕ) → count ≤ display → last shown display ≡ None

never_last : (count display : ℕ) → last (never_shown count) display ≡ None
never_last zero display = refl
never_last (suc count) zero = refl
never_last (suc count) (suc display) = never_last count display

pub shown_none : (plant : PlantData) (bytes : List ℕ) (shown : Shown) → shown ≡ never_shown (length plant.displays) → AreShownTo plant bytes shown 0
shown_none plant bytes shown is = record {
  all = ap length is ∙ length-replicate (length plant.displays) None;
  below = λ display below. absurd (omega (arith, below));
  above = λ display above. ap (λ (s : Shown). last s display) is ∙ never_last (length plant.displays) display;
}

below_more : (plant : PlantData) (bytes : List ℕ) (old new : Shown) (display : ℕ) → AreShownTo plant bytes old display → last new display ≡ shown_in plant bytes display → ((n : ℕ) → (n ≡ display → ⊥) → last new n ≡ last old n) → (n : ℕ) → n < display + 1 → last new n ≡ shown_in plant bytes n
below_more plant bytes old new display to here others n below = elim (cases_eq n display) [
  | inl same ↦ subst (λ (at : ℕ). last new at ≡ shown_in plant bytes at) (sym same) here
  | inr other ↦ others n other ∙ to.below n (omega (arith, below, other))
]

shown_more : (plant : PlantData) (bytes : List ℕ) (old new : Shown) (display : ℕ) → AreShownTo plant bytes old display → length new ≡ length old → last new display ≡ shown_in plant bytes display → ((n : ℕ) → (n ≡ display → ⊥) → last new n ≡ last old n) → AreShownTo plant bytes new (display + 1)
shown_more plant bytes old new display to same here others = record {
  all = same ∙ to.all;
  below = below_more plant bytes old new display to here others;
  above = λ n above. others n (λ e. omega (arith, above, e)) ∙ to.above n (omega (arith, above));
}

-- a display that was shown a value, and one that was shown nothing
pub value_more : (plant : PlantData) (bytes : List ℕ) (shown : Shown) (display : ℕ) (value : Value) → display < length plant.displays → AreShownTo plant bytes shown display → Some value ≡ shown_in plant bytes display → AreShownTo plant bytes (with_shown shown display value) (display + 1)
value_more plant bytes shown display value below to is =
    shown_more plant bytes shown (with_shown shown display value) display to (length-set shown display (Some value))
    (get_or-set_same shown display (Some value) None (omega (arith, below, to.all)) ∙ is) (λ n other. get_or-set_other shown display n (Some value) None other)

pub nothing_more : (plant : PlantData) (bytes : List ℕ) (shown : Shown) (display : ℕ) → AreShownTo plant bytes shown display → None ≡ shown_in plant bytes display → AreShownTo plant bytes shown (display + 1)
nothing_more plant bytes shown display to is =
    shown_more plant bytes shown shown display to refl (to.above display (omega arith) ∙ is) (λ n other. refl)

are_shown : (plant : PlantData) (bytes : List ℕ) (shown : Shown) → IsPlant plant → first_fault plant bytes ≡ None → AreShownTo plant bytes shown (length plant.displays) → AreShown plant shown
are_shown plant bytes shown is none to = record {
  count = to.all;
  each = λ number display value found h.
      let below : number < length plant.displays = slice_get_within plant.displays number display found in
      subst (λ (dest : ℕ). CanHave plant dest value) (watched plant number display found) (can_have plant bytes number value is none below (sym (to.below number below) ∙ h));
}

pub shown_whole : (plant : PlantData) (bytes : List ℕ) (shown : Shown) (count : ℕ) → IsPlant plant → first_fault plant bytes ≡ None → length bytes ≡ state_size plant → AreBytes bytes → count ≡ length plant.displays → AreShownTo plant bytes shown count → AreShownIn plant bytes shown
shown_whole plant bytes shown count is none size are all read =
    let to : AreShownTo plant bytes shown (length plant.displays) = subst (AreShownTo plant bytes shown) all read in
    let displays : ℕ = length plant.displays in
    let seven : displays * 7 ≡ 7 * displays = omega arith in
    record {
      text =
          part_texts bytes (place_of_display plant 0) 7 displays (λ display. display_text (last shown display)) (λ display below.
          let same : place_of_display plant display ≡ place_of_display plant 0 + display * 7 = omega arith in
          ap display_text (to.below display below) ∙ shown_text plant bytes display none are below (omega (arith, size, below)) ∙ ap (λ (place : ℕ). part bytes place 7) same)
          ∙ ap (part bytes (place_of_display plant 0)) seven;
      are_shown = are_shown plant bytes shown is none to;
    }

-- what isn't some value is none
pub nothing_unless : (answer wanted : Option Value) → ((value : Value) → answer ≡ Some value → ⊥) → answer ≡ wanted → None ≡ wanted
nothing_unless None wanted other is = is
nothing_unless (Some value) wanted other is = absurd (other value refl)
