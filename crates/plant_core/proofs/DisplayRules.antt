-- The text of what a valid state's displays were last shown breaks no rule.
use Rattle.std.proofs.Common.{◌≡◌, ℕ, ◌+◌, ◌<◌, ◌≤◌, ◌==◌, ◌||◌, nat_le, Bool, true, false, if◌then◌else◌, List, [], ◌∷◌, ◌++◌, length, get_or, is_none, Option, Some, None, IfSome, inl, inr, refl, ap, sym, subst, ◌∙◌, arith, eq-eqb}
use Rattle.std.proofs.lemmas.Bool.{le-leb}
use Rattle.std.proofs.lemmas.Option.{slice_get_cases}
use Rattle.std.specs.Prelude.{slice_get}
use Rattle.std.specs.Option.{option_map_or}
use Rattle.plant_config.specs.declared.records.Display.{Display}
use Rattle.plant_config.specs.IsPlant.{IsPlant}
use Rattle.plant_config.specs.Plant.{PlantData}
use Rattle.change_boards.specs.Shown.{last}
use Rattle.change_boards.specs.declared.value.Value.{Value}
use Rattle.plant_core.specs.State.{State, IsValid, IsCrosspoint, CanHave}
use Rattle.plant_core.specs.StateText.{bit, four_or_none, display_text}
use Rattle.plant_core.specs.StateFields.{byte_at, four_at, some_four_at, place_of_display}
use Rattle.plant_core.specs.StateFault.{first_broken, is_of_level, was_shown, shown_source_in, watch_at, shown_source_holds, most_lamp, display_fields}
use Rattle.plant_core.specs.ReadInside.{part}
use Rattle.plant_core.proofs.TextParts.{part_within, byte_within, four_is, some_four_is}
use Rattle.plant_core.proofs.TextPlaces.{StandIn}
use Rattle.plant_core.proofs.TextRules.{crosspoint_level, holds_before}
use Rattle.plant_core.proofs.DestRules.{source_small}
use Rattle.plant_core.proofs.PanelRules.{few_of_bit}

-- the source within a display's text, and its lamps
source_part : (source : Option ℕ) (air preview : ℕ) → part (1 ∷ four_or_none source ++ air ∷ preview ∷ []) 1 4 ≡ four_or_none source
unfolding part
source_part None air preview = refl
source_part (Some source) air preview = refl

air_byte : (source : Option ℕ) (air preview : ℕ) → get_or (1 ∷ four_or_none source ++ air ∷ preview ∷ []) 5 0 ≡ air
air_byte None air preview = refl
air_byte (Some source) air preview = refl

preview_byte : (source : Option ℕ) (air preview : ℕ) → get_or (1 ∷ four_or_none source ++ air ∷ preview ∷ []) 6 0 ≡ preview
preview_byte None air preview = refl
preview_byte (Some source) air preview = refl

-- what equals a number is at most what that is
at_most : (number value most : ℕ) → number ≡ value → value ≤ most → number ≤ most
at_most number value most is few = subst (λ (n : ℕ). n ≤ most) (sym is) few

-- the rules of one display, of the bytes at its place
record KeepsRules (plant : PlantData) (bytes : List ℕ) (display : ℕ) : Type 0 where
  pub shown : was_shown plant bytes display ≤ 1
  pub source : shown_source_holds plant bytes display ≡ true
  pub air : byte_at bytes (place_of_display plant display + 5) ≤ most_lamp plant bytes display
  pub preview : byte_at bytes (place_of_display plant display + 6) ≤ most_lamp plant bytes display

-- nothing was shown
unshown_source : (plant : PlantData) (bytes : List ℕ) (display : ℕ) → was_shown plant bytes display ≡ 0 → four_at bytes (place_of_display plant display + 1) ≡ 0 → shown_source_holds plant bytes display ≡ true
unfolding shown_source_holds
unshown_source plant bytes display none zero_is =
    let other = option_map_or (is_of_level plant (watch_at plant display)) (shown_source_in plant bytes display) true in
    ap (λ (shown : ℕ). if shown == 0 then four_at bytes (place_of_display plant display + 1) == 0 else other) none
    ∙ eq-eqb (four_at bytes (place_of_display plant display + 1)) 0 zero_is

nothing_shown : (bytes : List ℕ) (plant : PlantData) (display : ℕ) → part bytes (place_of_display plant display) 7 ≡ display_text None → KeepsRules plant bytes display
unfolding was_shown part
nothing_shown bytes plant display stands =
    let place = place_of_display plant display in
    let shown : byte_at bytes place ≡ 0 = byte_within bytes (display_text None) place 7 place 0 stands (omega arith) (omega arith) in
    let source : four_at bytes (place + 1) ≡ 0 = four_is bytes (place + 1) 0 (omega arith) (part_within bytes (display_text None) place 7 (place + 1) 1 4 stands refl (omega arith)) in
    let air : byte_at bytes (place + 5) ≡ 0 = byte_within bytes (display_text None) place 7 (place + 5) 5 stands refl (omega arith) in
    let preview : byte_at bytes (place + 6) ≡ 0 = byte_within bytes (display_text None) place 7 (place + 6) 6 stands refl (omega arith) in
    record {
      shown = at_most (byte_at bytes place) 0 1 shown (omega arith);
      source = unshown_source plant bytes display shown source;
      air = at_most (byte_at bytes (place + 5)) 0 (most_lamp plant bytes display) air (omega arith);
      preview = at_most (byte_at bytes (place + 6)) 0 (most_lamp plant bytes display) preview (omega arith);
    }

-- a value was shown
shown_source : (plant : PlantData) (bytes : List ℕ) (display : ℕ) → was_shown plant bytes display ≡ 1 → option_map_or (is_of_level plant (watch_at plant display)) (shown_source_in plant bytes display) true ≡ true → shown_source_holds plant bytes display ≡ true
unfolding shown_source_holds
shown_source plant bytes display one holds =
    let other = option_map_or (is_of_level plant (watch_at plant display)) (shown_source_in plant bytes display) true in
    ap (λ (shown : ℕ). if shown == 0 then four_at bytes (place_of_display plant display + 1) == 0 else other) one ∙ holds

lamp_by : (source : Option ℕ) (lit : Bool) → (source ≡ None → lit ≡ false) → bit lit ≤ (if 1 == 0 || is_none source then 0 else 1)
lamp_by None lit dark = at_most (bit lit) 0 0 (ap bit (dark refl)) (omega arith)
lamp_by (Some source) lit dark = few_of_bit lit

lamp_most : (plant : PlantData) (bytes : List ℕ) (display : ℕ) (source : Option ℕ) (lit : Bool) → was_shown plant bytes display ≡ 1 → shown_source_in plant bytes display ≡ source → (source ≡ None → lit ≡ false) → bit lit ≤ most_lamp plant bytes display
unfolding most_lamp
lamp_most plant bytes display source lit one is dark =
    let same : (if was_shown plant bytes display == 0 || is_none (shown_source_in plant bytes display) then 0 else 1) ≡ (if 1 == 0 || is_none source then 0 else 1) =
    ap (λ (shown : ℕ). let most : ℕ = if shown == 0 || is_none (shown_source_in plant bytes display) then 0 else 1 in most) one
    ∙ ap (λ (source : Option ℕ). let most : ℕ = if 1 == 0 || is_none source then 0 else 1 in most) is in
    subst (λ (most : ℕ). bit lit ≤ most) (sym same) (lamp_by source lit dark)

level_of : (plant : PlantData) (dest : ℕ) (source : Option ℕ) → IsPlant plant → IfSome source (IsCrosspoint plant dest) → option_map_or (is_of_level plant dest) source true ≡ true
level_of plant dest None is at = refl
level_of plant dest (Some source) is at = crosspoint_level plant dest source is at

watched : (plant : PlantData) (display : ℕ) (found : Display) → slice_get plant.displays display ≡ Some found → watch_at plant display ≡ found.watch
unfolding watch_at
watched plant display found is = ap (λ (o : Option Display). option_map_or (λ (found : Display). found.watch) o 0) is

value_shown : (bytes : List ℕ) (plant : PlantData) (display : ℕ) (found : Display) (value : Value) → IsPlant plant → slice_get plant.displays display ≡ Some found → CanHave plant found.watch value → part bytes (place_of_display plant display) 7 ≡ display_text (Some value) → KeepsRules plant bytes display
unfolding was_shown shown_source_in
value_shown bytes plant display found value is there can stands =
    let place = place_of_display plant display in
    let text = display_text (Some value) in
    let shown : byte_at bytes place ≡ 1 = byte_within bytes text place 7 place 0 stands (omega arith) (omega arith) in
    let source : some_four_at bytes (place + 1) ≡ value.source =
    some_four_is bytes (place + 1) value.source (source_small plant found.watch value.source is can.source) (part_within bytes text place 7 (place + 1) 1 4 stands refl (omega arith) ∙ source_part value.source (bit value.air) (bit value.preview)) in
    let air : byte_at bytes (place + 5) ≡ bit value.air = byte_within bytes text place 7 (place + 5) 5 stands refl (omega arith) ∙ air_byte value.source (bit value.air) (bit value.preview) in
    let preview : byte_at bytes (place + 6) ≡ bit value.preview = byte_within bytes text place 7 (place + 6) 6 stands refl (omega arith) ∙ preview_byte value.source (bit value.air) (bit value.preview) in
    let of_level : option_map_or (is_of_level plant (watch_at plant display)) (some_four_at bytes (place + 1)) true ≡ true =
    ap (λ (o : Option ℕ). option_map_or (is_of_level plant (watch_at plant display)) o true) source
    ∙ ap (λ (dest : ℕ). option_map_or (is_of_level plant dest) value.source true) (watched plant display found there)
    ∙ level_of plant found.watch value.source is can.source in
    record {
      shown = at_most (byte_at bytes place) 1 1 shown (omega arith);
      source = shown_source plant bytes display shown of_level;
      air = at_most (byte_at bytes (place + 5)) (bit value.air) (most_lamp plant bytes display) air (lamp_most plant bytes display value.source value.air shown source (λ none. (can.parked none).0));
      preview = at_most (byte_at bytes (place + 6)) (bit value.preview) (most_lamp plant bytes display) preview (lamp_most plant bytes display value.source value.preview shown source (λ none. (can.parked none).1));
    }

any_shown : (bytes : List ℕ) (state : State) (display : ℕ) (value : Option Value) → IsValid state → display < length state.plant.displays → last state.shown display ≡ value → part bytes (place_of_display state.plant display) 7 ≡ display_text value → KeepsRules state.plant bytes display
any_shown bytes state display None is below was stands = nothing_shown bytes state.plant display stands
any_shown bytes state display (Some value) is below was stands = elim ((slice_get_cases state.plant.displays display).1) [
  | inl found ↦ value_shown bytes state.plant display found.0 value is.is_plant found.2 (is.shown.each display found.0 value found.2 was) stands
  | inr past ↦ let high = past.0 in absurd (omega arith)
]

pub display_whole : (bytes : List ℕ) (state : State) (display : ℕ) → IsValid state → StandIn bytes state → display < length state.plant.displays → first_broken (display_fields state.plant bytes display) ≡ None
unfolding display_fields
display_whole bytes state display is stand below =
    let plant = state.plant in
    let keeps = any_shown bytes state display (last state.shown display) is below refl (stand.display display below) in
    let place = place_of_display plant display in
    let most = most_lamp plant bytes display in
    holds_before place (nat_le (was_shown plant bytes display) 1) _ (le-leb (was_shown plant bytes display) 1 keeps.shown)
    (holds_before (place + 1) (shown_source_holds plant bytes display) _ keeps.source
    (holds_before (place + 5) (nat_le (byte_at bytes (place + 5)) most) _ (le-leb (byte_at bytes (place + 5)) most keeps.air)
    (holds_before (place + 6) (nat_le (byte_at bytes (place + 6)) most) None (le-leb (byte_at bytes (place + 6)) most keeps.preview) refl)))
