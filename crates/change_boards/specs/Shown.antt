-- What each display was last shown.
use Rattle.std.specs.Prelude.{ℕ, nat_eq, Bool, not, ◌&&◌, List, [], ◌∷◌, replicate, slice_index_or, slice_set, Option, Some, None, refl}
use Rattle.std.specs.Option.{option_eq}
use Rattle.std.specs.Bool.{beq}
use Rattle.std.specs.Coded.{Coded, code_by, coded×, coded_ℕ, coded_bool, coded_option, coded_list}
use Rattle.change_boards.specs.declared.value.Value.{Value}

-- a value is stored as its fields
abbrev pub value_code : Coded Value
value_code =
    code_by (Option ℕ × (Bool × Bool))
    (coded× (coded_option coded_ℕ) (coded× coded_bool coded_bool))
    (λ value. (value.source, (value.air, value.preview)))
    (λ fields. record { source = fields.0; air = fields.1.0; preview = fields.1.1 }) (λ _. refl)

-- whether two values are the same
abbrev pub is_same : Value → Value → Bool
is_same first second =
    option_eq nat_eq first.source second.source
    && beq first.air second.air && beq first.preview second.preview

-- the values that displays were last shown, in the order of the displays' numbers
abbrev pub Shown : Type 0
Shown = List (Option Value)

abbrev pub shown_code : Coded Shown
shown_code = coded_list (coded_option value_code)

-- so many displays of which none was shown a value
abbrev pub never_shown : ℕ → Shown
never_shown displays = replicate displays None

-- the value that a display was last shown, `None` where it was shown none
abbrev pub last : Shown → ℕ → Option Value
last shown display = slice_index_or shown display None

-- whether a display is to be shown a value: it was last shown another one, or none
abbrev pub differs : Shown → ℕ → Value → Bool
differs shown display value = not (option_eq is_same (last shown display) (Some value))

-- a display is shown a value
abbrev pub with_shown : Shown → ℕ → Value → Shown
with_shown shown display value = slice_set shown display (Some value)

-- these displays become such as were shown no value
abbrev pub with_forgotten : Shown → List ℕ → Shown
with_forgotten shown [] = shown
with_forgotten shown (display ∷ displays) =
    with_forgotten (slice_set shown display None) displays
