-- What the code finds in a line, field by field.
use Rattle.std.specs.Prelude.{◌≡◌, ◌⊎◌, ℕ, ◌+◌, ◌-◌, ◌*◌, ◌<◌, ◌≤◌, nat_lt, if◌then◌else◌, true, List, ◌∷◌, ◌++◌, All, length, slice_index_or}
use Rattle.std.specs.Int.{IsInRange}
use Rattle.std.specs.Fmt.{decimal}
use Rattle.hex.specs.Hex.{encode_upper}
use Rattle.line_text.specs.Cut.{space}
use Rattle.swp08_messages.specs.declared.message.Message.{Message}
use Rattle.swp08_messages.specs.Text.{text as text_of}
use Rattle.plant_config.specs.Plant.{PlantData}
use Rattle.plant_config.specs.Screens.{has_screen}
use Rattle.plant_core.specs.State.{FitsPlant, IsForPlant}
use Rattle.plant_core.specs.declared.request.Request.{Request}
use Rattle.trace_lines.specs.TraceLine.{trace_limit, request_text}
use Rattle.trace_lines.specs.Trace.{HasTraceNumbers}

-- A text is the one spelling of a number that a trace may have.
pub record IsNumber (text : List ℕ) (number : ℕ) : Type 0 where
  pub text_is : text ≡ decimal number
  pub most : number ≤ trace_limit

-- A text begins with a zero and goes on.
pub record HasSpareZero (text : List ℕ) : Type 0 where
  pub goes_on : 1 < length text
  pub zero_first : slice_index_or text 0 0 ≡ 48

-- A byte is a digit of upper-case hexadecimal.
abbrev pub IsUpperDigit : ℕ → Type 0
IsUpperDigit byte = IsInRange 48 57 byte ⊎ IsInRange 65 70 byte

-- the value of a digit of upper-case hexadecimal, 255 where a byte is none
unfoldable pub hex_value : ℕ → ℕ
hex_value byte =
    if nat_lt byte 48 then 255
    else if nat_lt byte 58 then byte - 48
    else if nat_lt byte 65 then 255
    else if nat_lt byte 71 then byte - 55
    else 255

-- the byte at a place, by its two digits
abbrev pub pair_value : List ℕ → ℕ → ℕ
pair_value digits place =
    16 * hex_value (slice_index_or digits (2 * place) 0)
    + hex_value (slice_index_or digits (2 * place + 1) 0)

-- A text is the upper-case hexadecimal of bytes.
pub record IsHex (text : List ℕ) : Type 0 where
  pub bytes : List ℕ
  pub each : All (λ byte. byte < 256) bytes
  pub text_is : text ≡ encode_upper bytes

-- A text is the canonical DATA of a message for the plant, in hexadecimal.
pub record IsMessageText (text : List ℕ) (message : Message) : Type 0 where
  pub for_plant : IsForPlant message
  pub text_is : text ≡ encode_upper (text_of message)

-- A text begins with a number and a space, and this is behind them.
pub record BeginsWithNumber (text : List ℕ) (number : ℕ) (behind : List ℕ) : Type 0 where
  pub place : text ≡ decimal number ++ space ∷ behind
  pub most : number ≤ trace_limit

-- It is the number of a panel of the plant.
pub record BeginsWithPanel (plant : PlantData) (text : List ℕ) (panel : ℕ) (behind : List ℕ)
    : Type 0 where
  pub number : BeginsWithNumber text panel behind
  pub has_panel : panel < length plant.panels

-- It is the number of a screen that a display of the plant is on.
pub record BeginsWithScreen (plant : PlantData) (text : List ℕ) (screen : ℕ) (behind : List ℕ)
    : Type 0 where
  pub number : BeginsWithNumber text screen behind
  pub has_screen : has_screen plant screen ≡ true

-- A text begins with the canonical DATA of a message for the plant, in hexadecimal, and a space.
pub record BeginsWithMessage (text : List ℕ) (message : Message) (behind : List ℕ) : Type 0 where
  pub place : text ≡ encode_upper (text_of message) ++ space ∷ behind
  pub for_plant : IsForPlant message

-- A request that fits a plant, with what stands behind its text.
pub record BeginsWithRequest (plant : PlantData) (text : List ℕ) (request : Request)
    (behind : List ℕ) : Type 0 where
  pub place : text ≡ request_text request ++ space ∷ behind
  pub numbers : HasTraceNumbers request
  pub fits : FitsPlant plant request
