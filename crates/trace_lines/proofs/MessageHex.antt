-- The DATA of a message in hexadecimal.
use Rattle.std.proofs.Common.{ℕ, ◌≤◌, List, length, refl, ap, ◌∙◌, lit≤, arith}
use Rattle.hex.specs.Hex.{encode_upper, upper_digits}
use Rattle.hex.proofs.HexLemmas.{length-encode_with}
use Rattle.swp08_messages.specs.declared.message.Message.{Message}
use Rattle.swp08_messages.specs.declared.message.Message.TheVariants.{Interrogate}
use Rattle.swp08_messages.specs.Text.{text}
use Rattle.swp08_messages.proofs.SpelledLemmas.{All-text}
use Rattle.plant_core.specs.State.{IsForPlant}
use Rattle.trace_lines.specs.LineInside.{IsHex, IsMessageText}

pub message_hex : (message : Message) → IsForPlant message → IsHex (encode_upper (text message))
message_hex message is = record { bytes = text message; each = All-text message is.1; text_is = refl }

pub text_hex : (digits : List ℕ) (message : Message) → IsMessageText digits message → IsHex digits
text_hex digits message is = record { bytes = text message; each = All-text message is.for_plant.1; text_is = is.text_is }

-- A message has few bytes.
few_bytes : (message : Message) → length (text message) ≤ 8
few_bytes (Interrogate at) = lit≤ tt
few_bytes _ = lit≤ tt

pub few_digits : (digits : List ℕ) (message : Message) → IsMessageText digits message → length digits ≤ 16
few_digits digits message is =
    let len = ap length is.text_is ∙ length-encode_with upper_digits (text message) in
    let few = few_bytes message in
    omega (arith, len, few)
