-- The line of an entry isn't too long, and what is written is read back.
use Rattle.std.proofs.Common.{ℕ, ◌<◌, ◌≤◌, true, false, List, [], ◌∷◌, ◌++◌, codes, length, All, refl, inl, inr, length-append, arith}
use Rattle.std.specs.Fmt.{decimal}
use Rattle.std.proofs.lemmas.Fmt.{length-decimal-le}
use Rattle.hex.specs.Hex.{encode_upper, upper_digits}
use Rattle.hex.proofs.HexLemmas.{length-encode_with}
use Rattle.swp08_messages.specs.declared.message.Message.{Message}
use Rattle.swp08_messages.specs.declared.message.Message.TheVariants.{Interrogate, Connect}
use Rattle.swp08_messages.specs.Text.{text}
use Rattle.plant_config.specs.Plant.{PlantData}
use Rattle.plant_config.specs.IsPlant.{IsPlant}
use Rattle.plant_core.specs.declared.request.Request.{Request}
use Rattle.plant_core.specs.declared.request.Request.TheVariants.{Told, Poll, Leave, DisplayPoll}
use Rattle.plant_core.specs.State.{FitsPlant}
use Rattle.line_text.specs.Cut.{longest_line}
use Rattle.trace_lines.specs.Laws.{WrittenIsRead}
use Rattle.trace_lines.specs.Trace.{HasTraceNumbers, IsReplyText}
use Rattle.trace_lines.specs.TraceLine.{trace_limit, request_text, told_bytes, entry_text}
use Rattle.trace_lines.proofs.ScreenLemmas.{screen_small, panel_small}

-- A reply is the text of one, and not too long.
pub record IsReply (reply : List ℕ) : Type 0 where
  pub text : IsReplyText reply
  pub most : length reply ≤ 49152

pub hex-reply : (bytes : List ℕ) → 1 ≤ length bytes → length bytes ≤ 24576 → All (λ byte. byte < 256) bytes → IsReply (encode_upper bytes)
hex-reply bytes some few each = record {
  text = inr (inr (record { bytes = bytes; some = some; each = each; text = refl }));
  most = omega (arith, length-encode_with upper_digits bytes);
}

pub told-reply : (bytes : List ℕ) → length bytes ≤ 24576 → All (λ byte. byte < 256) bytes → IsReply (told_bytes bytes)
told-reply [] few each = record { text = inl refl; most = omega arith }
told-reply (byte ∷ bytes) few each = hex-reply (byte ∷ bytes) (omega arith) few each

-- The text of a request is short.
pub number-most : (number : ℕ) → number ≤ trace_limit → length (decimal number) ≤ 19
number-most number within = length-decimal-le 19 number (omega arith) (omega arith) (omega arith)

text-most : (message : Message) → length (text message) ≤ 8
text-most (Interrogate at) = omega arith
text-most (Connect at source) = omega arith
text-most message = omega arith

pub request-most : (plant : PlantData) (request : Request) → IsPlant plant → FitsPlant plant request → HasTraceNumbers request → length (request_text request) ≤ 67
request-most plant (Told panel item message) is fits numbers =
    simp length-append (omega (arith, number-most panel (panel_small plant panel is fits.0), number-most item numbers, length-encode_with upper_digits (text message), text-most message))
request-most plant (Poll panel item turn) is fits numbers =
    simp length-append (omega (arith, number-most panel (panel_small plant panel is fits), number-most item numbers.0, number-most turn numbers.1))
request-most plant (Leave panel) is fits numbers = simp length-append (omega (arith, number-most panel (panel_small plant panel is fits)))
request-most plant (DisplayPoll screen true) is fits numbers = simp length-append (omega (arith, number-most screen (screen_small plant screen is fits)))
request-most plant (DisplayPoll screen false) is fits numbers = simp length-append (omega (arith, number-most screen (screen_small plant screen is fits)))

pub entry-most : (position : ℕ) (request : Request) (reply : List ℕ) → length (decimal position) ≤ 19 → length (request_text request) ≤ 67 → length reply ≤ 49152
    → length (entry_text position request reply) ≤ longest_line
entry-most position request reply number asked told =
    omega (
      arith,
      length-append (decimal position ++ codes " " ++ request_text request ++ codes " = ") reply,
      length-append (decimal position ++ codes " " ++ request_text request) (codes " = "),
      length-append (decimal position ++ codes " ") (request_text request),
      length-append (decimal position) (codes " "),
    )

pub written-read : WrittenIsRead
written-read plant position request sent is fits within numbers each few =
    let reply = told-reply sent (omega (arith, few)) each in
    let asked = request-most plant request is fits numbers in
    record {
      text = refl;
      within = entry-most position request (told_bytes sent) (number-most position within) asked reply.most;
      position = within;
      numbers = numbers;
      fits = fits;
      reply = reply.text;
    }
