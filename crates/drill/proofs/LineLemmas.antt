-- How long the lines of a session's trace are.
use Rattle.std.proofs.Common.{if◌then◌else◌, ℕ, ◌+◌, ◌*◌, ◌≤◌, ◌==◌, true, false, cond, List, [], ◌∷◌, ◌++◌, All, length, arith, length-append}
use Rattle.std.specs.Fmt.{decimal}
use Rattle.std.specs.Prelude.{codes}
use Rattle.std.proofs.lemmas.Fmt.{length-decimal-le}
use Rattle.std.proofs.lemmas.List.Elements.{All-head, All-tail}
use Rattle.hex.specs.Hex.{upper_digits}
use Rattle.hex.proofs.HexLemmas.{length-encode_with}
use Rattle.swp08_messages.specs.Text.{text}
use Rattle.history_lock.specs.History.{entries_of}
use Rattle.plant_config.specs.Plant.{PlantData}
use Rattle.plant_core.specs.declared.answer.Answer.{Answer}
use Rattle.plant_core.specs.declared.request.Request.{Request}
use Rattle.plant_core.specs.declared.request.Request.TheVariants.{Told, Poll, Leave, DisplayPoll}
use Rattle.panel_session.specs.Entry.{PlantEntry}
use Rattle.panel_session.specs.Served.{own_lines}
use Rattle.panel_session.specs.Text.{frames_of, bytes_in}
use Rattle.trace_lines.specs.TraceLine.{entry_text, line_end, request_text, told_bytes, trace_limit}
use Rattle.panel_session.specs.Reply.{reply_text, trace_line}
use Rattle.drill.proofs.AskedLemmas.{IsWithin}
use Rattle.drill.proofs.RoomLemmas.{text_most}
use Rattle.drill.proofs.TextLemmas.{AreShort, IsShort}

number_few : (number : ℕ) → number ≤ trace_limit → length (decimal number) ≤ 19
number_few number within = length-decimal-le 19 number (omega arith) (omega arith) (omega arith)

request_few : (panel items turns : ℕ) (request : Request) → panel ≤ trace_limit → items ≤ trace_limit → turns ≤ trace_limit → IsWithin panel items turns request → length (request_text request) ≤ 67
request_few panel items turns (Told asker item message) few_panels few_items few_turns within =
    simp length-append (omega (arith, number_few asker (omega (arith, within.0)), number_few item (omega (arith, within.1)), length-encode_with upper_digits (text message), text_most message))
request_few panel items turns (Poll asker item turn) few_panels few_items few_turns within =
    simp length-append (omega (arith, number_few asker (omega (arith, within.0)), number_few item (omega (arith, within.1)), number_few turn (omega (arith, within.2))))
request_few panel items turns (Leave asker) few_panels few_items few_turns within = absurd within
request_few panel items turns (DisplayPoll screen refresh) few_panels few_items few_turns within = absurd within

told_few : (bytes : List ℕ) → length bytes ≤ 24 → length (told_bytes bytes) ≤ 48
told_few [] few = omega arith
told_few (byte ∷ bytes) few = omega (arith, length-encode_with upper_digits (byte ∷ bytes), few)

reply_few : (plant : PlantData) (panel items turns : ℕ) (request : Request) (answers : List Answer) → IsWithin panel items turns request → AreShort answers → length (reply_text plant request answers) ≤ 48
reply_few plant panel items turns (Told asker item message) answers within short = told_few (bytes_in (frames_of answers)) short
reply_few plant panel items turns (Poll asker item turn) answers within short = told_few (bytes_in (frames_of answers)) short
reply_few plant panel items turns (Leave asker) answers within short = absurd within
reply_few plant panel items turns (DisplayPoll screen refresh) answers within short = absurd within

line_few : (plant : PlantData) (panel items turns position : ℕ) (request : Request) (answers : List Answer) → panel ≤ trace_limit → items ≤ trace_limit → turns ≤ trace_limit → position ≤ trace_limit → IsWithin panel items turns request → AreShort answers
    → length (trace_line plant position request answers) ≤ 139
line_few plant panel items turns position request answers few_panels few_items few_turns few within short =
    let reply = reply_text plant request answers in
    omega (
      arith,
      length-append (entry_text position request reply) (line_end ∷ []),
      length-append (decimal position ++ codes " " ++ request_text request ++ codes " = ") reply,
      length-append (decimal position ++ codes " " ++ request_text request) (codes " = "),
      length-append (decimal position ++ codes " ") (request_text request),
      length-append (decimal position) (codes " "),
      number_few position few,
      request_few panel items turns request few_panels few_items few_turns within,
      reply_few plant panel items turns request answers within short,
    )

-- An entry's line is so short, at whatever position it stands.
abbrev pub HasShortLine : PlantData → PlantEntry → Type 0
HasShortLine plant entry = (position : ℕ) → position ≤ trace_limit → length (trace_line plant position entry.request entry.answers) ≤ 139

pub short_line : (plant : PlantData) (panel items turns : ℕ) (entry : PlantEntry) → panel ≤ trace_limit → items ≤ trace_limit → turns ≤ trace_limit → IsWithin panel items turns entry.request → IsShort entry → HasShortLine plant entry
short_line plant panel items turns entry few_panels few_items few_turns within short position few =
    line_few plant panel items turns position entry.request entry.answers few_panels few_items few_turns few within short

pub lines_few : (plant : PlantData) (seat position : ℕ) (seen : List PlantEntry) → position + length seen ≤ trace_limit + 1 → All (HasShortLine plant) (entries_of seat seen) → length (own_lines plant seat position seen) ≤ 139 * length (entries_of seat seen)
lines_few plant seat position [] few short = omega arith
lines_few plant seat position (entry ∷ later) few short =
    let line = trace_line plant position entry.request entry.answers in
    let more = own_lines plant seat (position + 1) later in
    let own = entries_of seat later in
    elim (entry.seat == seat) as (λ b. All (HasShortLine plant) (cond b (entry ∷ own) own) → length ((if b then line else []) ++ more) ≤ 139 * length (cond b (entry ∷ own) own)) [
      | true ↦ λ short.
          omega (arith, length-append line more, All-head (HasShortLine plant) entry own short position (omega arith), lines_few plant seat (position + 1) later (omega arith) (All-tail (HasShortLine plant) entry own short))
      | false ↦ λ short. omega (arith, lines_few plant seat (position + 1) later (omega arith) short)
    ] short
