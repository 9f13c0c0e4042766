-- What a trace tells: its lines, and the entry that each of them tells.
use Rattle.std.specs.Prelude.{◌≡◌, ◌⊎◌, ℕ, ◌<◌, ◌≤◌, List, All, length, codes}
use Rattle.hex.specs.Hex.{encode_upper}
use Rattle.line_text.specs.Cut.{longest_line}
use Rattle.plant_config.specs.Plant.{PlantData}
use Rattle.plant_core.specs.State.{FitsPlant}
use Rattle.plant_core.specs.declared.request.Request.{Request}
use Rattle.plant_core.specs.declared.request.Request.TheVariants.{Told, Poll, Leave, DisplayPoll}
use Rattle.trace_lines.specs.TraceLine.{trace_limit, entry_text}
use Rattle.trace_lines.specs.declared.reading.line.Traced.{Traced}

-- An entry of a history, as a line tells it: where it stands in the history, what was asked, and the text of what was answered.
pub record TracedEntry : Type 0 where
  pub position : ℕ
  pub request : Request
  pub reply : List ℕ

-- The numbers of the item and of the turn that a request came in are at most 2^62.
abbrev pub HasTraceNumbers : Request → Type 0
HasTraceNumbers (Told panel item message) = item ≤ trace_limit
HasTraceNumbers (Poll panel item turn) = (item ≤ trace_limit) × (turn ≤ trace_limit)
HasTraceNumbers (Leave panel) = Unit {0}
HasTraceNumbers (DisplayPoll screen refresh) = Unit {0}

-- A text is the upper-case hexadecimal of at least one byte.
pub record IsHexOfSome (hex : List ℕ) : Type 0 where
  pub bytes : List ℕ
  pub some : 1 ≤ length bytes
  pub each : All (λ byte. byte < 256) bytes
  pub text : hex ≡ encode_upper bytes

-- The text of a reply: a dash for none, the word for an end, or bytes.
abbrev pub IsReplyText : List ℕ → Type 0
IsReplyText reply = (reply ≡ codes "-") ⊎ (reply ≡ codes "finished") ⊎ IsHexOfSome reply

-- A line of at most 65,536 bytes tells an entry of a plant's history: it is the entry's text. The request fits the plant, so
-- that its message is one for the plant, and the position, the item and the turn are at most 2^62.
pub record LineTells (plant : PlantData) (line : List ℕ) (entry : TracedEntry) : Type 0 where
  pub text : line ≡ entry_text entry.position entry.request entry.reply
  pub within : length line ≤ longest_line
  pub position : entry.position ≤ trace_limit
  pub numbers : HasTraceNumbers entry.request
  pub fits : FitsPlant plant entry.request
  pub reply : IsReplyText entry.reply

-- A line tells this request, as the one at this position: it tells an entry of the two, with some reply.
pub record TellsRequest (plant : PlantData) (line : List ℕ) (position : ℕ) (request : Request)
    : Type 0 where
  pub kept : List ℕ
  pub told : LineTells plant line
      (record { position = position; request = request; reply = kept })

-- the entry that a line was read as
abbrev pub entry_of : Traced → TracedEntry
entry_of traced =
    record { position = traced.position; request = traced.request; reply = traced.reply.now }
