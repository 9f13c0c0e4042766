-- What holds of the lines of traces. The functions of `laws` promise it.
use Rattle.std.specs.Prelude.{◌≡◌, ℕ, ◌*◌, ◌<◌, ◌≤◌, List, All, length}
use Rattle.plant_config.specs.Plant.{PlantData}
use Rattle.plant_config.specs.IsPlant.{IsPlant}
use Rattle.plant_core.specs.State.{FitsPlant}
use Rattle.plant_core.specs.declared.request.Request.{Request}
use Rattle.trace_lines.specs.TraceLine.{trace_limit, most_reply, entry_text, told_bytes, MayTrace}
use Rattle.trace_lines.specs.Trace.{HasTraceNumbers, LineTells}

-- No two entries have one line: two lines that are the same are of one position, one request and one reply. The requests may
-- be traced, and the replies may be any bytes.
abbrev pub OneEntry : Type 0
OneEntry = (position other : ℕ) (request asked : Request) (reply told : List ℕ)
    → position ≤ trace_limit → other ≤ trace_limit → MayTrace request → MayTrace asked
    → entry_text position request reply ≡ entry_text other asked told
    → (position ≡ other) × (request ≡ asked) × (reply ≡ told)

-- What is written is read back: the line of a request that fits the plant, with the bytes of at most a reply, tells just these.
abbrev pub WrittenIsRead : Type 0
WrittenIsRead = (plant : PlantData) (position : ℕ) (request : Request) (sent : List ℕ)
    → IsPlant plant → FitsPlant plant request → position ≤ trace_limit → HasTraceNumbers request
    → All (λ byte. byte < 256) sent → 2 * length sent ≤ most_reply
    → LineTells plant (entry_text position request (told_bytes sent))
    (record { position = position; request = request; reply = told_bytes sent })
