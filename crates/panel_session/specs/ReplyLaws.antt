-- What the lines of a trace say. The function of `trace_laws` promises it.
use Rattle.std.specs.Prelude.{◌≢◌, ℕ, ◌≤◌, List, All}
use Rattle.plant_config.specs.Plant.{PlantData}
use Rattle.plant_core.specs.declared.answer.Answer.{Answer}
use Rattle.plant_core.specs.declared.request.Request.{Request}
use Rattle.trace_lines.specs.TraceLine.{trace_limit, line_end, entry_text, MayTrace}
use Rattle.panel_session.specs.Reply.{reply_text}

-- A line has no byte that ends a line but its last one, so that the lines of a text are those that were appended.
abbrev pub LinesEndOnce : Type 0
LinesEndOnce = (plant : PlantData) (position : ℕ) (request : Request) (answers : List Answer)
    → position ≤ trace_limit → MayTrace request
    → All (λ byte. byte ≢ line_end)
    (entry_text position request (reply_text plant request answers))
