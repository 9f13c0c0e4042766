-- What the status of a drill tells.
use Rattle.std.specs.Prelude.{◌≡◌, ◌⊎◌, ℕ, List}
use Rattle.ctl_io.specs.Sink.{appended}
use Rattle.command_words.specs.Parts.{NoMore, AllSaid}
use Rattle.command_rows.specs.Moment.{Moment, FilesStay}
use Rattle.command_rows.specs.Row.{RowRuns}
use Rattle.command_rows.specs.RowLaws.{CouldNotWrite}
use Rattle.command_drill.specs.declared.asked.Drill.{Drill}
use Rattle.command_drill.specs.Drill.{parts, DrillRow, IsTraceOf, drill_of, drill_text}

-- the drill that words say
abbrev pub said_drill : AllSaid parts NoMore → Drill
said_drill said = drill_of said.0 said.1.0 said.1.1.0

-- A drill was worked: exactly its lines were appended, and there is a trace of it, which needn't be the one of this run.
pub record WasDrilled (drill : Drill) (before now : Moment) : Type 0 where
  pub appends : now.output.written ≡ appended before.output.written (drill_text drill)
  pub trace : List ℕ
  pub is_trace : IsTraceOf drill trace

-- A run that ends with 0 has worked the drill that its words say.
abbrev pub ZeroHasDrilled : Type 0
ZeroHasDrilled = (said : AllSaid parts NoMore) (before now : Moment)
    → RowRuns parts NoMore DrillRow said before now 0 → WasDrilled (said_drill said) before now

-- A drill leads to 0, unless memory ran out or a write failed, which the output's count shows. No other status comes.
abbrev pub DrillEndsWithZero : Type 0
DrillEndsWithZero = (said : AllSaid parts NoMore) (before now : Moment) (status : ℕ)
    → RowRuns parts NoMore DrillRow said before now status
    → (status ≡ 0) ⊎ (status ≡ 1) ⊎ CouldNotWrite before now status

-- A run with a drill left the files alone.
abbrev pub DrillsLeaveFiles : Type 0
DrillsLeaveFiles = (said : AllSaid parts NoMore) (before now : Moment) (status : ℕ)
    → RowRuns parts NoMore DrillRow said before now status → FilesStay before now
