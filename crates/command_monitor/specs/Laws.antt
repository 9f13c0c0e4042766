-- What the status of telling a recorded stream tells.
use Rattle.std.specs.Prelude.{◌≡◌, ◌⊎◌, ℕ, List, Result, Ok}
use Rattle.ctl_io.specs.Sink.{appended}
use Rattle.record_replay.specs.Monitor.{monitor_text}
use Rattle.command_words.specs.Parts.{NoMore, AllSaid}
use Rattle.command_rows.specs.Moment.{Snapshot, Moment}
use Rattle.command_rows.specs.Opener.{AllLead}
use Rattle.command_rows.specs.Row.{RowRuns}
use Rattle.command_rows.specs.Shown.{AllShow}
use Rattle.command_rows.specs.RowLaws.{WasKept}
use Rattle.command_monitor.specs.Monitor.{parts, MonitorRow}

-- The recorded stream was told: exactly the lines of its items were appended.
pub record WasTold (said : AllSaid parts NoMore) (before now : Moment) : Type 0 where
  pub stream : List ℕ
  pub opened : Snapshot
  pub lead : AllLead parts NoMore said before.files opened (Ok (stream, tt))
  pub appends : now.output.written ≡ appended before.output.written (monitor_text stream)

-- A run that ends with 0 has told its stream.
abbrev pub ZeroHasTold : Type 0
ZeroHasTold = (said : AllSaid parts NoMore) (before now : Moment)
    → RowRuns parts NoMore MonitorRow said before now 0 → WasTold said before now

-- A recorded stream that the files show, and that isn't too long, leads to 0, unless the run is kept from its end.
abbrev pub StreamEndsWithZero : Type 0
StreamEndsWithZero =
    (said : AllSaid parts NoMore) (stream : List ℕ) (before now : Moment) (status : ℕ)
    → AllShow parts NoMore said before.files.held (Ok (stream, tt))
    → RowRuns parts NoMore MonitorRow said before now status
    → (status ≡ 0) ⊎ WasKept before now status
