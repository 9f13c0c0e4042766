-- What the status of a run of `drive` tells.
use Rattle.std.specs.Prelude.{◌≡◌, ◌⊎◌, ℕ}
use Rattle.ctl_io.specs.Sink.{appended}
use Rattle.command_words.specs.Parts.{NoMore, AllSaid}
use Rattle.command_rows.specs.Moment.{Moment, FilesStay}
use Rattle.command_rows.specs.Row.{RowRuns}
use Rattle.command_rows.specs.RowLaws.{CouldNotWrite}
use Rattle.command_drive.specs.Drive.{Drive, IsEnd}
use Rattle.command_drive.specs.DriveRow.{parts, agree_count, settled_count, drive_text, DriveRow}

-- The drive of this number and of so many wants came to its end, exactly its lines were appended, and the frame agrees wherever the
-- driver counts on it.
pub record WasDriven (number wants : ℕ) (before now : Moment) : Type 0 where
  pub drive : Drive
  pub is_end : IsEnd number wants drive
  pub appends : now.output.written ≡ appended before.output.written (drive_text wants drive)
  pub all_agree : agree_count drive.world ≡ settled_count drive.world

-- A run that ends with 0 has made the drive that its words say.
abbrev pub ZeroHasDriven : Type 0
ZeroHasDriven = (said : AllSaid parts NoMore) (before now : Moment)
    → RowRuns parts NoMore DriveRow said before now 0 → WasDriven said.0 said.1.0 before now

-- A drive leads to 0, unless memory ran out or a write failed, which the output's count shows. No other status comes.
abbrev pub DriveEndsWithZero : Type 0
DriveEndsWithZero = (said : AllSaid parts NoMore) (before now : Moment) (status : ℕ)
    → RowRuns parts NoMore DriveRow said before now status
    → (status ≡ 0) ⊎ (status ≡ 1) ⊎ CouldNotWrite before now status

-- A run with a drive left the files alone.
abbrev pub DrivesLeaveFiles : Type 0
DrivesLeaveFiles = (said : AllSaid parts NoMore) (before now : Moment) (status : ℕ)
    → RowRuns parts NoMore DriveRow said before now status → FilesStay before now
