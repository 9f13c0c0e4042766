-- What the status of a format tells.
use Rattle.std.specs.Prelude.{◌≡◌, ◌⊎◌, ℕ, List, Ok}
use Rattle.ctl_io.specs.Faults.{one_more}
use Rattle.ctl_io.specs.Sink.{appended}
use Rattle.plant_config.specs.Plant.{PlantData}
use Rattle.plant_snapshot.specs.StandsFor.{store_size}
use Rattle.command_words.specs.Parts.{NoMore, AllSaid}
use Rattle.command_rows.specs.Lines.{file_fault}
use Rattle.command_rows.specs.Moment.{Snapshot, Moment}
use Rattle.command_rows.specs.LentDisk.{FailsToLend, GivesDisk}
use Rattle.command_rows.specs.Opener.{AllLead}
use Rattle.command_rows.specs.Row.{RowRuns}
use Rattle.command_rows.specs.Shown.{AllShow}
use Rattle.command_rows.specs.RowLaws.{WasKept, WasStopped}
use Rattle.command_format.specs.Format.{parts, formatted, FormatRow, HasFailed, IsFormatted}

-- A store was made: whatever a crash leaves of it stands for the start of the plant, and exactly the line of its size was appended.
pub record WasFormatted (said : AllSaid parts NoMore) (before now : Moment) : Type 0 where
  pub plant : PlantData
  pub name : List ℕ
  pub opened : Snapshot
  pub lead : AllLead parts NoMore said before.files opened (Ok (plant, (name, tt)))
  pub gives : GivesDisk name (IsFormatted plant) opened now.files
  pub appends :
      now.output.written ≡ appended before.output.written (formatted (store_size plant))

-- A run that ends with 0 has made its store.
abbrev pub ZeroHasFormatted : Type 0
ZeroHasFormatted = (said : AllSaid parts NoMore) (before now : Moment)
    → RowRuns parts NoMore FormatRow said before now 0 → WasFormatted said before now

-- The store could not be made, or a call of its disk failed, which the files' count of faults shows; exactly the line that names it
-- was appended.
pub record HadStoreFault (said : AllSaid parts NoMore) (before now : Moment) : Type 0 where
  pub plant : PlantData
  pub name : List ℕ
  pub opened : Snapshot
  pub lead : AllLead parts NoMore said before.files opened (Ok (plant, (name, tt)))
  pub failed : FailsToLend name opened now.files ⊎ GivesDisk name HasFailed opened now.files
  pub fault : now.files.faults ≡ one_more before.files.faults
  pub appends : now.output.written ≡ appended before.output.written (file_fault name)

-- A run that ends with 3 was stopped at a file that is missing or failed, or its store failed.
abbrev pub ThreeHasFault : Type 0
ThreeHasFault = (said : AllSaid parts NoMore) (before now : Moment)
    → RowRuns parts NoMore FormatRow said before now 3
    → WasStopped parts NoMore said before now 3 ⊎ HadStoreFault said before now

-- A plant that the files show leads to 0, unless the run is kept from its end.
abbrev pub PlantEndsWithZero : Type 0
PlantEndsWithZero =
    (said : AllSaid parts NoMore) (plant : PlantData) (name : List ℕ) (before now : Moment)
    (status : ℕ) → AllShow parts NoMore said before.files.held (Ok (plant, (name, tt)))
    → RowRuns parts NoMore FormatRow said before now status
    → (status ≡ 0) ⊎ WasKept before now status
