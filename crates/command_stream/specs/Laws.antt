-- What the status of a replay with a stream tells.
use Rattle.std.specs.Prelude.{◌≡◌, ◌⊎◌, ℕ, List, [], ◌∷◌, ◌++◌, Result, Ok}
use Rattle.ctl_io.specs.Faults.{one_more}
use Rattle.ctl_io.specs.Sink.{appended}
use Rattle.plant_config.specs.Plant.{PlantData}
use Rattle.record_replay.specs.Script.{IsFirstBad}
use Rattle.command_words.specs.Parts.{NoMore, AllSaid}
use Rattle.command_rows.specs.Lines.{file_fault, line_refused}
use Rattle.command_rows.specs.Moment.{Snapshot, Moment}
use Rattle.command_rows.specs.Opener.{AllLead}
use Rattle.command_rows.specs.Row.{RowRuns}
use Rattle.command_rows.specs.Shown.{AllShow}
use Rattle.command_rows.specs.RowLaws.{WasKept, WasStopped}
use Rattle.command_replay.specs.Laws.{IsAccepted, ShowsHistory}
use Rattle.command_stream.specs.Stream.{parts, StreamRow, GivesFile, StreamDone, StreamBroke, IsUnmade}

-- A stream was made: its file was given just the texts of the packets that the displays are told in the script's replay, in
-- order, no write failed, and exactly the script's replay text was appended.
pub record WasStreamed (said : AllSaid parts NoMore) (before now : Moment) : Type 0 where
  pub plant : PlantData
  pub script : List ℕ
  pub made : List ℕ
  pub opened : Snapshot
  pub lead : AllLead parts NoMore said before.files opened (Ok (plant, (script, (made, tt))))
  pub output : List ℕ
  pub gives : GivesFile made
      (StreamDone plant script output 0 before.output.written now.output.written) opened now.files
  pub appends : now.output.written ≡ appended before.output.written output

-- A run that ends with 0 has made its stream.
abbrev pub ZeroHasStreamed : Type 0
ZeroHasStreamed = (said : AllSaid parts NoMore) (before now : Moment)
    → RowRuns parts NoMore StreamRow said before now 0 → WasStreamed said before now

-- The file of a stream failed, which the files' count of faults shows: it could not be made, or a write failed, and the line
-- that names it stands behind the output so far.
pub record HadStreamFault (said : AllSaid parts NoMore) (before now : Moment) : Type 0 where
  pub plant : PlantData
  pub script : List ℕ
  pub made : List ℕ
  pub opened : Snapshot
  pub lead : AllLead parts NoMore said before.files opened (Ok (plant, (script, (made, tt))))
  pub output : List ℕ
  pub failed : IsUnmade made output opened now.files
      ⊎ GivesFile made
      (StreamBroke plant script output 3 before.output.written now.output.written) opened now.files
  pub fault : now.files.faults ≡ one_more before.files.faults
  pub appends :
      now.output.written ≡ appended before.output.written (output ++ file_fault made)

-- A run that ends with 3 was stopped at a file that is missing or failed, or the file of its stream failed.
abbrev pub ThreeHasFault : Type 0
ThreeHasFault = (said : AllSaid parts NoMore) (before now : Moment)
    → RowRuns parts NoMore StreamRow said before now 3
    → WasStopped parts NoMore said before now 3 ⊎ HadStreamFault said before now

-- The first line without a form was refused by its number, and nothing else was written.
pub record RefusedLine (said : AllSaid parts NoMore) (before now : Moment) : Type 0 where
  pub plant : PlantData
  pub script : List ℕ
  pub made : List ℕ
  pub opened : Snapshot
  pub lead : AllLead parts NoMore said before.files opened (Ok (plant, (script, (made, tt))))
  pub number : ℕ
  pub first_bad : IsFirstBad plant script number
  pub appends : now.output.written ≡ appended before.output.written (line_refused number)

-- A run that ends with 5 was stopped at a script that is too long, or has refused a line.
abbrev pub FiveHasRefused : Type 0
FiveHasRefused = (said : AllSaid parts NoMore) (before now : Moment)
    → RowRuns parts NoMore StreamRow said before now 5
    → WasStopped parts NoMore said before now 5 ⊎ RefusedLine said before now

-- A script that the files show with its plant, and that is accepted, leads to 0, unless the run is kept from its end.
abbrev pub AcceptedEndsWithZero : Type 0
AcceptedEndsWithZero =
    (said : AllSaid parts NoMore) (plant : PlantData) (script made : List ℕ)
    (before now : Moment) (status : ℕ)
    → AllShow parts NoMore said before.files.held (Ok (plant, (script, (made, tt))))
    → IsAccepted plant script → RowRuns parts NoMore StreamRow said before now status
    → (status ≡ 0) ⊎ WasKept before now status

-- One with a line without a form leads to 5, unless the run is kept from its end.
abbrev pub BadLineEndsWithFive : Type 0
BadLineEndsWithFive =
    (said : AllSaid parts NoMore) (plant : PlantData) (script made : List ℕ) (number : ℕ)
    (before now : Moment) (status : ℕ)
    → AllShow parts NoMore said before.files.held (Ok (plant, (script, (made, tt))))
    → IsFirstBad plant script number → RowRuns parts NoMore StreamRow said before now status
    → (status ≡ 5) ⊎ WasKept before now status

-- A run that ends with 0, of a script that the files show with its plant, has shown a history of the plant.
abbrev pub StreamsShowHistories : Type 0
StreamsShowHistories =
    (said : AllSaid parts NoMore) (plant : PlantData) (script made : List ℕ)
    (before now : Moment)
    → AllShow parts NoMore said before.files.held (Ok (plant, (script, (made, tt))))
    → RowRuns parts NoMore StreamRow said before now 0 → ShowsHistory plant script before now
