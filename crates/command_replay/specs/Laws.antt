-- What the status of a replay tells.
use Rattle.std.specs.Prelude.{◌≡◌, ◌⊎◌, ℕ, List, ◌∷◌, ◌++◌, Option, Result, Ok}
use Rattle.ctl_io.specs.Sink.{appended}
use Rattle.plant_config.specs.Plant.{PlantData}
use Rattle.record_replay.specs.Answered.{AnswersItsPiece}
use Rattle.record_replay.specs.HistoryLaws.{KeepsTiesValid}
use Rattle.record_replay.specs.Laws.{Action, history_of, IsHistory}
use Rattle.record_replay.specs.Script.{Work, lines, worked, LinesSpell, IsFirstBad}
use Rattle.record_replay.specs.TiedReplay.{IsTiedReplay}
use Rattle.command_words.specs.Parts.{NoMore, AllSaid}
use Rattle.command_rows.specs.Lines.{line_refused}
use Rattle.command_rows.specs.Moment.{Snapshot, Moment}
use Rattle.command_rows.specs.Opener.{AllLead}
use Rattle.command_rows.specs.Row.{RowRuns}
use Rattle.command_rows.specs.Shown.{AllShow}
use Rattle.command_rows.specs.RowLaws.{WasKept, WasStopped}
use Rattle.command_replay.specs.Replay.{parts, ReplayRow}

-- The script was replayed: exactly its replay text was appended, and no tie carries two sources at any place of the history behind
-- that.
pub record WasReplayed (said : AllSaid parts NoMore) (before now : Moment) : Type 0 where
  pub plant : PlantData
  pub script : List ℕ
  pub opened : Snapshot
  pub lead : AllLead parts NoMore said before.files opened (Ok (plant, (script, tt)))
  pub output : List ℕ
  pub replay : IsTiedReplay plant script output
  pub appends : now.output.written ≡ appended before.output.written output

-- A run that ends with 0 has replayed its script.
abbrev pub ZeroHasReplayed : Type 0
ZeroHasReplayed = (said : AllSaid parts NoMore) (before now : Moment)
    → RowRuns parts NoMore ReplayRow said before now 0 → WasReplayed said before now

-- The first line without a form was refused by its number, and nothing else was written.
pub record RefusedLine (said : AllSaid parts NoMore) (before now : Moment) : Type 0 where
  pub plant : PlantData
  pub script : List ℕ
  pub opened : Snapshot
  pub lead : AllLead parts NoMore said before.files opened (Ok (plant, (script, tt)))
  pub number : ℕ
  pub first_bad : IsFirstBad plant script number
  pub appends : now.output.written ≡ appended before.output.written (line_refused number)

-- A run that ends with 5 was stopped at a script that is too long, or has refused a line.
abbrev pub FiveHasRefused : Type 0
FiveHasRefused = (said : AllSaid parts NoMore) (before now : Moment)
    → RowRuns parts NoMore ReplayRow said before now 5
    → WasStopped parts NoMore said before now 5 ⊎ RefusedLine said before now

-- Each line of a script that isn't skipped has a form.
abbrev pub IsAccepted : PlantData → List ℕ → Type 0
IsAccepted plant script = (works : List Work) × LinesSpell plant (worked (lines script)) works

-- A script that the files show with its plant, and that is accepted, leads to 0, unless the run is kept from its end.
abbrev pub AcceptedEndsWithZero : Type 0
AcceptedEndsWithZero =
    (said : AllSaid parts NoMore) (plant : PlantData) (script : List ℕ) (before now : Moment)
    (status : ℕ) → AllShow parts NoMore said before.files.held (Ok (plant, (script, tt)))
    → IsAccepted plant script → RowRuns parts NoMore ReplayRow said before now status
    → (status ≡ 0) ⊎ WasKept before now status

-- One with a line without a form leads to 5, unless the run is kept from its end.
abbrev pub BadLineEndsWithFive : Type 0
BadLineEndsWithFive =
    (said : AllSaid parts NoMore) (plant : PlantData) (script : List ℕ) (number : ℕ)
    (before now : Moment) (status : ℕ)
    → AllShow parts NoMore said before.files.held (Ok (plant, (script, tt)))
    → IsFirstBad plant script number → RowRuns parts NoMore ReplayRow said before now status
    → (status ≡ 5) ⊎ WasKept before now status

-- The lines that were appended show a history of the plant in which the script was worked, and there is no other: in each turn
-- the items of the piece are answered, and at no place does a tie carry two sources.
pub record ShowsHistory (plant : PlantData) (script : List ℕ) (before now : Moment) : Type 0 where
  pub output : List ℕ
  pub appends : now.output.written ≡ appended before.output.written output
  pub actions : List Action
  pub history : IsHistory plant script output actions
  pub alone : (other : List ℕ) (others : List Action)
      → IsHistory plant script other others → others ≡ actions
  pub answered : (front later : List Action) (action : Action)
      → actions ≡ front ++ action ∷ later → AnswersItsPiece front action
  pub ties : KeepsTiesValid plant (history_of actions)

-- A run that ends with 0, of a script that the files show with its plant, has shown a history of the plant.
abbrev pub ReplaysShowHistories : Type 0
ReplaysShowHistories =
    (said : AllSaid parts NoMore) (plant : PlantData) (script : List ℕ) (before now : Moment)
    → AllShow parts NoMore said before.files.held (Ok (plant, (script, tt)))
    → RowRuns parts NoMore ReplayRow said before now 0 → ShowsHistory plant script before now
