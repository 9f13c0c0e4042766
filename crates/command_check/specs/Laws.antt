-- What the status of a check tells.
use Rattle.std.specs.Prelude.{◌≡◌, ◌⊎◌, ℕ, Result, Ok}
use Rattle.ctl_io.specs.Sink.{appended}
use Rattle.plant_config.specs.Plant.{PlantData}
use Rattle.command_words.specs.Parts.{NoMore, AllSaid}
use Rattle.command_rows.specs.Moment.{Snapshot, Moment}
use Rattle.command_rows.specs.Opener.{AllLead}
use Rattle.command_rows.specs.Row.{RowRuns}
use Rattle.command_rows.specs.Shown.{AllShow}
use Rattle.command_rows.specs.RowLaws.{WasKept}
use Rattle.command_check.specs.Check.{parts, check_text, CheckRow}

-- The plant was checked: exactly its ten lines were appended.
pub record WasChecked (said : AllSaid parts NoMore) (before now : Moment) : Type 0 where
  pub plant : PlantData
  pub opened : Snapshot
  pub lead : AllLead parts NoMore said before.files opened (Ok (plant, tt))
  pub appends : now.output.written ≡ appended before.output.written (check_text plant)

-- A run that ends with 0 has checked its plant.
abbrev pub ZeroHasChecked : Type 0
ZeroHasChecked = (said : AllSaid parts NoMore) (before now : Moment)
    → RowRuns parts NoMore CheckRow said before now 0 → WasChecked said before now

-- A plant that the files show leads to 0, unless the run is kept from its end.
abbrev pub PlantEndsWithZero : Type 0
PlantEndsWithZero =
    (said : AllSaid parts NoMore) (plant : PlantData) (before now : Moment) (status : ℕ)
    → AllShow parts NoMore said before.files.held (Ok (plant, tt))
    → RowRuns parts NoMore CheckRow said before now status
    → (status ≡ 0) ⊎ WasKept before now status
