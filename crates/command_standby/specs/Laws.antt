-- What the status of a run of `standby` tells.
use Rattle.std.specs.Prelude.{◌≡◌, ◌⊎◌, ℕ, List, Ok}
use Rattle.ctl_io.specs.Sink.{appended}
use Rattle.plant_config.specs.Plant.{PlantData}
use Rattle.standby.specs.Standby.{Data}
use Rattle.standby.specs.Arrivals.{Arrival}
use Rattle.command_words.specs.Parts.{AllSaid}
use Rattle.command_rows.specs.Moment.{Snapshot, Moment}
use Rattle.command_rows.specs.End.{End}
use Rattle.command_rows.specs.Opener.{AllLead}
use Rattle.command_rows.specs.Row.{RowRuns}
use Rattle.command_rows.specs.Shown.{AllShow}
use Rattle.command_rows.specs.RowLaws.{WasKept, WasStopped}
use Rattle.command_standby.specs.declared.follow.Passed.{Passed}
use Rattle.command_standby.specs.Taking.{LinesTell, IsFirstRefused, none_passed, TakesAll, FirstDiffers}
use Rattle.command_standby.specs.Standby.{parts, last, new_standby, RefusesLine, HasDifference, WasTaken, StandbyRow}

-- The plant and the lines of all traces were opened, they led to an end of this kind, and exactly its text was appended.
pub record Followed (Leads : PlantData → List (List ℕ) → End → Type 0) (said : AllSaid parts last)
    (before now : Moment) : Type 0 where
  pub plant : PlantData
  pub its : List (List ℕ)
  pub opened : Snapshot
  pub lead : AllLead parts last said before.files opened (Ok (plant, its))
  pub end : End
  pub leads : Leads plant its end
  pub appends : now.output.written ≡ appended before.output.written end.text

-- A run that ends with 0 has taken all that the lines tell, and has said where the standby stands then.
abbrev pub ZeroHasTaken : Type 0
ZeroHasTaken = (said : AllSaid parts last) (before now : Moment)
    → RowRuns parts last StandbyRow said before now 0 → Followed WasTaken said before now

-- A run that ends with 5 was stopped at traces that are too long together, or has refused a line.
abbrev pub FiveHasRefused : Type 0
FiveHasRefused = (said : AllSaid parts last) (before now : Moment)
    → RowRuns parts last StandbyRow said before now 5
    → WasStopped parts last said before now 5 ⊎ Followed RefusesLine said before now

-- A run that ends with 6 has found a difference.
abbrev pub SixHasDifference : Type 0
SixHasDifference = (said : AllSaid parts last) (before now : Moment)
    → RowRuns parts last StandbyRow said before now 6 → Followed HasDifference said before now

-- These lines lead a standby of the plant to this status: all that they tell is taken, a line is refused, or one differs.
abbrev pub LinesLead : PlantData → List (List ℕ) → ℕ → Type 0
LinesLead plant its status =
    ((status ≡ 0) × ((arrivals : List Arrival) × (standby : Data) × (passed : Passed)
    × LinesTell plant its arrivals
    × TakesAll (new_standby plant) none_passed arrivals standby passed))
    ⊎ ((status ≡ 5) × ((number : ℕ) × IsFirstRefused plant its number))
    ⊎ ((status ≡ 6) × ((arrivals : List Arrival) × (position : ℕ) × LinesTell plant its arrivals
    × FirstDiffers (new_standby plant) arrivals position))

-- Traces that the files show with their plant lead to that status, unless the run is kept from its end.
abbrev pub LinesEndRuns : Type 0
LinesEndRuns =
    (said : AllSaid parts last) (plant : PlantData) (its : List (List ℕ)) (wanted : ℕ)
    (before now : Moment) (status : ℕ)
    → AllShow parts last said before.files.held (Ok (plant, its)) → LinesLead plant its wanted
    → RowRuns parts last StandbyRow said before now status
    → (status ≡ wanted) ⊎ WasKept before now status
