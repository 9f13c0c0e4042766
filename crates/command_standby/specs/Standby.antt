-- The command `standby`: what is given for its form, and how it may end, and why.
use Rattle.std.specs.Prelude.{◌≡◌, ◌⊎◌, ℕ, List, [], ◌∷◌, ◌++◌, codes}
use Rattle.std.specs.Fmt.{decimal}
use Rattle.plant_config.specs.Plant.{PlantData}
use Rattle.command_words.specs.Parts.{Part, Plant, Last, Wholes}
use Rattle.command_rows.specs.Kinds.{trace}
use Rattle.command_rows.specs.Lines.{line}
use Rattle.command_rows.specs.End.{End, done, ended, out_of_memory}
use Rattle.command_rows.specs.Row.{Promise, Alone}
use Rattle.standby.specs.Standby.{Data, start}
use Rattle.standby.specs.StandbyInside.{most_places}
use Rattle.standby.specs.Arrivals.{Arrival}
use Rattle.command_standby.specs.declared.follow.Passed.{Passed}
use Rattle.command_standby.specs.Taking.{LinesTell, IsFirstRefused, none_passed, TakesAll, FirstDiffers}
use Rattle.command_standby.specs.Standing.{standing_text}

-- the parts of its form, and what stands behind them
abbrev pub parts : List Part
parts = Plant ∷ []

abbrev pub last : Last
last = Wholes trace

abbrev pub trace_line_refused : ℕ → List ℕ
trace_line_refused number = line (codes "trace line " ++ decimal number ++ codes " refused")

abbrev pub standby_differs_at : ℕ → List ℕ
standby_differs_at position = line (codes "standby differs at " ++ decimal position)

-- a new standby, whose window has the most places
abbrev pub new_standby : PlantData → Data
new_standby plant = start plant most_places

-- The first line that tells nothing that may come is refused.
pub record RefusesLine (plant : PlantData) (lines : List (List ℕ)) (end : End) : Type 0 where
  pub number : ℕ
  pub first : IsFirstRefused plant lines number
  pub end_is : end ≡ ended 5 (trace_line_refused number)

-- All lines tell what comes, one of these differs from what is kept for its position, and nothing else is said.
pub record HasDifference (plant : PlantData) (lines : List (List ℕ)) (end : End) : Type 0 where
  pub arrivals : List Arrival
  pub told : LinesTell plant lines arrivals
  pub position : ℕ
  pub first : FirstDiffers (new_standby plant) arrivals position
  pub end_is : end ≡ ended 6 (standby_differs_at position)

-- All of these come, in the order of the lines, and it is said where the standby stands then.
pub record WasTaken (plant : PlantData) (lines : List (List ℕ)) (end : End) : Type 0 where
  pub arrivals : List Arrival
  pub told : LinesTell plant lines arrivals
  pub standby : Data
  pub passed : Passed
  pub taken : TakesAll (new_standby plant) none_passed arrivals standby passed
  pub end_is : end ≡ done (standing_text standby passed)

-- A new standby of this plant, to which these lines come, ends so, or without memory.
abbrev pub StandbyEnds : PlantData → List (List ℕ) → End → Type 0
StandbyEnds plant lines end = (end ≡ out_of_memory) ⊎ RefusesLine plant lines end
    ⊎ HasDifference plant lines end ⊎ WasTaken plant lines end

-- What it promises of the plant, and of the lines of all traces, that are given. It leaves the files alone.
abbrev pub StandbyRow : Promise parts last
StandbyRow = Alone parts last (λ given. StandbyEnds given.0 given.1)
