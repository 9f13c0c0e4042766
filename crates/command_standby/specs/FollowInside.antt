-- How far the code is in the lines of a text.
use Rattle.std.specs.Prelude.{◌≡◌, ◌⊎◌, ℕ, ◌+◌, ◌≤◌, List, ◌++◌, length, Option, Some, None}
use Rattle.line_text.specs.Lines.{lines}
use Rattle.plant_config.specs.Plant.{PlantData}
use Rattle.plant_core.specs.declared.request.Request.{Request}
use Rattle.standby.specs.Standby.{Data}
use Rattle.standby.specs.Arrivals.{Arrival}
use Rattle.command_standby.specs.declared.follow.Passed.{Passed}
use Rattle.command_rows.specs.End.{End, done, out_of_memory}
use Rattle.command_standby.specs.Taking.{LinesTell, none_passed, TakesAll, FirstDiffers}
use Rattle.command_standby.specs.Standing.{standing_text}

-- a request that came at a position
abbrev pub arrival_of : ℕ → Request → Arrival
arrival_of position request = record { position = position; request = request }

-- Each of these lines tells what may come.
pub record AllTell (plant : PlantData) (told : List (List ℕ)) : Type 0 where
  pub arrivals : List Arrival
  pub tell : LinesTell plant told arrivals

-- So many lines of a text stand before this rest of it, and each of them tells what may come.
pub record IsToldSoFar (plant : PlantData) (text rest : List ℕ) (count : ℕ) : Type 0 where
  pub before : List (List ℕ)
  pub told : AllTell plant before
  pub place : lines text ≡ before ++ lines rest
  pub counted : count ≡ length before
  pub fewer : count + length rest ≤ length text

-- These came, and no request differed from what is kept for its position, or the first that did has this position.
abbrev pub CameSoFar : Data → List Arrival → Option ℕ → Data → Passed → Type 0
CameSoFar first arrivals None standby passed = TakesAll first none_passed arrivals standby passed
CameSoFar first arrivals (Some position) standby passed = FirstDiffers first arrivals position

-- All of these lines tell what may come, and it came so.
pub record Came (plant : PlantData) (told : List (List ℕ)) (first : Data)
    (differing : Option ℕ) (standby : Data) (passed : Passed) : Type 0 where
  pub arrivals : List Arrival
  pub tell : LinesTell plant told arrivals
  pub came : CameSoFar first arrivals differing standby passed

-- The same of the lines that stand before this rest of a text.
pub record HasCome (plant : PlantData) (text rest : List ℕ) (count : ℕ) (first : Data)
    (differing : Option ℕ) (standby : Data) (passed : Passed) : Type 0 where
  pub so_far : IsToldSoFar plant text rest count
  pub came : CameSoFar first so_far.told.arrivals differing standby passed

-- The telling of where a standby stands ends so.
abbrev pub Stands : Data → Passed → End → Type 0
Stands standby passed end =
    (end ≡ out_of_memory) ⊎ (end ≡ done (standing_text standby passed))
