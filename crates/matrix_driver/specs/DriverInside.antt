-- What is true of every driver.
use Rattle.std.specs.Prelude.{◌≡◌, ℕ, true, false, Option, Some, None}
use Rattle.std.specs.FinMap.{get}
use Rattle.matrix_driver.specs.declared.crosspoint.Crosspoint.{Crosspoint}
use Rattle.matrix_driver.specs.declared.level.Level.{Level}
use Rattle.matrix_driver.specs.Levels.{IsLevel, IsOf}
use Rattle.matrix_driver.specs.Progress.{Progress, crosspoint_of, is_due}
use Rattle.matrix_driver.specs.Driver.{Data}

-- What is wanted is of the level, and there is room for its destinations.
pub record IsProgressOf (level : Level) (progress : Progress) : Type 0 where
  pub room : progress.room ≡ level.destinations
  pub wanted : (dest : ℕ) (source : Option ℕ) → get progress.wants dest ≡ Some source
      → IsOf level (crosspoint_of dest source)

-- Where nothing is outstanding, each wanted destination is settled at what was wanted last. The outstanding crosspoint's
-- destination is wanted and not settled.
pub record IsDriver (driver : Data) : Type 0 where
  pub level : IsLevel driver.level
  pub progress : IsProgressOf driver.level driver.progress
  pub done : driver.outstanding ≡ None
      → (dest : ℕ) → is_due driver.progress dest ≡ false
  pub sent : (crosspoint : Crosspoint) → driver.outstanding ≡ Some crosspoint
      → IsOf driver.level crosspoint
  pub due : (crosspoint : Crosspoint) → driver.outstanding ≡ Some crosspoint
      → is_due driver.progress crosspoint.dest ≡ true
  pub unsettled : (crosspoint : Crosspoint) → driver.outstanding ≡ Some crosspoint
      → get driver.progress.settled crosspoint.dest ≡ None
