-- What is true of every drive.
use Rattle.std.specs.Prelude.{◌≡◌, ℕ, List, None}
use Rattle.matrix_driver.specs.World.{Step, new_world, Runs}
use Rattle.command_drive.specs.Drive.{Drive, bench_level, wanted, turns, IsEnd}

-- A drive is a run of the world: each message that is lost was put, and lost behind that.
pub record IsRun (drive : Drive) : Type 0 where
  pub steps : List Step
  pub run : Runs (new_world bench_level (λ dest. None)) steps drive.world

-- So it is after any wants and turns.
abbrev pub DrivesAreRuns : Type 0
DrivesAreRuns = (number wants count : ℕ) → IsRun (turns count (wanted number wants))

-- There is no second end of the drive of these numbers.
abbrev pub EndsAreOne : Type 0
EndsAreOne = (number wants : ℕ) (one other : Drive) → IsEnd number wants one
    → IsEnd number wants other → one ≡ other
