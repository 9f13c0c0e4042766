-- Why what the driver counts as settled is what the frame carries.
--
-- A round begins when a connect becomes outstanding that wasn't. Its copies are that connect, as often as it is sent, and
-- the answers of the frame to it. Read the messages on the way back and then those on the way to the frame as one list:
-- the frame takes the first of the second part and puts its answer at the end of the first, so that the list stays as it
-- is, copy by copy. New copies come at its end, the driver hears its beginning, and a loss leaves one out. So it holds
-- first only copies of the round before, and then only copies of the present one:
--
--     on the way back         on the way to the frame
--     before  before  before | before  present  present
--
-- An answer that fits the outstanding connect is a copy of the present round, since two rounds in succession have different
-- connects. Then nothing of the round before is on the way any more: the frame took the present connect, and no other one
-- since. And what is left of a round when the next one begins can do no harm: its connect is the one at which its
-- destination is settled, if it is settled.
use Rattle.std.specs.Prelude.{◌≡◌, ◌≢◌, ℕ, ◌⊎◌, List, [], ◌∷◌, ◌++◌, map, Option, Some, None}
use Rattle.std.specs.List.{AllByRecursion}
use Rattle.std.specs.FinMap.{get}
use Rattle.number_tables.specs.Table.{Entries}
use Rattle.matrix_driver.specs.declared.crosspoint.Crosspoint.{Crosspoint}
use Rattle.matrix_driver.specs.Messages.{connect, connected}
use Rattle.matrix_driver.specs.DriverInside.{IsDriver}
use Rattle.matrix_driver.specs.World.{World}

-- A copy of the round before isn't one of the present round.
pub record IsOld (before present copy : Crosspoint) : Type 0 where
  pub is : copy ≡ before
  pub other : copy ≢ present

-- First there are only copies of the round before, and then only copies of the present one.
abbrev pub InRounds : Crosspoint → Crosspoint → List Crosspoint → Type 0
InRounds before present [] = Unit {0}
InRounds before present (copy ∷ copies) =
    (IsOld before present copy × InRounds before present copies)
    ⊎ ((copy ≡ present) × AllByRecursion (λ one. one ≡ present) copies)

-- Its destination is settled at its source, if it is settled.
abbrev pub Agrees : Entries (Option ℕ) → Crosspoint → Type 0
Agrees settled copy = (source : Option ℕ)
    → get settled copy.dest ≡ Some source → source ≡ copy.source

-- It is of the present round, which is over: its destination is settled at its source.
pub record IsOver (settled : Entries (Option ℕ)) (present copy : Crosspoint) : Type 0 where
  pub is : copy ≡ present
  pub at : get settled copy.dest ≡ Some copy.source

-- What is kept at every step of a world.
pub record IsKept (world : World) : Type 0 where
  pub is_driver : IsDriver world.driver
  -- the two rounds, and the copies on both ways
  pub before : Crosspoint
  pub present : Crosspoint
  pub forth : List Crosspoint
  pub back : List Crosspoint
  pub to_frame : world.to_frame ≡ map (connect world.driver.level) forth
  pub to_driver : world.to_driver ≡ map (connected world.driver.level) back
  pub rounds : InRounds before present (back ++ forth)
  -- the outstanding crosspoint is that of the present round; once it was heard only the present round is left
  pub sent : (copy : Crosspoint) → world.driver.outstanding ≡ Some copy → copy ≡ present
  pub over : world.driver.outstanding ≡ None
      → AllByRecursion (IsOver world.driver.progress.settled present) (back ++ forth)
  pub agree : AllByRecursion (Agrees world.driver.progress.settled) (back ++ forth)
  -- where an answer of the present round is on the way back, the frame has made its connect and no other one since
  pub answered : AllByRecursion
      (λ copy. copy ≡ present → world.carried copy.dest ≡ copy.source) back
  -- what the driver counts as settled, the frame has
  pub had : (dest : ℕ) (source : Option ℕ)
      → get world.driver.progress.settled dest ≡ Some source → world.carried dest ≡ source
