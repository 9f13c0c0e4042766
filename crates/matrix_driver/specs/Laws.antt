-- What is true of every run of a driver and its frame.
use Rattle.std.specs.Prelude.{◌≡◌, ◌↔◌, ℕ, nat_eq, true, if◌then◌else◌, List, [], ◌∷◌, Option, Some, None}
use Rattle.std.specs.Option.{option_or}
use Rattle.std.specs.FinMap.{get}
use Rattle.swp08_messages.specs.declared.message.Message.{Message}
use Rattle.matrix_driver.specs.declared.crosspoint.Crosspoint.{Crosspoint}
use Rattle.matrix_driver.specs.declared.level.Level.{Level}
use Rattle.matrix_driver.specs.Levels.{IsLevel}
use Rattle.matrix_driver.specs.Messages.{connected, is_answer}
use Rattle.matrix_driver.specs.World.{World, Step, Wanted, Carried, new_world, Runs}

-- A message answers the connect of a crosspoint exactly where it is the one message by which the frame tells it.
abbrev pub AnswersAreExact : Level → Crosspoint → Type 0
AnswersAreExact level crosspoint = (message : Message)
    → (is_answer level crosspoint message ≡ true) ↔ (message ≡ connected level crosspoint)

-- What the driver counts as settled, the frame has.
abbrev pub SettledIsHad : World → Type 0
SettledIsHad world = (dest : ℕ) (source : Option ℕ)
    → get world.driver.progress.settled dest ≡ Some source → world.carried dest ≡ source

-- After every list of steps from a new driver, with nothing on the way and whatever the frame carries, what the driver
-- counts as settled, the frame has.
abbrev pub AlwaysHad : Level → Type 0
AlwaysHad level = IsLevel level → (carried : Carried) (steps : List Step) (world : World)
    → Runs (new_world level carried) steps world → SettledIsHad world

-- what a step wants of a destination, none where it wants nothing of it
abbrev pub wanted_by : Step → ℕ → Option (Option ℕ)
wanted_by (Wanted at source) dest = if nat_eq dest at then Some source else None
wanted_by step dest = None

-- what was wanted last of a destination by these steps, none where nothing was
abbrev pub wanted_last : List Step → ℕ → Option (Option ℕ)
wanted_last [] dest = None
wanted_last (step ∷ steps) dest = option_or (wanted_last steps dest) (wanted_by step dest)

-- A destination is settled at a source, and the frame has it there.
pub record IsSettledAt (world : World) (dest : ℕ) (source : Option ℕ) : Type 0 where
  pub settled : get world.driver.progress.settled dest ≡ Some source
  pub had : world.carried dest ≡ source

-- Each destination of which these steps wanted something is settled at what they wanted last.
abbrev pub AreDone : List Step → World → Type 0
AreDone steps world = (dest : ℕ) (source : Option ℕ) → wanted_last steps dest ≡ Some source
    → IsSettledAt world dest source

-- After every list of steps from a new driver, where nothing is outstanding each destination of which something was wanted
-- is settled at what was wanted last, and the frame has it there.
abbrev pub DoneWhereQuiet : Level → Type 0
DoneWhereQuiet level = IsLevel level → (carried : Carried) (steps : List Step) (world : World)
    → Runs (new_world level carried) steps world → world.driver.outstanding ≡ None
    → AreDone steps world
