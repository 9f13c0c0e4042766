-- What goes on by itself, where nothing is lost and nothing more is wanted.
use Rattle.std.specs.Prelude.{◌≡◌, ℕ, ◌+◌, ◌*◌, zero, suc, List, [], ◌∷◌, length, count_by, None}
use Rattle.std.specs.List.{range_with_len}
use Rattle.swp08_messages.specs.declared.message.Message.{Message}
use Rattle.matrix_driver.specs.declared.event.DriverEvent.TheVariants.{Timeout}
use Rattle.matrix_driver.specs.declared.level.Level.{Level}
use Rattle.matrix_driver.specs.Levels.{IsLevel}
use Rattle.matrix_driver.specs.Progress.{Progress, is_due}
use Rattle.matrix_driver.specs.World.{World, Step, Overdue, Taken, Told, Carried, new_world, comes, takes, hears_of, Runs}

-- One turn: the driver hears, where something is on the way back; else the frame takes, where something is on the way to it;
-- else an answer is overdue. The messages on the way back and those on the way to the frame are given.
abbrev pub turned : World → List Message → List Message → World
turned world (first ∷ rest) forth = hears_of world first rest
turned world [] (first ∷ rest) = takes world first rest
turned world [] [] = comes world Timeout

abbrev pub turn : World → World
turn world = turned world world.to_driver world.to_frame

-- so many turns
abbrev pub turns : ℕ → World → World
turns zero world = world
turns (suc count) world = turns count (turn world)

-- how many destinations are wanted and not settled at their wanted source
abbrev pub due_count : Progress → ℕ
due_count progress = count_by (is_due progress) (range_with_len 0 progress.room)

-- Turns that suffice: two for each message on the way to the frame, one for each on the way back, three for each destination
-- that isn't settled as wanted, and six, for an outstanding connect that was lost or isn't wanted any more.
abbrev pub turns_enough : World → ℕ
turns_enough world =
    2 * length world.to_frame + length world.to_driver + 3 * due_count world.driver.progress + 6

-- After so many turns nothing is outstanding, whatever steps of loss and want came before.
abbrev pub SettlesAll : Level → Type 0
SettlesAll level = IsLevel level → (carried : Carried) (steps : List Step) (world : World)
    → Runs (new_world level carried) steps world
    → (turns (turns_enough world) world).driver.outstanding ≡ None

-- A step that neither loses a message nor wants anything.
abbrev pub IsQuiet : Step → Type 0
IsQuiet Overdue = Unit {0}
IsQuiet Taken = Unit {0}
IsQuiet Told = Unit {0}
IsQuiet step = ⊥

-- A turn is a step of the world, which neither loses a message nor wants anything.
pub record IsTurn (world : World) : Type 0 where
  pub step : Step
  pub quiet : IsQuiet step
  pub run : Runs world (step ∷ []) (turn world)
