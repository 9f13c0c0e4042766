-- The driver as plain data, and what each event makes of it.
use Rattle.std.specs.Prelude.{ℕ, ◌||◌, is_some, if◌then◌else◌, Option, Some, None, refl}
use Rattle.std.specs.Option.{option_map}
use Rattle.std.specs.Coded.{Coded, code_by, coded×, coded_ℕ, coded_option}
use Rattle.swp08_messages.specs.declared.message.Message.{Message}
use Rattle.matrix_driver.specs.declared.crosspoint.Crosspoint.{Crosspoint}
use Rattle.matrix_driver.specs.declared.level.Level.{Level}
use Rattle.matrix_driver.specs.declared.event.DriverEvent.{DriverEvent}
use Rattle.matrix_driver.specs.declared.event.DriverEvent.TheVariants.{Want, Heard, Nak, Timeout}
use Rattle.matrix_driver.specs.Levels.{IsOf}
use Rattle.matrix_driver.specs.Messages.{connect, is_answer}
use Rattle.matrix_driver.specs.Progress.{Progress, progress_code, blank, crosspoint_of, is_settled, next}
use Rattle.matrix_driver.specs.Progress.{noted, settled_at, opened}

-- a driver: its level, what is wanted and settled, and the crosspoint whose connect isn't answered yet
pub record Data : Type 0 where
  pub level : Level
  pub progress : Progress
  pub outstanding : Option Crosspoint

-- crosspoints, levels and drivers, as they are stored
abbrev pub crosspoint_code : Coded Crosspoint
crosspoint_code =
    code_by (ℕ × Option ℕ) (coded× coded_ℕ (coded_option coded_ℕ))
    (λ crosspoint. (crosspoint.dest, crosspoint.source))
    (λ pair. record { dest = pair.0; source = pair.1 }) (λ _. refl)

abbrev pub level_code : Coded Level
level_code =
    code_by (ℕ × (ℕ × (ℕ × ℕ))) (coded× coded_ℕ (coded× coded_ℕ (coded× coded_ℕ coded_ℕ)))
    (λ level. (level.matrix, (level.number, (level.destinations, level.sources))))
    (λ tuple. record {
      matrix = tuple.0;
      number = tuple.1.0;
      destinations = tuple.1.1.0;
      sources = tuple.1.1.1;
    })
    (λ _. refl)

abbrev pub data_code : Coded Data
data_code =
    code_by (Level × (Progress × Option Crosspoint))
    (coded× level_code (coded× progress_code (coded_option crosspoint_code)))
    (λ driver. (driver.level, (driver.progress, driver.outstanding)))
    (λ tuple. record { level = tuple.0; progress = tuple.1.0; outstanding = tuple.1.1 })
    (λ _. refl)

-- a new driver: nothing was wanted and nothing is outstanding
abbrev pub start : Level → Data
start level = record { level = level; progress = blank level.destinations; outstanding = None }

-- what an event makes of a driver, and the crosspoint whose connect is sent, if one is
pub record Outcome : Type 0 where
  pub driver : Data
  pub sent : Option Crosspoint

-- nothing is sent
abbrev pub silent : Data → Outcome
silent driver = record { driver = driver; sent = None }

-- The connect of a crosspoint is sent: it becomes outstanding, and its destination isn't settled. Where there is none,
-- nothing is outstanding from now on.
abbrev pub sends : Level → Progress → Option Crosspoint → Outcome
sends level progress None =
    silent (record { level = level; progress = progress; outstanding = None })
sends level progress (Some crosspoint) = record {
  driver = record {
    level = level;
    progress = opened progress crosspoint.dest;
    outstanding = Some crosspoint;
  };
  sent = Some crosspoint;
}

-- A wanted source is recorded. Where nothing is outstanding and the destination isn't settled at it, its connect is sent.
abbrev pub wants : Data → Crosspoint → Outcome
wants driver crosspoint =
    let progress = noted driver.progress crosspoint in
    if is_some driver.outstanding || is_settled driver.progress crosspoint
    then silent (record driver { progress = progress })
    else sends driver.level progress (Some crosspoint)

-- The outstanding crosspoint was made: its destination is settled at its source, and the connect of the lowest destination
-- that is wanted and not settled at its wanted source is sent, where there is one.
abbrev pub made : Data → Crosspoint → Outcome
made driver crosspoint =
    let progress = settled_at driver.progress crosspoint in
    sends driver.level progress (next progress)

-- A message is heard: the answer to the outstanding connect, or else nothing changes.
abbrev pub hears : Data → Option Crosspoint → Message → Outcome
hears driver None message = silent driver
hears driver (Some crosspoint) message =
    if is_answer driver.level crosspoint message then made driver crosspoint else silent driver

-- the outstanding connect is sent again, where there is one
abbrev pub repeats : Data → Outcome
repeats driver = record { driver = driver; sent = driver.outstanding }

-- what an event makes of a driver
abbrev pub happens : Data → DriverEvent → Outcome
happens driver (Want dest source) = wants driver (crosspoint_of dest source)
happens driver (Heard message) = hears driver driver.outstanding message
happens driver Nak = repeats driver
happens driver Timeout = repeats driver

-- the message that is sent
abbrev pub message_of : Level → Option Crosspoint → Option Message
message_of level crosspoint = option_map (connect level) crosspoint

abbrev pub answer : Data → DriverEvent → Option Message
answer driver event = message_of driver.level (happens driver event).sent

-- An event may come: what is wanted is a crosspoint of the level.
abbrev pub MayCome : Level → DriverEvent → Type 0
MayCome level (Want dest source) = IsOf level (crosspoint_of dest source)
MayCome level (Heard message) = Unit {0}
MayCome level Nak = Unit {0}
MayCome level Timeout = Unit {0}
