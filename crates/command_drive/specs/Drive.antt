-- The one drive of a number and a count of wants: a driver of the bench level and the frame that it drives, over a line that
-- loses messages by a rule.
use Rattle.std.specs.Prelude.{◌≡◌, ℕ, zero, suc, ◌+◌, ◌%◌, ◌<◌, nat_le, nat_eq, Bool, true, false, ◌||◌, if◌then◌else◌}
use Rattle.std.specs.Prelude.{List, [], ◌∷◌, ◌++◌, length, Some, None, is_none}
use Rattle.std.specs.Option.{option_to_list}
use Rattle.swp08_messages.specs.declared.message.Message.{Message}
use Rattle.matrix_driver.specs.declared.event.DriverEvent.{DriverEvent}
use Rattle.matrix_driver.specs.declared.event.DriverEvent.TheVariants.{Want, Heard, Timeout}
use Rattle.matrix_driver.specs.declared.level.Level.{Level}
use Rattle.matrix_driver.specs.Levels.{short_level}
use Rattle.matrix_driver.specs.Driver.{happens, answer}
use Rattle.matrix_driver.specs.World.{World, new_world, made_by, told_by}

-- a drive at a moment: the driver, the line and the frame, how many messages were put on the way to the frame, and how many
-- on the way back, lost ones too
pub record Drive : Type 0 where
  pub world : World
  pub sent : ℕ
  pub told : ℕ

-- the level of the bench plant, whose 32 destinations and sources are numbered from 0
abbrev pub bench_level : Level
bench_level = short_level 0 0 32

-- Of the messages that are put on a way, each one whose number, counted from 1, this divides is lost: every third to the
-- frame, and every fifth back.
abbrev pub lost_to_frame : ℕ
lost_to_frame = 3

abbrev pub lost_to_driver : ℕ
lost_to_driver = 5

abbrev pub is_lost : ℕ → ℕ → Bool
is_lost every number = nat_eq (number % every) 0

-- A message is put at the end of a way, as the one of this number.
abbrev pub put_one : ℕ → ℕ → List Message → Message → List Message
put_one every number way message = if is_lost every number then way else way ++ message ∷ []

-- Messages are put at the end of a way, one behind another, on which so many were put before.
abbrev pub put : ℕ → ℕ → List Message → List Message → List Message
put every before way [] = way
put every before way (message ∷ messages) =
    put every (suc before) (put_one every (suc before) way message) messages

-- at first nothing is wanted and nothing is on the line, and all destinations of the frame are parked
abbrev pub start : Drive
start = record { world = new_world bench_level (λ dest. None); sent = 0; told = 0 }

-- An event comes to the driver, and its answer is put on the way to the frame.
abbrev pub comes : Drive → DriverEvent → Drive
comes drive event =
    let sent = option_to_list (answer drive.world.driver event) in
    record {
      world = record drive.world {
        driver = (happens drive.world.driver event).driver;
        to_frame = put lost_to_frame drive.sent drive.world.to_frame sent;
      };
      sent = drive.sent + length sent;
      told = drive.told;
    }

-- The frame takes a message, makes the connect, and what it tells is put on the way back. These stay on the way to it.
abbrev pub takes : Drive → Message → List Message → Drive
takes drive message rest = record {
  world = record drive.world {
    to_frame = rest;
    to_driver = put lost_to_driver drive.told drive.world.to_driver (told_by message);
    carried = made_by drive.world.carried message;
  };
  sent = drive.sent;
  told = drive.told + length (told_by message);
}

-- The driver hears a message. These stay on the way to it.
abbrev pub hears : Drive → Message → List Message → Drive
hears drive message rest =
    comes (record drive { world = record drive.world { to_driver = rest } }) (Heard message)

-- One turn: the driver hears, where something is on the way back; else the frame takes, where something is on the way to it;
-- else an answer is overdue. The messages on the way back and those on the way to the frame are given.
abbrev pub turned : Drive → List Message → List Message → Drive
turned drive (first ∷ rest) forth = hears drive first rest
turned drive [] (first ∷ rest) = takes drive first rest
turned drive [] [] = comes drive Timeout

abbrev pub turn : Drive → Drive
turn drive = turned drive drive.world.to_driver drive.world.to_frame

-- so many turns
abbrev pub turns : ℕ → Drive → Drive
turns zero drive = drive
turns (suc count) drive = turns count (turn drive)

-- the want of this place in a drive of this number
abbrev pub want : ℕ → ℕ → DriverEvent
want number place = Want (place % 32) (Some ((number + place) % 32))

-- so many wants from the start
abbrev pub wanted : ℕ → ℕ → Drive
wanted number zero = start
wanted number (suc place) = comes (wanted number place) (want number place)

-- the most messages to the frame, lost ones too
abbrev pub most_sent : ℕ
most_sent = 4096

-- A drive is over once nothing is outstanding, or so many messages were sent.
abbrev pub is_over : Drive → Bool
is_over drive = is_none drive.world.driver.outstanding || nat_le most_sent drive.sent

-- All wants come first, then turns until the drive is over, and none behind that: so this is the end of the one drive.
pub record IsEnd (number wants : ℕ) (drive : Drive) : Type 0 where
  pub count : ℕ
  pub is : drive ≡ turns count (wanted number wants)
  pub over : is_over drive ≡ true
  pub before : (fewer : ℕ) → fewer < count
      → is_over (turns fewer (wanted number wants)) ≡ false
