-- How the code of a drive stands for it.
use Rattle.std.specs.Prelude.{◌≡◌, ◌⊎◌, ℕ, ◌+◌, ◌-◌, ◌*◌, ◌<◌, ◌≤◌, nat_eq, Bool, false, List, [], ◌∷◌, length, All, Option, Some, None, true, vec_capacity}
use Rattle.std.specs.List.{flat_map}
use Rattle.std.specs.Option.{option_map_or, option_eq}
use Rattle.std.specs.FinMap.{get}
use Rattle.swp08_messages.specs.declared.message.Message.{Message}
use Rattle.swp08_messages.specs.declared.message.Message.TheVariants.{Connect}
use Rattle.swp08_messages.specs.Text.{InRange, text}
use Rattle.dle_framing.specs.Numbers.{most_frame}
use Rattle.dle_framing.specs.Frame.{frame}
use Rattle.dle_framing.specs.Framer.{StandsFor}
use Rattle.plant_config.specs.Bench.{bench}
use Rattle.crosspoint_state.specs.Crosspoints.{source_of}
use Rattle.plant_core.specs.Answer.{room_of}
use Rattle.matrix_driver.specs.declared.crosspoint.Crosspoint.{Crosspoint}
use Rattle.matrix_driver.specs.Messages.{point}
use Rattle.matrix_driver.specs.Progress.{crosspoint_of}
use Rattle.matrix_driver.specs.Driver.{Data}
use Rattle.matrix_driver.specs.World.{World, Carried}
use Rattle.command_words.specs.Parts.{NoMore, AllSaid, AllSay}
use Rattle.command_rows.specs.End.{End, done, out_of_memory}
use Rattle.command_drive.specs.declared.way.Way.{Way}
use Rattle.command_drive.specs.declared.bench_frame.BenchFrame.{BenchFrame}
use Rattle.command_drive.specs.declared.bench.Bench.{Bench}
use Rattle.command_drive.specs.declared.asked.Asked.{Asked}
use Rattle.command_drive.specs.declared.text.Counts.{Counts}
use Rattle.command_drive.specs.Drive.{Drive, bench_level, lost_to_frame, lost_to_driver, most_sent, turns, is_over}
use Rattle.command_drive.specs.DriveRow.{parts, drive_lines}

-- the frames of these messages
abbrev pub frames_of : List Message → List ℕ
frames_of messages = flat_map (λ message. frame (text message)) messages

-- A way is for messages of which every so many-th is lost, so many were put on it, and these are on it: one at most.
pub record Carries (way : Way) (every count : ℕ) (messages : List Message) : Type 0 where
  pub loses : way.every ≡ every
  pub counts : way.count ≡ count
  pub bytes : way.bytes.items ≡ frames_of messages
  pub in_range : All InRange messages
  pub few : length messages ≤ 1
  pub framer : StandsFor way.framer []

-- There is room for a frame and for the DATA of a message.
pub record HasRoom (way : Way) : Type 0 where
  pub frame : most_frame ≤ vec_capacity way.bytes
  pub carried : 8 ≤ vec_capacity way.data
  pub some : 1 ≤ way.every

-- A crosspoint is one of the bench level, with a source.
pub record IsBench (crosspoint : Crosspoint) : Type 0 where
  pub dest : crosspoint.dest < 32
  pub source : ℕ
  pub is : crosspoint.source ≡ Some source
  pub few : source < 32

-- A message asks for a crosspoint of the bench level.
pub record IsConnect (message : Message) : Type 0 where
  pub dest : ℕ
  pub source : ℕ
  pub dest_few : dest < 32
  pub source_few : source < 32
  pub asks : message ≡ Connect (point bench_level dest) (Some source)

-- A frame is a plant of the bench, where no destination is protected, with room for its answers.
pub record IsFrame (it : BenchFrame) : Type 0 where
  pub plant : it.state.plant ≡ bench
  pub free : (dest : ℕ) → get it.state.owners dest ≡ None
  pub room : room_of bench ≤ it.answers.places

-- Its destinations carry these sources.
abbrev pub HasSources : BenchFrame → Carried → Type 0
HasSources it carried =
    (dest : ℕ) → dest < 32 → source_of it.state.crosspoints dest ≡ carried dest

-- A driver drives the bench level: what is wanted or outstanding is of it.
pub record IsBenchDriver (driver : Data) : Type 0 where
  pub level : driver.level ≡ bench_level
  pub wants : (dest : ℕ) (source : Option ℕ) → get driver.progress.wants dest ≡ Some source
      → IsBench (crosspoint_of dest source)
  pub outstanding : (crosspoint : Crosspoint) → driver.outstanding ≡ Some crosspoint
      → IsBench crosspoint

-- Nothing is on the line.
abbrev pub IsEmptyLine : World → Type 0
IsEmptyLine world = (world.to_frame ≡ []) × (world.to_driver ≡ [])

-- What is true of each moment of a drive: the driver drives the bench level, and what is on the way to the frame asks for
-- that. One message at most is on the line, and none where nothing is outstanding. Nothing has come back that wasn't sent.
pub record IsRegular (drive : Drive) : Type 0 where
  pub is_driver : IsBenchDriver drive.world.driver
  pub asked : All IsConnect drive.world.to_frame
  pub one : length drive.world.to_frame + length drive.world.to_driver ≤ 1
  pub idle : drive.world.driver.outstanding ≡ None → IsEmptyLine drive.world
  pub told : drive.told + length drive.world.to_frame ≤ drive.sent

-- The driver, the line and the frame are those of a drive.
pub record Shows (it : Bench) (drive : Drive) : Type 0 where
  pub driver : it.driver ≡ drive.world.driver
  pub to_frame : Carries it.to_frame lost_to_frame drive.sent drive.world.to_frame
  pub to_driver : Carries it.to_driver lost_to_driver drive.told drive.world.to_driver
  pub sources : HasSources it.frame drive.world.carried

-- whether a destination is settled at the source that it has in the frame
abbrev pub agrees_at : Bench → ℕ → Bool
agrees_at it dest =
    option_map_or (λ source. option_eq nat_eq (source_of it.frame.state.crosspoints dest) source)
    (get it.driver.progress.settled dest) false

-- They have the room that they need.
pub record IsReady (it : Bench) : Type 0 where
  pub to_frame : HasRoom it.to_frame
  pub to_driver : HasRoom it.to_driver
  pub frame : IsFrame it.frame

-- They are those of a drive at some moment.
pub record Stands (it : Bench) : Type 0 where
  pub drive : Drive
  pub shows : Shows it drive
  pub regular : IsRegular drive

-- So many turns have come from this moment of a drive, and it wasn't over before any of them.
pub record HasTurned (first : Drive) (it : Bench) : Type 0 where
  pub count : ℕ
  pub shows : Shows it (turns count first)
  pub before : (fewer : ℕ) → fewer < count → is_over (turns fewer first) ≡ false

-- They have come from this moment of a drive to its end, by so many turns and no fewer.
pub record ComesToEnd (first : Drive) (it : Bench) : Type 0 where
  pub count : ℕ
  pub shows : Shows it (turns count first)
  pub over : is_over (turns count first) ≡ true
  pub before : (fewer : ℕ) → fewer < count → is_over (turns fewer first) ≡ false

-- one where there are bytes
abbrev pub some_of : List ℕ → ℕ
some_of [] = 0
some_of (byte ∷ bytes) = 1

-- how much is left to do at most, where so many messages were sent, and these bytes are on the ways to the frame and back
abbrev pub left : ℕ → List ℕ → List ℕ → ℕ
left sent to_frame to_driver = 3 * (most_sent - sent) + 2 * some_of to_frame + some_of to_driver

abbrev pub left_of : Bench → ℕ
left_of it = left it.to_frame.count it.to_frame.bytes.items it.to_driver.bytes.items

-- Words ask for this drive, whatever they say.
abbrev pub AskFor : List (List ℕ) → Asked → Type 0
AskFor words asked = (said : AllSaid parts NoMore) → AllSay 0 parts NoMore words said
    → (asked.number ≡ said.0) × (asked.wants ≡ said.1.0)

-- The telling of what a drive came to ends so.
abbrev pub TellsEnds : Counts → End → Type 0
TellsEnds counts end = (end ≡ out_of_memory)
    ⊎ (end ≡ done (drive_lines counts.wants counts.sent counts.settled counts.agree))
