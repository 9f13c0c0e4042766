-- What a message's row makes of it: the one canonical DATA, the ranges, and what it is for.
use Rattle.std.specs.Prelude.{ℕ, ◌<◌, List, ◌∷◌, map}
use Rattle.std.specs.List.{AllByRecursion}
use Rattle.swp08_messages.specs.declared.point.Point.{Point}
use Rattle.swp08_messages.specs.declared.message.Message.{Message}
use Rattle.swp08_messages.specs.declared.message.Message.TheVariants.{Tally, Connected}
use Rattle.swp08_messages.specs.declared.message.MessageKind.{MessageKind}
use Rattle.swp08_messages.specs.Field.{levels, dests, wide_numbers, byte_of, HasRoom}
use Rattle.swp08_messages.specs.Row.{row}
pub use Rattle.swp08_messages.specs.Field.{IsSource, IsExtSource}

-- the most bytes of a message's DATA [profile]
abbrev pub max_len : ℕ
max_len = 8

-- the canonical DATA of a message: its command, and the byte of each field [profile]
abbrev pub text : Message → List ℕ
text message = (row message).command ∷ map byte_of (row message).fields

-- A message is in its ranges: each of its fields is. [profile]
abbrev pub InRange : Message → Type 0
InRange message = AllByRecursion HasRoom (row message).fields

-- what a message is for [profile]
abbrev pub kind_of : Message → MessageKind
kind_of message = (row message).kind

-- A message tells a crosspoint in five bytes: it is a tally or a connected, and not one of the extended commands. [profile]
abbrev pub TellsInFiveBytes : Message → Type 0
TellsInFiveBytes (Tally at source) = Unit {0}
TellsInFiveBytes (Connected at source) = Unit {0}
TellsInFiveBytes message = ⊥

-- A destination's place is in its ranges. [SW-P-08]
pub record IsPoint (at : Point) : Type 0 where
  pub matrix : at.matrix < levels
  pub level : at.level < levels
  pub dest : at.dest < dests

-- The same in the extended commands. [profile]
pub record IsExtPoint (at : Point) : Type 0 where
  pub matrix : at.matrix < levels
  pub level : at.level < levels
  pub dest : at.dest < wide_numbers
