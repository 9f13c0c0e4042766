-- A level of a frame, and what may be wanted of it.
use Rattle.std.specs.Prelude.{ℕ, ◌<◌, ◌≤◌, Option, Some, None}
use Rattle.swp08_messages.specs.Field.{levels, parked, ext_parked, wide_numbers}
use Rattle.matrix_driver.specs.declared.crosspoint.Crosspoint.{Crosspoint}
use Rattle.matrix_driver.specs.declared.level.Level.{Level}

-- a level whose sources have room in the short commands, and one whose sources need the extended ones
abbrev pub short_level : ℕ → ℕ → ℕ → Level
short_level matrix number destinations =
    record { matrix = matrix; number = number; destinations = destinations; sources = parked }

abbrev pub wide_level : ℕ → ℕ → ℕ → Level
wide_level matrix number destinations =
    record { matrix = matrix; number = number; destinations = destinations; sources = ext_parked }

-- A level's numbers have room in a message.
pub record IsLevel (level : Level) : Type 0 where
  pub matrix : level.matrix < levels
  pub number : level.number < levels
  pub destinations : level.destinations ≤ wide_numbers
  pub sources : level.sources ≤ ext_parked

-- A source is parked, or its number is below this.
abbrev pub IsBelow : ℕ → Option ℕ → Type 0
IsBelow limit None = Unit {0}
IsBelow limit (Some source) = source < limit

-- A crosspoint is one of the level: it has the destination, and the source if there is one.
pub record IsOf (level : Level) (crosspoint : Crosspoint) : Type 0 where
  pub dest : crosspoint.dest < level.destinations
  pub source : IsBelow level.sources crosspoint.source
