-- The messages about a crosspoint: the one that asks for it, and the one that tells that it was made.
use Rattle.std.specs.Prelude.{ℕ, nat_lt, nat_eq, Bool, true, false, not, ◌&&◌, if◌then◌else◌, Option}
use Rattle.std.specs.Option.{option_map_or, option_eq}
use Rattle.swp08_messages.specs.declared.point.Point.{Point}
use Rattle.swp08_messages.specs.declared.message.Message.{Message}
use Rattle.swp08_messages.specs.declared.message.Message.TheVariants.{Connect, Connected, ExtConnect, ExtConnected}
use Rattle.swp08_messages.specs.Field.{dests, parked}
use Rattle.matrix_driver.specs.declared.crosspoint.Crosspoint.{Crosspoint}
use Rattle.matrix_driver.specs.declared.level.Level.{Level}

-- whether both numbers have room in the short commands; a parked destination's source has
abbrev pub is_short : Crosspoint → Bool
is_short crosspoint =
    nat_lt crosspoint.dest dests
    && option_map_or (λ source. nat_lt source parked) crosspoint.source true

-- a destination by its place in the frame
abbrev pub point : Level → ℕ → Point
point level dest = record { matrix = level.matrix; level = level.number; dest = dest }

-- the message that asks the frame for a crosspoint: the short command where it has room for both numbers
abbrev pub connect : Level → Crosspoint → Message
connect level crosspoint =
    if is_short crosspoint then Connect (point level crosspoint.dest) crosspoint.source
    else ExtConnect (point level crosspoint.dest) crosspoint.source

-- the message by which the frame tells that it made the crosspoint, in the same commands
abbrev pub connected : Level → Crosspoint → Message
connected level crosspoint =
    if is_short crosspoint then Connected (point level crosspoint.dest) crosspoint.source
    else ExtConnected (point level crosspoint.dest) crosspoint.source

-- whether a place and a source are those of a crosspoint of the level
abbrev pub is_about : Level → Crosspoint → Point → Option ℕ → Bool
is_about level crosspoint at source =
    nat_eq at.matrix level.matrix && nat_eq at.level level.number
    && nat_eq at.dest crosspoint.dest && option_eq nat_eq source crosspoint.source

-- whether a message tells that the crosspoint was made: whether it is that message
abbrev pub is_answer : Level → Crosspoint → Message → Bool
is_answer level crosspoint (Connected at source) =
    is_short crosspoint && is_about level crosspoint at source
is_answer level crosspoint (ExtConnected at source) =
    not (is_short crosspoint) && is_about level crosspoint at source
is_answer level crosspoint message = false
