-- Which numbers the commands can tell that have 1,024 destinations and 1,023 sources, which levels are wide, and by which
-- messages a crosspoint is asked for, made and told.
use Rattle.std.specs.Prelude.{ℕ, nat_lt, Bool, true, false, ◌&&◌, ◌||◌, if◌then◌else◌, Option, Some, None}
use Rattle.std.specs.Option.{option_map_or}
use Rattle.swp08_messages.specs.declared.point.Point.{Point}
use Rattle.swp08_messages.specs.declared.message.Message.{Message}
use Rattle.swp08_messages.specs.declared.message.Message.TheVariants.{Interrogate, Connect, Tally, Connected}
use Rattle.swp08_messages.specs.declared.message.Message.TheVariants.{ExtInterrogate, ExtConnect, ExtTally, ExtConnected}
use Rattle.swp08_messages.specs.Field.{dests, parked}
use Rattle.plant_config.specs.declared.records.Level.{Level}
use Rattle.plant_config.specs.Plant.{PlantData}
use Rattle.plant_config.specs.Sites.{level_at}

-- whether the commands that aren't extended can tell a destination's number, and a source
abbrev pub is_short_dest : ℕ → Bool
is_short_dest number = nat_lt number dests

abbrev pub is_short_source : Option ℕ → Bool
is_short_source None = true
is_short_source (Some number) = nat_lt number parked

-- whether a level has more destinations or more sources than those commands can tell
abbrev pub is_wide : Level → Bool
is_wide level = nat_lt dests level.destinations || nat_lt parked level.sources

-- the same of the level of a matrix and a number, if the plant has it
abbrev pub is_wide_at : PlantData → ℕ → ℕ → Bool
is_wide_at plant matrix level = option_map_or is_wide (level_at plant matrix level) false

-- a tally of a place that was named by a command that isn't extended: an extended one where the source asks for it
abbrev pub tally_of : Point → Option ℕ → Message
tally_of at source = if is_short_source source then Tally at source else ExtTally at source

-- a connected that is told for a notice: an extended one where the destination or the source asks for it
abbrev pub connected_of : Point → Option ℕ → Message
connected_of at source =
    if is_short_dest at.dest && is_short_source source then Connected at source
    else ExtConnected at source

-- The commands that ask for a crosspoint and for its change, and those that answer them: the extended ones, or the others.
abbrev pub asks_source : Bool → Point → Message
asks_source extended at = if extended then ExtInterrogate at else Interrogate at

abbrev pub asks_change : Bool → Point → Option ℕ → Message
asks_change extended at source = if extended then ExtConnect at source else Connect at source

abbrev pub tells_source : Bool → Point → Option ℕ → Message
tells_source extended at source = if extended then ExtTally at source else tally_of at source

abbrev pub tells_change : Bool → Point → Option ℕ → Message
tells_change extended at source = if extended then ExtConnected at source else Connected at source
