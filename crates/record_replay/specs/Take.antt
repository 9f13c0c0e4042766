-- What a take asks for by names.
use Rattle.std.specs.Prelude.{ℕ, ◌&&◌, if◌then◌else◌, List, [], ◌∷◌, Option, Some, None}
use Rattle.std.specs.Option.{option_map, option_and_then}
use Rattle.plant_config.specs.Plant.{PlantData}
use Rattle.plant_config.specs.Sites.{point_of, source_number_of}
use Rattle.plant_names.specs.Lookup.{source_named, dest_named}
use Rattle.dle_framing.specs.Frame.{frame}
use Rattle.swp08_messages.specs.declared.point.Point.{Point}
use Rattle.swp08_messages.specs.declared.message.Message.{Message}
use Rattle.swp08_messages.specs.declared.message.Message.TheVariants.{Connect, ExtConnect}
use Rattle.swp08_messages.specs.Text.{text}
use Rattle.plant_core.specs.Wide.{is_short_dest, is_short_source}

-- the number, in its level, of the destination of this name, and of the source: none where a level has no such name, or the
-- plant no such level
abbrev pub dest_number_named : PlantData → ℕ → ℕ → List ℕ → Option ℕ
dest_number_named plant matrix level name =
    option_and_then (λ dest. option_map (λ place. place.dest) (point_of plant dest))
    (dest_named plant matrix level name)

abbrev pub source_number_named : PlantData → ℕ → ℕ → List ℕ → Option ℕ
source_number_named plant matrix level name =
    option_and_then (source_number_of plant) (source_named plant matrix level name)

-- what the destination is to carry: the source of this name, or none where the name is empty, which parks it
abbrev pub carried : PlantData → ℕ → ℕ → List ℕ → Option (Option ℕ)
carried plant matrix level [] = Some None
carried plant matrix level (byte ∷ name) =
    option_map (λ number. Some number) (source_number_named plant matrix level (byte ∷ name))

-- the connect of a destination to a source: an extended one where the destination or the source asks for it
abbrev pub connect_of : Point → Option ℕ → Message
connect_of at source =
    if is_short_dest at.dest && is_short_source source then Connect at source
    else ExtConnect at source

-- the connect of the destination of one name to the source of another, both of this level
abbrev pub connect_named : PlantData → ℕ → ℕ → (dest source : List ℕ) → Option Message
connect_named plant matrix level dest source =
    option_and_then
    (λ number. option_map
    (λ source. connect_of (record { matrix = matrix; level = level; dest = number }) source)
    (carried plant matrix level source))
    (dest_number_named plant matrix level dest)

-- the frame of a message [profile]
abbrev pub message_frame : Message → List ℕ
message_frame message = frame (text message)
