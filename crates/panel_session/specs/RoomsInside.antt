-- The room of a session for what it sends at once.
use Rattle.std.specs.Prelude.{ℕ, ◌+◌, ◌*◌, max, min, nat_lt, if◌then◌else◌, List, [], length}
use Rattle.std.specs.List.{fold}
use Rattle.plant_config.specs.Plant.{PlantData}
use Rattle.plant_core.specs.Answer.{room_of}
use Rattle.plant_core.specs.declared.answer.Answer.{Answer}
use Rattle.panel_session.specs.NamePages.{names_at_once}

-- the most names that a level of a plant has, of its sources or of its destinations: 64 at least
abbrev pub most_named : PlantData → ℕ
most_named plant =
    fold (λ most level. max (max most level.sources) level.destinations) 64 plant.levels

-- the most names or answers that a session of a plant sends at once
abbrev pub most_at_once : PlantData → ℕ
most_at_once plant = max (min names_at_once (most_named plant)) (room_of plant)

-- the room for what a session of a plant sends at once: an ACK, and the pages of a part of the names of a level, ten names a
-- page or more and 276 bytes a page at the most
abbrev pub room_to_send : PlantData → ℕ
room_to_send plant = 278 + 28 * most_at_once plant

-- the answers that there is room for: all, or none where they are more than a session sends at once
abbrev pub fitting : PlantData → List Answer → List Answer
fitting plant answers = if nat_lt (most_at_once plant) (length answers) then [] else answers
