-- What may be answered, and how often.
use Rattle.std.specs.Prelude.{◌≡◌, ℕ, ◌≤◌, max, if◌then◌else◌}
use Rattle.std.specs.List.{fold}
use Rattle.swp08_messages.specs.declared.message.Message.{Message}
use Rattle.swp08_messages.specs.declared.message.Message.TheVariants.{DumpAsk, Store}
use Rattle.swp08_messages.specs.Text.{IsPoint, IsSource, InRange}
use Rattle.plant_config.specs.declared.records.Level.{Level}
use Rattle.plant_config.specs.Plant.{PlantData}
use Rattle.plant_core.specs.declared.request.Request.{Request}
use Rattle.plant_core.specs.declared.request.Request.TheVariants.{Told, Poll, Leave, DisplayPoll}
use Rattle.plant_core.specs.declared.answer.Answer.{Answer}
use Rattle.plant_core.specs.declared.answer.Answer.TheVariants.{Say, Dumped, Lamp, Finished}
use Rattle.plant_core.specs.Displays.{lamp_limit}
use Rattle.plant_core.specs.Wide.{is_wide}
use Rattle.plant_core.specs.Step.{dest_count}

-- An answer's message, or what a dump tells, is in its ranges, so that it can be spelled. What displays are told isn't sent
-- to panels.
abbrev pub IsSayable : Answer → Type 0
IsSayable (Say message) = InRange message
IsSayable (Dumped matrix level dest source) =
    IsPoint (record { matrix = matrix; level = level; dest = dest }) × IsSource source
IsSayable (Lamp display value) = Unit
IsSayable Finished = Unit

-- how many answers a message has that asks something: a dump one for each destination of its level, any other one
abbrev pub told_count : PlantData → Message → ℕ
told_count plant (DumpAsk matrix level) = dest_count plant matrix level
told_count plant message = 1

-- A message that asks something has its answers, but the store of an entry may have none. A poll has at most one, a leave
-- none, and a display poll at most 64.
abbrev pub IsAnswerCount : PlantData → Request → ℕ → Type 0
IsAnswerCount plant (Told panel item (Store at source salvo)) count = count ≤ 1
IsAnswerCount plant (Told panel item message) count = count ≡ told_count plant message
IsAnswerCount plant (Poll panel item turn) count = count ≤ 1
IsAnswerCount plant (Leave panel) count = count ≡ 0
IsAnswerCount plant (DisplayPoll screen refresh) count = count ≤ lamp_limit

-- the greater of a room and the destinations of a level, where this can be dumped
abbrev pub with_room : ℕ → Level → ℕ
with_room most level = if is_wide level then most else max most level.destinations

-- For how many answers there has to be room: 64, or the destinations of the level that has the most of those that can be
-- dumped, if these are more.
abbrev pub room_of : PlantData → ℕ
room_of plant = fold with_room 64 plant.levels
