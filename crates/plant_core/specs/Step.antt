-- What an event does to the state, and how it is answered.
use Rattle.std.specs.Prelude.{ℕ, if◌then◌else◌, List, [], ◌∷◌, map, Option, Some, None}
use Rattle.std.specs.List.{range_with_len}
use Rattle.std.specs.Option.{option_map_or}
use Rattle.std.specs.FinMap.{get}
use Rattle.swp08_messages.specs.declared.point.Point.{Point}
use Rattle.swp08_messages.specs.declared.message.Message.{Message}
use Rattle.swp08_messages.specs.declared.message.Message.TheVariants.{Interrogate, Connect, Connected, ExtInterrogate, ExtConnect, ExtTally, ExtConnected, DumpAsk, ProtectAsk, ProtectConnect, ProtectDisconnect, ProtectTally, ProtectConnected, ProtectDisconnected, Store, Go, EntryAsk}
use Rattle.plant_config.specs.Plant.{PlantData}
use Rattle.plant_config.specs.Sites.{dest_at, level_at}
use Rattle.change_boards.specs.Board.{next}
use Rattle.change_boards.specs.Notices.{board_of, with_removal, with_leave}
use Rattle.change_boards.specs.declared.sort.Sort.{Sort}
use Rattle.change_boards.specs.declared.sort.Sort.TheVariants.{Source, Protect}
use Rattle.history_lock.specs.Step.{Stepped}
use Rattle.plant_core.specs.declared.request.Request.{Request}
use Rattle.plant_core.specs.declared.request.Request.TheVariants.{Told, Poll, Leave, DisplayPoll}
use Rattle.plant_core.specs.declared.answer.Answer.{Answer}
use Rattle.plant_core.specs.declared.answer.Answer.TheVariants.{Say, Dumped}
use Rattle.plant_core.specs.State.{State, standing, owner_at}
use Rattle.plant_core.specs.Connects.{says, says_nothing, change_of, connected}
use Rattle.plant_core.specs.Wide.{is_wide, tally_of, connected_of}
use Rattle.plant_core.specs.Protecting.{owner_told, protected, unprotected}
use Rattle.plant_core.specs.Displays.{display_polled}
use Rattle.plant_core.specs.Salvos.{stored_in, gone, entry_answer, dest_place}

-- how many destinations of a level are dumped: none where the plant has no such level, or it is wide
abbrev pub dest_count : PlantData → ℕ → ℕ → ℕ
dest_count plant matrix level =
    option_map_or (λ at. if is_wide at then 0 else at.destinations) (level_at plant matrix level) 0

-- what a dump tells of a place: the source that stands there
abbrev pub dumped_at : State → Point → Answer
dumped_at state at = Dumped at.matrix at.level at.dest (standing state at)

-- The answers to a dump: each destination of the level, in order.
abbrev pub dumped : State → ℕ → ℕ → List Answer
dumped state matrix level =
    map (λ dest. dumped_at state (record { matrix = matrix; level = level; dest = dest }))
    (range_with_len 0 (dest_count state.plant matrix level))

-- the destination at a place
abbrev pub dest_of : State → Point → Option ℕ
dest_of state at = dest_at state.plant at.matrix at.level at.dest

-- What a message of a panel does. The device that a protect or a lift names isn't looked at: it is the panel's own. A report
-- and a message that asks for names do nothing here.
abbrev pub answered : State → ℕ → Message → Stepped State Answer
answered state panel (Interrogate at) = says state (tally_of at (standing state at))
answered state panel (ExtInterrogate at) = says state (ExtTally at (standing state at))
answered state panel (Connect at source) =
    connected state panel (Connected at source) (tally_of at (standing state at))
    (change_of state.plant at source)
answered state panel (ExtConnect at source) =
    connected state panel (ExtConnected at source) (ExtTally at (standing state at))
    (change_of state.plant at source)
answered state panel (ProtectAsk at) = says state (owner_told ProtectTally at (owner_at state at))
answered state panel (ProtectConnect at device) = protected state panel at (dest_of state at)
answered state panel (ProtectDisconnect at device) = unprotected state panel at (dest_of state at)
answered state panel (DumpAsk matrix level) =
    record { state = state; answers = dumped state matrix level }
answered state panel (Store at source salvo) =
    stored_in state at source salvo (change_of state.plant at source)
answered state panel (Go clear salvo) = gone state panel clear salvo
answered state panel (EntryAsk salvo index) = says state (entry_answer state salvo index)
answered state panel message = says_nothing state

-- a place and the source that stands there, told as a connect that was made
abbrev pub told_source : State → Point → Answer
told_source state at = Say (connected_of at (standing state at))

-- a place and its owner, told as a protect that was made where it has one, else as one that was lifted
abbrev pub told_owner : Point → Option ℕ → Answer
told_owner at (Some device) = Say (owner_told ProtectConnected at (Some device))
told_owner at None = Say (owner_told ProtectDisconnected at None)

-- What a panel is told for a notice: which source stands at the destination by now, or which device protects it.
abbrev pub told_for : State → ℕ → Sort → Answer
told_for state dest Source = told_source state (dest_place state.plant dest)
told_for state dest Protect = told_owner (dest_place state.plant dest) (get state.owners dest)

abbrev pub notice_of : State → Option (ℕ × Sort) → List Answer
notice_of state None = []
notice_of state (Some (dest, sort)) = told_for state dest sort ∷ []

-- the answers to a poll, which are for the panel's next notice
abbrev pub poll_answers : State → ℕ → List Answer
poll_answers state panel = notice_of state (next (board_of state.boards panel))

-- What an event does. A poll takes the next notice of its panel, a panel that leaves loses its notices, and a display poll
-- shows displays their values.
abbrev pub step : State → Request → Stepped State Answer
step state (Told panel item message) = answered state panel message
step state (Poll panel item turn) = record {
  state = record state { boards = with_removal state.boards panel };
  answers = poll_answers state panel;
}
step state (Leave panel) =
    record { state = record state { boards = with_leave state.boards panel }; answers = [] }
step state (DisplayPoll screen refresh) = display_polled state screen refresh
