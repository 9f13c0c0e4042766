-- What storing, going and asking for an entry do to the groups, and what is answered.
use Rattle.std.specs.Prelude.{ℕ, ◌+◌, ◌==◌, nat_lt, Bool, not, if◌then◌else◌, List, map, filter, length, slice_get, Option, Some, None, unwrap_or}
use Rattle.std.specs.Option.{option_map, option_and_then}
use Rattle.swp08_messages.specs.declared.point.Point.{Point}
use Rattle.swp08_messages.specs.declared.message.Message.{Message}
use Rattle.swp08_messages.specs.declared.message.Message.TheVariants.{Stored, GoDone, Entry}
use Rattle.swp08_messages.specs.declared.go_status.GoStatus.TheVariants.{Made, Cleared, Empty, Protected, NoTie}
use Rattle.swp08_messages.specs.declared.validity.Validity.{Validity}
use Rattle.swp08_messages.specs.declared.validity.Validity.TheVariants.{More, Last, NoEntry}
use Rattle.plant_config.specs.Plant.{PlantData}
use Rattle.plant_config.specs.Sites.{point_of, source_number_of}
use Rattle.plant_config.specs.declared.records.Change.{Change}
use Rattle.plant_config.specs.declared.records.Point as places
use Rattle.crosspoint_state.specs.Crosspoints.{Crosspoints, is_idle}
use Rattle.crosspoint_state.specs.Applied.{applied}
use Rattle.tie_pools.specs.Reserve.{are_enough_for}
use Rattle.salvo_groups.specs.Groups.{Group, group_of, may_store, with_store, with_clear}
use Rattle.history_lock.specs.Step.{Stepped}
use Rattle.plant_core.specs.declared.answer.Answer.{Answer}
use Rattle.plant_core.specs.State.{State, device_of, is_master}
use Rattle.plant_core.specs.Noticed.{all_marked}
use Rattle.plant_core.specs.Connects.{says, says_nothing, are_permitted}

-- A change is stored in a group where it is in range and the group has room for it.
abbrev pub stored_in : State → Point → Option ℕ → ℕ → Option Change → Stepped State Answer
stored_in state at source salvo None = says_nothing state
stored_in state at source salvo (Some change) =
    if may_store (group_of state.groups salvo) change
    then says (record state { groups = with_store state.groups salvo change })
    (Stored at source salvo)
    else says_nothing state

-- the state with an emptied group
abbrev pub emptied : State → ℕ → State
emptied state salvo = record state { groups = with_clear state.groups salvo }

-- the destinations whose sources a list of changes changes
abbrev pub moved : Crosspoints → List Change → List ℕ
moved crosspoints changes =
    map (λ change. change.dest) (filter (λ change. not (is_idle crosspoints change)) changes)

-- all changes of a group are made as one, and all panels are given notice of the destinations whose sources changed
abbrev pub all_changed : State → Group → State
all_changed state group = record state {
  crosspoints = applied state.plant state.crosspoints group;
  boards = all_marked state.boards (moved state.crosspoints group);
}

-- What a go does, and how it is answered: the first of five cases. Nothing changes where the group is empty, where another
-- device protects one of its destinations, or where the ties that the panel may use aren't enough for all of it at once.
abbrev pub gone : State → ℕ → Bool → ℕ → Stepped State Answer
gone state panel clear salvo =
    let group = group_of state.groups salvo in
    if length group == 0 then says state (GoDone Empty salvo)
    else if clear then says (emptied state salvo) (GoDone Cleared salvo)
    else if not (are_permitted state.owners (device_of state.plant panel) group)
    then says state (GoDone Protected salvo)
    else if not (are_enough_for state.plant state.crosspoints (is_master state.plant panel) group)
    then says state (GoDone NoTie salvo)
    else says (emptied (all_changed state group) salvo) (GoDone Made salvo)

-- a plant's place as messages have it
abbrev pub message_place : places.Point → Point
message_place place = record { matrix = place.matrix; level = place.level; dest = place.dest }

-- the place that is told where there is no entry
abbrev pub no_place : Point
no_place = record { matrix = 0; level = 0; dest = 0 }

-- a destination's place as messages have it
abbrev pub dest_place : PlantData → ℕ → Point
dest_place plant dest = unwrap_or (option_map message_place (point_of plant dest)) no_place

-- whether more entries follow the one of an index
abbrev pub validity_at : Group → ℕ → Validity
validity_at group index = if nat_lt (index + 1) (length group) then More else Last

-- The message that tells an entry of a group: its place and its source, and whether more follow.
abbrev pub entry_told : PlantData → Group → ℕ → ℕ → Option Change → Message
entry_told plant group salvo index None = Entry no_place (Some 0) salvo index NoEntry
entry_told plant group salvo index (Some entry) =
    Entry (dest_place plant entry.dest) (option_and_then (source_number_of plant) entry.source)
    salvo index (validity_at group index)

abbrev pub entry_answer : State → ℕ → ℕ → Message
entry_answer state salvo index =
    entry_told state.plant (group_of state.groups salvo) salvo index
    (slice_get (group_of state.groups salvo) index)
