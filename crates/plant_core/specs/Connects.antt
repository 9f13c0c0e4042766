-- What a connect asks for, whether it is permitted, and what is answered.
use Rattle.std.specs.Prelude.{ℕ, Bool, ◌&&◌, if◌then◌else◌, List, [], ◌∷◌, Option, Some, None}
use Rattle.std.specs.List.{list_all}
use Rattle.std.specs.Option.{option_map, option_and_then}
use Rattle.swp08_messages.specs.declared.point.Point.{Point}
use Rattle.swp08_messages.specs.declared.message.Message.{Message}
use Rattle.plant_config.specs.Plant.{PlantData}
use Rattle.plant_config.specs.Sites.{dest_at, source_at}
use Rattle.plant_config.specs.declared.records.Change.{Change}
use Rattle.crosspoint_state.specs.Crosspoints.{is_idle}
use Rattle.crosspoint_state.specs.Applied.{applied}
use Rattle.tie_pools.specs.Reserve.{are_enough_for}
use Rattle.protects.specs.Owners.{Owners, allows}
use Rattle.change_boards.specs.declared.sort.Sort.TheVariants.{Source}
use Rattle.history_lock.specs.Step.{Stepped}
use Rattle.plant_core.specs.declared.answer.Answer.{Answer}
use Rattle.plant_core.specs.declared.answer.Answer.TheVariants.{Say}
use Rattle.plant_core.specs.State.{State, device_of, is_master}
use Rattle.plant_core.specs.Noticed.{marked_for_others}

-- this is the state, and this is answered
abbrev pub says : State → Message → Stepped State Answer
says state message = record { state = state; answers = Say message ∷ [] }

-- this is the state, and nothing is answered
abbrev pub says_nothing : State → Stepped State Answer
says_nothing state = record { state = state; answers = [] }

-- What a destination is to carry: parked, or a source of its own level. `None` where the level has no such source.
abbrev pub source_wanted : PlantData → Point → Option ℕ → Option (Option ℕ)
source_wanted plant at None = Some None
source_wanted plant at (Some number) = option_map Some (source_at plant at.matrix at.level number)

-- The change that a connect, or the store of an entry, asks for, `None` where the destination or the source is out of range.
abbrev pub change_of : PlantData → Point → Option ℕ → Option Change
change_of plant at source =
    option_and_then
    (λ dest. option_map (λ carried. record { dest = dest; source = carried })
    (source_wanted plant at source))
    (dest_at plant at.matrix at.level at.dest)

-- Changes are permitted to a device where no other device protects one of their destinations.
abbrev pub are_permitted : Owners → ℕ → List Change → Bool
are_permitted owners device changes = list_all (λ change. allows owners device change.dest) changes

-- The state after a panel's connect, which is made as a list of one change. The others are given notice, but of an idle one
-- nobody is.
abbrev pub changed : State → ℕ → Change → State
changed state asker change = record state {
  crosspoints = applied state.plant state.crosspoints (change ∷ []);
  boards = if is_idle state.crosspoints change then state.boards
      else marked_for_others state.boards asker change.dest Source;
}

-- A panel may make a change where no other device protects its destination and the ties that it may use are enough.
abbrev pub may_make : State → ℕ → Change → Bool
may_make state panel change =
    are_permitted state.owners (device_of state.plant panel) (change ∷ [])
    && are_enough_for state.plant state.crosspoints (is_master state.plant panel) (change ∷ [])

-- A connect in range that its panel may make is made and answered by one message; else another tells the source that stands.
abbrev pub connected : State → ℕ → Message → Message → Option Change → Stepped State Answer
connected state panel made refused None = says state refused
connected state panel made refused (Some change) =
    if may_make state panel change then says (changed state panel change) made
    else says state refused
