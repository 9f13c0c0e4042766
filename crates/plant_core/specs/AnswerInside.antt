-- The messages that answer.
use Rattle.std.specs.Prelude.{◌≡◌, ◌≢◌, ℕ, [], ◌∷◌, map, nat_eq, if◌then◌else◌, Option}
use Rattle.std.specs.Option.{option_to_list, option_eq}
use Rattle.std.specs.FinMap.{get}
use Rattle.swp08_messages.specs.Text.{kind_of}
use Rattle.swp08_messages.specs.declared.message.Message.TheVariants.{Interrogate, Connect, DumpAsk}
use Rattle.swp08_messages.specs.declared.point.Point.{Point}
use Rattle.swp08_messages.specs.declared.message.MessageKind.TheVariants.{Plant}
use Rattle.swp08_messages.specs.declared.message.Message.{Message}
use Rattle.history_lock.specs.Step.{Stepped}
use Rattle.plant_core.specs.declared.answer.Answer.{Answer}
use Rattle.plant_core.specs.declared.answer.Answer.TheVariants.{Say}
use Rattle.change_boards.specs.declared.sort.Sort.TheVariants.{Protect}
use Rattle.plant_core.specs.State.{State}
use Rattle.plant_core.specs.Noticed.{marked_for_others}

-- a step is answered with this message, and with nothing else
abbrev pub SaysJust : Stepped State Answer → Message → Type 0
SaysJust stepped message = stepped.answers ≡ Say message ∷ []

-- a step is answered with this message where there is one, and with nothing else
abbrev pub SaysAtMost : Stepped State Answer → Option Message → Type 0
SaysAtMost stepped message = stepped.answers ≡ map Say (option_to_list message)

-- A message asks something of the plant: neither what stands nor for a connect or a dump, but by an extended command.
abbrev pub AsksOther : Message → Type 0
AsksOther message =
    (kind_of message ≡ Plant)
    × ((at : Point) → message ≢ Interrogate at)
    × ((at : Point) (source : Option ℕ) → message ≢ Connect at source)
    × ((matrix level : ℕ) → message ≢ DumpAsk matrix level)

-- the state in which the others were given notice of a destination's owner, where it isn't this one of before
abbrev pub owner_told_from : Option ℕ → State → ℕ → ℕ → State
owner_told_from before state asker dest = record state {
  boards = if option_eq nat_eq before (get state.owners dest) then state.boards
      else marked_for_others state.boards asker dest Protect;
}
