-- What the displays show, and what a display poll does and is answered.
use Rattle.std.specs.Prelude.{ℕ, Bool, true, false, ◌&&◌, not, if◌then◌else◌, List, [], ◌∷◌, map, filter, take, length, slice_get, None, Some}
use Rattle.std.specs.List.{list_any, list_all, range_with_len}
use Rattle.std.specs.Option.{option_map_or}
use Rattle.plant_config.specs.declared.records.Display.{Display}
use Rattle.plant_config.specs.Plant.{PlantData}
use Rattle.crosspoint_state.specs.Crosspoints.{Crosspoints, source_of}
use Rattle.mixer_effects.specs.Live.{is_seen}
use Rattle.change_boards.specs.declared.value.Value.{Value}
use Rattle.change_boards.specs.Screens.{displays_of}
use Rattle.change_boards.specs.Shown as shown
use Rattle.history_lock.specs.Step.{Stepped}
use Rattle.plant_core.specs.declared.answer.Answer.{Answer}
use Rattle.plant_core.specs.declared.answer.Answer.TheVariants.{Lamp, Finished}
use Rattle.plant_core.specs.State.{State}

-- the most lamps that a display poll is answered with
abbrev pub lamp_limit : ℕ
lamp_limit = 64

-- the value of a parked destination
abbrev pub dark : Value
dark = record { source = None; air = false; preview = false }

-- the value of a destination that carries a source
abbrev pub value_with : PlantData → Crosspoints → ℕ → Value
value_with plant crosspoints source = record {
  source = Some source;
  air = is_seen plant crosspoints plant.air source;
  preview = is_seen plant crosspoints plant.preview source;
}

-- the value of a destination: the source there, and whether that is on air and on preview
abbrev pub display_value : PlantData → Crosspoints → ℕ → Value
display_value plant crosspoints dest =
    option_map_or (value_with plant crosspoints) (source_of crosspoints dest) dark

-- the value of a display of a plant with these crosspoints: that of the destination that it watches
abbrev pub value_in : PlantData → Crosspoints → ℕ → Value
value_in plant crosspoints display =
    option_map_or (λ (found : Display). display_value plant crosspoints found.watch)
    (slice_get plant.displays display) dark

-- the value of a display in a state
abbrev pub value_of : State → ℕ → Value
value_of state display = value_in state.plant state.crosspoints display

-- A display differs where its value isn't the one that it was last shown, or where it was shown none.
abbrev pub differs : State → ℕ → Bool
differs state display = shown.differs state.shown display (value_of state display)

-- those of these displays that differ, by the values of all displays
abbrev pub differing_of : (ℕ → Value) → shown.Shown → List ℕ → List ℕ
differing_of values before displays =
    filter (λ display. shown.differs before display (values display)) displays

-- the displays of a screen that differ, in the order of their indexes
abbrev pub differing : State → ℕ → List ℕ
differing state screen =
    differing_of (value_of state) state.shown (displays_of state.plant screen)

-- With a refresh the displays of the screen become such as were shown no value.
abbrev pub refreshed : State → ℕ → Bool → State
refreshed state screen false = state
refreshed state screen true = record state {
  shown = shown.with_forgotten state.shown (displays_of state.plant screen);
}

-- what displays were last shown once each of these was shown its value
abbrev pub shown_all : (ℕ → Value) → List ℕ → shown.Shown → shown.Shown
shown_all values [] before = before
shown_all values (display ∷ displays) before =
    shown_all values displays (shown.with_shown before display (values display))

-- the lamps of displays
abbrev pub lamps_of : (ℕ → Value) → List ℕ → List Answer
lamps_of values displays = map (λ display. Lamp display (values display)) displays

-- whether every panel has left and no display of any screen differs
abbrev pub is_finished : State → Bool
is_finished state =
    list_all (λ board. board.left) state.boards
    && not (list_any (differs state) (range_with_len 0 (length state.plant.displays)))

-- A poll that takes no display is answered that all is finished, or not at all.
abbrev pub quiet : State → Stepped State Answer
quiet state = record { state = state; answers = if is_finished state then Finished ∷ [] else [] }

-- These displays are shown their values, and a lamp is answered for each.
abbrev pub lit : State → List ℕ → Stepped State Answer
lit state displays = record {
  state = record state { shown = shown_all (value_of state) displays state.shown };
  answers = lamps_of (value_of state) displays;
}

abbrev pub told_displays : State → List ℕ → Stepped State Answer
told_displays state [] = quiet state
told_displays state (display ∷ displays) = lit state (display ∷ displays)

-- A poll takes the first displays of the screen that differ, at most 64.
abbrev pub taken_first : State → ℕ → Stepped State Answer
taken_first state screen = told_displays state (take lamp_limit (differing state screen))

-- what a display poll does, and how it is answered
abbrev pub display_polled : State → ℕ → Bool → Stepped State Answer
display_polled state screen refresh = taken_first (refreshed state screen refresh) screen
