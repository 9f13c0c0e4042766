-- What is true of displays in every valid state, said by what destinations carry, and by lamps.
use Rattle.std.specs.Prelude.{◌≡◌, ◌≢◌, ◌↔◌, ℕ, ◌<◌, ◌+◌, ◌*◌, ◌/◌, nat_eq, Bool, true, false, List, [], ◌∷◌, length, map, filter, take, drop, replicate, All, Option}
use Rattle.std.specs.List.{IsDistinct, Contains}
use Rattle.swp08_messages.specs.declared.point.Point.{Point}
use Rattle.swp08_messages.specs.declared.message.Message.TheVariants.{Go}
use Rattle.change_boards.specs.declared.value.Value.{Value}
use Rattle.change_boards.specs.Notices.{has_left}
use Rattle.change_boards.specs.Screens.{displays_of}
use Rattle.plant_config.specs.Screens.{has_screen}
use Rattle.change_boards.specs.Shown.{last}
use Rattle.plant_core.specs.declared.request.Request.{Request}
use Rattle.plant_core.specs.declared.request.Request.TheVariants.{Told, DisplayPoll}
use Rattle.plant_core.specs.declared.answer.Answer.{Answer}
use Rattle.plant_core.specs.declared.answer.Answer.TheVariants.{Lamp, Finished}
use Rattle.plant_core.specs.State.{State, IsValid}
use Rattle.plant_core.specs.Wide.{asks_change}
use Rattle.plant_core.specs.Displays.{lamp_limit, value_of, differs, differing, refreshed}
use Rattle.plant_core.specs.Step.{step}
use Rattle.plant_core.specs.Laws.{CarryAsBefore, after}

-- Each display has the value that it had.
abbrev pub HaveTheirValues : State → State → Type 0
HaveTheirValues old new = (display : ℕ) → value_of new display ≡ value_of old display

-- A request is neither a connect nor a go that takes a group.
abbrev pub MovesNothing : Request → Type 0
MovesNothing request =
    ((panel item : ℕ) (extended : Bool) (at : Point) (source : Option ℕ)
    → request ≢ Told panel item (asks_change extended at source))
    × ((panel item salvo : ℕ) → request ≢ Told panel item (Go false salvo))

-- An answer is no lamp.
abbrev pub IsNoLamp : Answer → Type 0
IsNoLamp (Lamp display value) = ⊥
IsNoLamp answer = Unit {0}

-- No display of a screen differs.
abbrev pub NoneDiffers : State → ℕ → Type 0
NoneDiffers state screen =
    All (λ display. differs state display ≡ false) (displays_of state.plant screen)

-- All is finished: no display of any screen differs, and every panel has left.
pub record AllIsFinished (state : State) : Type 0 where
  pub shown : (display : ℕ) → display < length state.plant.displays
      → differs state display ≡ false
  pub left : (panel : ℕ) → panel < length state.plant.panels
      → has_left state.boards panel ≡ true

-- A display of a screen differed, was told its value, and doesn't differ any more.
pub record IsLit (old new : State) (screen display : ℕ) (value : Value) : Type 0 where
  pub on : Contains (displays_of old.plant screen) display
  pub differed : differs old display ≡ true
  pub told : value ≡ value_of old display
  pub shown : differs new display ≡ false

-- Where an answer is a lamp, it is of a display that differed.
abbrev pub IsOfLit : State → State → ℕ → Answer → Type 0
IsOfLit old new screen (Lamp display value) = IsLit old new screen display value
IsOfLit old new screen answer = Unit {0}

-- the lamps among answers
abbrev pub is_lamp : Answer → Bool
is_lamp (Lamp display value) = true
is_lamp answer = false

abbrev pub lamps_among : List Answer → List Answer
lamps_among answers = filter is_lamp answers

-- the lamps that tell displays their values
abbrev pub lamps_for : State → List ℕ → List Answer
lamps_for state displays = map (λ display. Lamp display (value_of state display)) displays

-- so many polls of a screen, without a refresh
abbrev pub polls_of_screen : ℕ → ℕ → List Request
polls_of_screen screen count = replicate count (DisplayPoll screen false)

-- an event behind which each destination carries the source that it carried leaves each display its value
abbrev pub SourcesMakeValues : Type 0
SourcesMakeValues = (state : State) (request : Request)
    → CarryAsBefore state (step state request).state
    → HaveTheirValues state (step state request).state

-- an event that is neither a connect nor a go that takes a group changes no destination's source
abbrev pub OthersMoveNothing : Type 0
OthersMoveNothing = (state : State) (request : Request)
    → MovesNothing request → CarryAsBefore state (step state request).state

-- and so it changes no display's value
abbrev pub OthersLeaveValues : Type 0
OthersLeaveValues = (state : State) (request : Request)
    → MovesNothing request → HaveTheirValues state (step state request).state

-- a poll tells no lamp exactly where, after its refresh, no display of the screen differs
abbrev pub PollsAreQuiet : Type 0
PollsAreQuiet = (state : State) (screen : ℕ) (refresh : Bool)
    → All IsNoLamp (step state (DisplayPoll screen refresh)).answers
    ↔ NoneDiffers (refreshed state screen refresh) screen

-- each lamp is of a display of the screen that, after the refresh, differed, and it has the display's value; behind the poll
-- the display doesn't differ
abbrev pub LampsAreOfThoseThatDiffer : Type 0
LampsAreOfThoseThatDiffer = (state : State) (screen : ℕ) (refresh : Bool) → IsValid state
    → (let polled = step state (DisplayPoll screen refresh)
    in All (IsOfLit (refreshed state screen refresh) polled.state screen) polled.answers)

-- where all is finished behind its refresh, a poll is answered so, and nothing else
abbrev pub FinishedIsTold : Type 0
FinishedIsTold = (state : State) (screen : ℕ) (refresh : Bool) → IsValid state
    → AllIsFinished (refreshed state screen refresh)
    → (step state (DisplayPoll screen refresh)).answers ≡ Finished ∷ []

-- where any of its answers says so, all is, and there is no other answer
abbrev pub FinishedIsTrue : Type 0
FinishedIsTrue = (state : State) (screen : ℕ) (refresh : Bool) → IsValid state
    → (let answers : List Answer = (step state (DisplayPoll screen refresh)).answers
    in Contains answers Finished
    → AllIsFinished (refreshed state screen refresh) × (answers ≡ Finished ∷ []))

-- the poll behind so many others of the same screen tells, in order, the displays that differed before all of them, but for
-- the first 64 for each of these others
abbrev pub TurnsTellInOrder : Type 0
TurnsTellInOrder = (state : State) (screen turn : ℕ) → IsValid state
    → (let before : State = after state (polls_of_screen screen turn)
    in lamps_among (step before (DisplayPoll screen false)).answers
    ≡ lamps_for state (take lamp_limit (drop (lamp_limit * turn) (differing state screen))))

-- so many polls leave those that differed, but for the first 64 for each poll
abbrev pub TurnsLeaveTheRest : Type 0
TurnsLeaveTheRest = (state : State) (screen turns : ℕ) → IsValid state
    → differing (after state (polls_of_screen screen turns)) screen
    ≡ drop (lamp_limit * turns) (differing state screen)

-- as many polls as n displays that differ need, n / 64 + 1, leave none
abbrev pub EnoughTurnsTellAll : Type 0
EnoughTurnsTellAll = (state : State) (screen : ℕ) → IsValid state
    → (let turns : ℕ = length (differing state screen) / lamp_limit + 1
    in differing (after state (polls_of_screen screen turns)) screen ≡ [])

-- no display is twice among those that differ
abbrev pub EachDiffersOnce : Type 0
EachDiffersOnce = (state : State) (screen : ℕ) → IsDistinct nat_eq (differing state screen)

-- a poll with a refresh tells the first 64 displays of its screen, whatever they were shown
abbrev pub RefreshesTellAll : Type 0
RefreshesTellAll = (state : State) (screen : ℕ) → has_screen state.plant screen ≡ true
    → (step state (DisplayPoll screen true)).answers
    ≡ lamps_for state (take lamp_limit (displays_of state.plant screen))

-- and leaves the others to be told
abbrev pub RefreshesLeaveTheRest : Type 0
RefreshesLeaveTheRest = (state : State) (screen : ℕ) → IsValid state
    → differing (step state (DisplayPoll screen true)).state screen
    ≡ drop lamp_limit (displays_of state.plant screen)

-- a poll, with a refresh or without, leaves what displays of other screens were last shown
abbrev pub OtherScreensStay : Type 0
OtherScreensStay = (state : State) (screen : ℕ) (refresh : Bool) (display : ℕ)
    → ¬ Contains (displays_of state.plant screen) display
    → last (step state (DisplayPoll screen refresh)).state.shown display
    ≡ last state.shown display
