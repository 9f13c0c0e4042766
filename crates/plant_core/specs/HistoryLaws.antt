-- What is true of every history of a plant, whichever seats ask in it.
use Rattle.std.specs.Prelude.{◌≡◌, ◌≤◌, List, ◌++◌, length, All}
use Rattle.history_lock.specs.declared.entry.Entry.{Entry}
use Rattle.history_lock.specs.History.{run, IsLegal}
use Rattle.plant_config.specs.Plant.{PlantData}
use Rattle.plant_config.specs.IsPlant.{IsPlant}
use Rattle.crosspoint_state.specs.Ties.{HaveValidTies}
use Rattle.plant_core.specs.declared.request.Request.{Request}
use Rattle.plant_core.specs.declared.answer.Answer.{Answer}
use Rattle.plant_core.specs.State.{State, IsValid, Fits, start}
use Rattle.plant_core.specs.Short.{StaysShort}
use Rattle.plant_core.specs.Step.{step}
use Rattle.plant_core.specs.Answer.{IsSayable, room_of}

-- what was asked of the plant, by which seat, and what it was answered
abbrev pub PlantEntry : Type 0
PlantEntry = Entry Request Answer

-- Behind each front of a history, begun at the start of the plant, the ties of the crosspoints are valid: no tie carries two
-- sources.
abbrev pub KeepsTiesValid : PlantData → List PlantEntry → Type 0
KeepsTiesValid plant history = (front later : List PlantEntry) → history ≡ front ++ later
    → HaveValidTies plant (run step (start plant) front).crosspoints

-- The answers of an entry can be sent where each of them can be said, and there is room for them.
pub record CanBeSent (plant : PlantData) (entry : PlantEntry) : Type 0 where
  pub sayable : All IsSayable entry.answers
  pub within : length entry.answers ≤ room_of plant

-- a history from a valid state leaves a valid one
abbrev pub HistoriesStayValid : Type 0
HistoriesStayValid =
    (state : State) (history : List PlantEntry) → IsValid state → IsValid (run step state history)

-- no history changes the plant
abbrev pub HistoriesKeepThePlant : Type 0
HistoriesKeepThePlant =
    (state : State) (history : List PlantEntry) → (run step state history).plant ≡ state.plant

-- every history of a plant keeps the ties valid
abbrev pub HistoriesKeepTiesValid : Type 0
HistoriesKeepTiesValid =
    (plant : PlantData) (history : List PlantEntry) → IsPlant plant → KeepsTiesValid plant history

-- the answers of each entry of a history that is legal from a valid state can be sent
abbrev pub LegalAnswersCanBeSent : Type 0
LegalAnswersCanBeSent = (state : State) (history : List PlantEntry)
    → IsValid state → StaysShort state → IsLegal step Fits state history
    → All (CanBeSent state.plant) history
