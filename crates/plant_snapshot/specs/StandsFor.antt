-- What the bytes of a store stand for: a state of a plant, under a number.
use Rattle.std.specs.Prelude.{◌≡◌, ◌⊎◌, ℕ, ◌+◌, List}
use Rattle.state_store.specs.Slots as slots
use Rattle.state_store.specs.Kept.{Kept, Start, Saved, number_kept, kept_in}
use Rattle.plant_config.specs.Plant.{PlantData}
use Rattle.plant_core.specs.State.{State, IsValid, start}
use Rattle.plant_core.specs.Short.{StaysShort}
use Rattle.plant_core.specs.StateText.{state_size, state_text}

-- how many bytes an entry of a plant's store has: a number of eight, and the text of a state
abbrev pub entry_size : PlantData → ℕ
entry_size plant = 8 + state_size plant

-- how many bytes the store of a plant has: two slots
abbrev pub store_size : PlantData → ℕ
store_size plant = slots.store_size (entry_size plant)

-- what the bytes of a plant's store keep
abbrev pub kept_for : PlantData → List ℕ → Kept
kept_for plant all = kept_in (entry_size plant) all

-- A text is that of a state of a plant.
pub record IsTextOf (plant : PlantData) (state : State) (text : List ℕ) : Type 0 where
  pub plant_is : state.plant ≡ plant
  pub valid : IsValid state
  pub short : StaysShort state
  pub text_is : text ≡ state_text state

-- What is kept is a state of a plant: that of its text, or the start where nothing is kept yet.
abbrev pub IsStateKept : PlantData → State → Kept → Type 0
IsStateKept plant state Start = state ≡ start plant
IsStateKept plant state (Saved number text) = IsTextOf plant state text

-- The bytes of a plant's store stand for a state under a number: they keep this state, with this number.
pub record StandsFor (plant : PlantData) (state : State) (number : ℕ) (all : List ℕ)
    : Type 0 where
  pub state_is : IsStateKept plant state (kept_for plant all)
  pub number_is : number ≡ number_kept (kept_for plant all)

-- They stand for one state under a number, or for another one under the next number.
abbrev pub StandsForEither : PlantData → State → ℕ → State → List ℕ → Type 0
StandsForEither plant before number new all =
    StandsFor plant before number all ⊎ StandsFor plant new (number + 1) all
