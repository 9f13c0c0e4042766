-- What is true of every store's bytes.
use Rattle.std.specs.Prelude.{◌≡◌, ℕ, List}
use Rattle.plant_config.specs.Plant.{PlantData}
use Rattle.plant_core.specs.State.{State}
use Rattle.plant_snapshot.specs.StandsFor.{StandsFor}
use Rattle.plant_snapshot.specs.Damage.{IsWhole}

-- Bytes stand for one state at most, under one number.
abbrev pub StandForOneState : Type 0
StandForOneState = (plant : PlantData) (one other : State) (number another : ℕ) (all : List ℕ)
    → StandsFor plant one number all → StandsFor plant other another all
    → (one ≡ other) × (number ≡ another)

-- Bytes that stand for a state aren't damaged.
abbrev pub StandUndamaged : Type 0
StandUndamaged = (plant : PlantData) (state : State) (number : ℕ) (all : List ℕ)
    → StandsFor plant state number all → IsWhole plant all
