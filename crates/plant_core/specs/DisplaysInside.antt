-- What displays are shown, by their values alone.
use Rattle.std.specs.Prelude.{◌≡◌, ℕ, ◌<◌, List, take, All, Some}
use Rattle.std.specs.FinMap.{get}
use Rattle.plant_config.specs.Plant.{PlantData, sources_of}
use Rattle.crosspoint_state.specs.declared.spot.Spot.{Spot}
use Rattle.crosspoint_state.specs.Crosspoints.{Crosspoints}
use Rattle.change_boards.specs.declared.value.Value.{Value}
use Rattle.change_boards.specs.Shown.{Shown}
use Rattle.plant_core.specs.declared.answer.Answer.{Answer}
use Rattle.history_lock.specs.Step.{Stepped}
use Rattle.plant_core.specs.State.{State}
use Rattle.plant_core.specs.Displays.{lamp_limit, differing_of, differing, lit}

-- Each destination that isn't parked carries a source of the plant.
abbrev pub CarrySources : PlantData → Crosspoints → Type 0
CarrySources plant crosspoints = (dest : ℕ) (spot : Spot)
    → get crosspoints dest ≡ Some spot → spot.source < sources_of plant

-- the first of these displays that differ
abbrev pub first_differing : (ℕ → Value) → Shown → List ℕ → List ℕ
first_differing value_of shown displays = take lamp_limit (differing_of value_of shown displays)

-- The displays are ones that there are.
abbrev pub AreBelow : ℕ → List ℕ → Type 0
AreBelow count displays = All (λ display. display < count) displays

-- The first displays of a screen that differ are shown their values, and a lamp is answered for each.
abbrev pub lit_first : State → ℕ → Stepped State Answer
lit_first state screen = lit state (take lamp_limit (differing state screen))
