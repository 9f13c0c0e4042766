-- A standby follows a history.
use Rattle.std.specs.Prelude.{◌≡◌, ◌≢◌, ℕ, ◌≤◌, List, length, take, slice_get, Some}
use Rattle.std.specs.Option.{option_map}
use Rattle.history_lock.specs.History.{run}
use Rattle.plant_config.specs.Plant.{PlantData}
use Rattle.plant_core.specs.declared.request.Request.{Request}
use Rattle.plant_core.specs.State as states
use Rattle.plant_core.specs.State.{State}
use Rattle.plant_core.specs.Step.{step}
use Rattle.plant_core.specs.HistoryLaws.{PlantEntry}
use Rattle.standby.specs.declared.took.Took.{Took}
use Rattle.standby.specs.declared.took.Took.TheVariants.{Differs}
use Rattle.standby.specs.Standby.{Data, IsKeptAt}

-- what the first so many entries of a history leave of a plant
abbrev pub front_state : PlantData → List PlantEntry → ℕ → State
front_state plant history count = run step (states.start plant) (take count history)

-- A history has this request at this position.
abbrev pub StandsAt : List PlantEntry → ℕ → Request → Type 0
StandsAt history position request =
    option_map (λ entry. entry.request) (slice_get history position) ≡ Some request

-- A standby follows a history of a plant: its state is what as many entries leave as are applied, and each request that is
-- kept stands in the history at its position.
pub record Follows (plant : PlantData) (history : List PlantEntry) (standby : Data)
    : Type 0 where
  pub within : standby.applied ≤ length history
  pub state : standby.state ≡ front_state plant history standby.applied
  pub kept : (position : ℕ) (request : Request) → IsKeptAt standby position request
      → StandsAt history position request

-- It goes on following it, and no difference was found.
pub record GoesOn (plant : PlantData) (history : List PlantEntry) (took : Took) (standby : Data)
    : Type 0 where
  pub same : took ≢ Differs
  pub follows : Follows plant history standby

-- It goes on following each history that it followed, where that has this request at this position.
abbrev pub StaysBehind : Data → ℕ → Request → Took → Data → Type 0
StaysBehind old position request took new =
    (plant : PlantData) (history : List PlantEntry) → Follows plant history old
    → StandsAt history position request → GoesOn plant history took new
