-- What comes to a standby over a line that loses, repeats and reorders: any list of what was sent.
use Rattle.std.specs.Prelude.{◌≡◌, ◌⊎◌, ℕ, ◌<◌, List, [], ◌∷◌, ◌++◌, length}
use Rattle.std.specs.List.{AllByRecursion}
use Rattle.history_lock.specs.History.{run}
use Rattle.plant_config.specs.Plant.{PlantData}
use Rattle.plant_core.specs.declared.request.Request.{Request}
use Rattle.plant_core.specs.State as states
use Rattle.plant_core.specs.Step.{step}
use Rattle.plant_core.specs.HistoryLaws.{PlantEntry}
use Rattle.standby.specs.declared.took.Took.{Took}
use Rattle.standby.specs.Standby.{Data, IsKeptAt, start}
use Rattle.standby.specs.Table.{Takes}
use Rattle.standby.specs.Follows.{StandsAt}

-- a request that came, and the position under which it did
pub record Arrival : Type 0 where
  pub position : ℕ
  pub request : Request

-- It was sent: the history has this request at this position.
abbrev pub WasSent : List PlantEntry → Arrival → Type 0
WasSent history arrival = StandsAt history arrival.position arrival.request

-- Each of these was sent. What was sent may be missing among them, stand there more than once, and in any order.
abbrev pub WereSent : List PlantEntry → List Arrival → Type 0
WereSent history arrivals = AllByRecursion (WasSent history) arrivals

-- What comes, one after another, leads from one standby to another.
abbrev pub Runs : Data → List Arrival → Data → Type 0
Runs old [] new = old ≡ new
Runs old (arrival ∷ arrivals) new =
    (took : Took) × (between : Data)
    × Takes old arrival.position arrival.request took between × Runs between arrivals new

-- The state is what a front of the history leaves, and as many requests are applied as that front has entries.
pub record IsAtFront (plant : PlantData) (history : List PlantEntry) (standby : Data)
    : Type 0 where
  pub front : List PlantEntry
  pub later : List PlantEntry
  pub parts : history ≡ front ++ later
  pub applied : standby.applied ≡ length front
  pub state : standby.state ≡ run step (states.start plant) front

-- A position came among these.
pub record Came (arrivals : List Arrival) (position : ℕ) : Type 0 where
  pub before : List Arrival
  pub arrival : Arrival
  pub behind : List Arrival
  pub parts : arrivals ≡ before ++ arrival ∷ behind
  pub position_is : arrival.position ≡ position

-- Each position that is applied or kept came, and the applied number is the lowest one that is neither: nothing is kept for
-- it.
pub record IsExact (arrivals : List Arrival) (standby : Data) : Type 0 where
  pub applied : (position : ℕ) → position < standby.applied → Came arrivals position
  pub kept : (position : ℕ) (request : Request) → IsKeptAt standby position request
      → Came arrivals position
  pub missing : (request : Request) → IsKeptAt standby standby.applied request → ⊥

-- A standby has what arrived: it is applied, or kept for its position.
abbrev pub Has : Data → Arrival → Type 0
Has standby arrival =
    (arrival.position < standby.applied) ⊎ IsKeptAt standby arrival.position arrival.request
