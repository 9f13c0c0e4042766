-- What is true of every standby and of all that comes to it. The functions of `laws` promise it.
use Rattle.std.specs.Prelude.{◌≡◌, ◌⊎◌, ℕ, ◌-◌, ◌≤◌, List, ◌∷◌, ◌++◌, take, drop}
use Rattle.history_lock.specs.History.{run, IsLegal}
use Rattle.plant_config.specs.Plant.{PlantData}
use Rattle.plant_core.specs.declared.request.Request.{Request}
use Rattle.plant_core.specs.State as states
use Rattle.plant_core.specs.State.{Fits}
use Rattle.plant_core.specs.Step.{step}
use Rattle.plant_core.specs.HistoryLaws.{PlantEntry}
use Rattle.standby.specs.declared.took.Took.{Took}
use Rattle.standby.specs.Standby.{Data, IsKeptAt, start, limit}
use Rattle.standby.specs.Table.{Takes}
use Rattle.standby.specs.Follows.{Follows, StaysBehind}
use Rattle.standby.specs.Arrivals.{Arrival, WereSent, Runs, IsAtFront, IsExact, Has}

-- To each request that comes there is one answer, and it leaves one standby.
abbrev pub AnswersAreExact : Type 0
AnswersAreExact =
    (old : Data) (position : ℕ) (request : Request) (one other : Took) (left right : Data)
    → Takes old position request one left → Takes old position request other right
    → (one ≡ other) × (left ≡ right)

-- a new standby follows every history
abbrev pub NewStandbysFollow : Type 0
NewStandbysFollow = (plant : PlantData) (places : ℕ) (history : List PlantEntry)
    → Follows plant history (start plant places)

-- what a history has at its position is never answered by a difference, and the standby goes on following
abbrev pub StandbysFollow : Type 0
StandbysFollow = (old : Data) (position : ℕ) (request : Request) (took : Took) (new : Data)
    → Takes old position request took new → StaysBehind old position request took new

-- Whatever a line loses, repeats and reorders: after what came of a history, the state of a standby that was new is that of a
-- front of it.
abbrev pub StatesAreOfFronts : Type 0
StatesAreOfFronts =
    (plant : PlantData) (places : ℕ) (history : List PlantEntry) (arrivals : List Arrival)
    (standby : Data) → WereSent history arrivals → Runs (start plant places) arrivals standby
    → IsAtFront plant history standby

-- And that front is exact, whatever came, of a history or not.
abbrev pub FrontsAreExact : Type 0
FrontsAreExact = (plant : PlantData) (places : ℕ) (arrivals : List Arrival) (standby : Data)
    → Runs (start plant places) arrivals standby → IsExact arrivals standby

-- Nothing is lost that came within the window: of all that came of a history, it is applied or kept at the end, or it was
-- beyond the window when it came.
abbrev pub NothingIsLost : Type 0
NothingIsLost =
    (plant : PlantData) (places : ℕ) (history : List PlantEntry)
    (before behind : List Arrival) (arrival : Arrival) (between last : Data)
    → WereSent history (before ++ arrival ∷ behind)
    → Runs (start plant places) before between → Runs between (arrival ∷ behind) last
    → Has last arrival ⊎ (limit between ≤ arrival.position)

-- Two standbys of one history agree: the one that is further has the state that the other one comes to by the entries between
-- them. So where both have applied as many they have the same state.
abbrev pub StandbysAgree : Type 0
StandbysAgree =
    (plant : PlantData) (history : List PlantEntry) (one other : Data)
    → Follows plant history one → Follows plant history other → one.applied ≤ other.applied
    → other.state ≡ run step one.state
    (take (other.applied - one.applied) (drop one.applied history))

-- They keep the same for a position.
abbrev pub StandbysKeepTheSame : Type 0
StandbysKeepTheSame =
    (plant : PlantData) (history : List PlantEntry) (one other : Data) (position : ℕ)
    (request another : Request)
    → Follows plant history one → Follows plant history other
    → IsKeptAt one position request → IsKeptAt other position another → request ≡ another

-- A takeover: what is asked of the state from then on makes, behind the front that was applied, one legal history from the
-- plant's start.
abbrev pub TakeoversGoOn : Type 0
TakeoversGoOn =
    (plant : PlantData) (history later : List PlantEntry) (standby : Data)
    → Follows plant history standby
    → IsLegal step Fits (states.start plant) history → IsLegal step Fits standby.state later
    → IsLegal step Fits (states.start plant) (take standby.applied history ++ later)
