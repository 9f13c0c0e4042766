-- What the lines of traces make of a standby, in the order in which they stand.
use Rattle.std.specs.Prelude.{◌≡◌, ◌≢◌, ℕ, ◌+◌, ◌<◌, List, [], ◌∷◌, ◌++◌, length}
use Rattle.plant_config.specs.Plant.{PlantData}
use Rattle.trace_lines.specs.Trace.{TellsRequest}
use Rattle.standby.specs.declared.took.Took.{Took}
use Rattle.standby.specs.declared.took.Took.TheVariants.{Old, Beyond, Differs, Kept, Applied}
use Rattle.standby.specs.Standby.{Data}
use Rattle.standby.specs.StandbyInside.{position_limit}
use Rattle.standby.specs.Table.{Takes}
use Rattle.standby.specs.Arrivals.{Arrival}
use Rattle.command_standby.specs.declared.follow.Passed.{Passed}

-- A line tells what may come to a standby: a request that fits the plant, with a position below 2^62.
pub record TellsArrival (plant : PlantData) (line : List ℕ) (arrival : Arrival) : Type 0 where
  pub told : TellsRequest plant line arrival.position arrival.request
  pub below : arrival.position < position_limit

-- The lines tell these arrivals, one each, in their order.
abbrev pub LinesTell : PlantData → List (List ℕ) → List Arrival → Type 0
LinesTell plant [] [] = Unit {0}
LinesTell plant (line ∷ lines) (arrival ∷ arrivals) =
    TellsArrival plant line arrival × LinesTell plant lines arrivals
LinesTell plant [] (arrival ∷ arrivals) = ⊥
LinesTell plant (line ∷ lines) [] = ⊥

-- The line of this number, counted from 1, is the first that tells nothing that may come.
pub record IsFirstRefused (plant : PlantData) (lines : List (List ℕ)) (number : ℕ)
    : Type 0 where
  pub before : List (List ℕ)
  pub arrivals : List Arrival
  pub told : LinesTell plant before arrivals
  pub line : List ℕ
  pub behind : List (List ℕ)
  pub place : lines ≡ before ++ line ∷ behind
  pub refused : (arrival : Arrival) → TellsArrival plant line arrival → ⊥
  pub counted : number ≡ length before + 1

-- at first none came that was old, or beyond the window
abbrev pub none_passed : Passed
none_passed = record { old_count = 0; beyond_count = 0 }

-- what the counts of those are, after one came that was answered so
abbrev pub passing : Took → Passed → Passed
passing Old passed = record passed { old_count = passed.old_count + 1 }
passing (Beyond limit) passed = record passed { beyond_count = passed.beyond_count + 1 }
passing Differs passed = passed
passing Kept passed = passed
passing (Applied count) passed = passed

-- One comes, its answer is no difference, and it is counted.
pub record TakesOne (old : Data) (passed : Passed) (arrival : Arrival) (new : Data)
    (counted : Passed) : Type 0 where
  pub took : Took
  pub same : took ≢ Differs
  pub takes : Takes old arrival.position arrival.request took new
  pub counted_is : counted ≡ passing took passed

-- These come, one after another, and lead from one standby and its counts to another without a difference.
abbrev pub TakesAll : Data → Passed → List Arrival → Data → Passed → Type 0
TakesAll old passed [] new all = (new ≡ old) × (all ≡ passed)
TakesAll old passed (arrival ∷ arrivals) new all =
    (between : Data) × (counted : Passed) × TakesOne old passed arrival between counted
    × TakesAll between counted arrivals new all

-- The first of these that differs from what is kept has this position.
pub record FirstDiffers (first : Data) (arrivals : List Arrival) (position : ℕ) : Type 0 where
  pub before : List Arrival
  pub arrival : Arrival
  pub behind : List Arrival
  pub parts : arrivals ≡ before ++ arrival ∷ behind
  pub between : Data
  pub passed : Passed
  pub taken : TakesAll first none_passed before between passed
  pub after : Data
  pub differs : Takes between arrival.position arrival.request Differs after
  pub position_is : position ≡ arrival.position
