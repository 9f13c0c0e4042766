-- What is true of all crosspoints and lists of changes, said by what each destination carries.
use Rattle.std.specs.Prelude.{◌≡◌, ◌≢◌, ◌<◌, ◌↔◌, ℕ, true, List, ◌∷◌, ◌++◌, All, Contains, Some, None}
use Rattle.std.specs.FinMap.{get}
use Rattle.plant_config.specs.declared.records.Change.{Change}
use Rattle.plant_config.specs.Plant.{PlantData, destinations_of}
use Rattle.plant_config.specs.Sources.{origin_of, pool_of}
use Rattle.crosspoint_state.specs.declared.spot.Spot.{Spot}
use Rattle.crosspoint_state.specs.Crosspoints.{Crosspoints, source_of, is_idle}
use Rattle.crosspoint_state.specs.Ties.{is_free, Carries, HaveValidTies}
use Rattle.crosspoint_state.specs.Applied.{released, applied, are_enough, exhausted}

-- Each destination that a change names carries the source of its change now.
abbrev pub ChangesAreMade : PlantData → Crosspoints → List Change → Type 0
ChangesAreMade plant crosspoints changes = (change : Change) → Contains changes change
    → source_of (applied plant crosspoints changes) change.dest ≡ change.source

-- None of these changes names the destination.
abbrev pub NoneNames : List Change → ℕ → Type 0
NoneNames changes dest = All (λ change. change.dest ≢ dest) changes

-- A destination that no change names carries what it carried, its tie too.
abbrev pub OthersStay : PlantData → Crosspoints → List Change → Type 0
OthersStay plant crosspoints changes = (dest : ℕ) → NoneNames changes dest
    → get (applied plant crosspoints changes) dest ≡ get crosspoints dest

-- The destination of an idle change carries what it carried, its tie too.
abbrev pub IdleOnesStay : PlantData → Crosspoints → List Change → Type 0
IdleOnesStay plant crosspoints changes = (change : Change) → Contains changes change
    → is_idle crosspoints change ≡ true
    → get (applied plant crosspoints changes) change.dest ≡ get crosspoints change.dest

-- An idle change makes no difference wherever it is put into a list.
abbrev pub IdleOnesDoNothing : PlantData → Crosspoints → Type 0
IdleOnesDoNothing plant crosspoints = (front behind : List Change) (change : Change)
    → is_idle crosspoints change ≡ true
    → applied plant crosspoints (front ++ change ∷ behind)
    ≡ applied plant crosspoints (front ++ behind)

-- Each change is of a destination of the plant.
abbrev pub AreInside : PlantData → List Change → Type 0
AreInside plant changes = All (λ change. change.dest < destinations_of plant) changes

-- Where the ties are valid and enough, they are valid after the changes.
abbrev pub TiesStayValid : PlantData → Crosspoints → List Change → Type 0
TiesStayValid plant crosspoints changes = HaveValidTies plant crosspoints
    → are_enough plant crosspoints changes ≡ true
    → HaveValidTies plant (applied plant crosspoints changes)

-- Where the ties are valid, a release frees the tie of a destination only where no destination carries its origin by its
-- pool any more.
abbrev pub TiesAreFreedLast : PlantData → Crosspoints → List Change → Type 0
TiesAreFreedLast plant crosspoints changes = HaveValidTies plant crosspoints
    → (pool tie dest other : ℕ) (held left : Spot)
    → Carries plant crosspoints dest held
    → Carries plant (released crosspoints changes) other left
    → pool_of plant held.source ≡ Some pool → pool_of plant left.source ≡ Some pool
    → held.tie ≡ Some tie → is_free plant (released crosspoints changes) pool tie ≡ true
    → origin_of plant left.source ≢ origin_of plant held.source

-- No pool is exhausted exactly where the ties are enough.
abbrev pub ExhaustedWhereNotEnough : PlantData → Crosspoints → List Change → Type 0
ExhaustedWhereNotEnough plant crosspoints changes =
    (exhausted plant crosspoints changes ≡ None) ↔ (are_enough plant crosspoints changes ≡ true)
