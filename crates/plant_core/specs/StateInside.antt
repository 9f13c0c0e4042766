-- How a state is kept.
use Rattle.std.specs.Prelude.{◌≡◌, ℕ, not, List, filter}
use Rattle.crosspoint_state.specs.Table.{Table}
use Rattle.plant_config.specs.Plant.{PlantData, destinations_of}
use Rattle.plant_config.specs.declared.records.Change.{Change}
use Rattle.crosspoint_state.specs.Crosspoints.{Crosspoints, is_idle}
use Rattle.crosspoint_state.specs.Taps.{Points, ArePointsOf}
use Rattle.tie_pools.specs.Counts.{AreCountsOf}
use Rattle.salvo_groups.specs.Groups.{Group}
use Rattle.change_boards.specs.Board.{Board}
use Rattle.change_boards.specs.Screens.{AreScreensOf}
use Rattle.change_boards.specs.Shown.{Shown}
use Rattle.mixer_effects.specs.Wiring.{IsWiringOf}
use Rattle.tally.specs.Update.{AreMoves}
use Rattle.tally.specs.Kept.{IsKeptFor}
use Rattle.plant_core.specs.declared.tables.Tables.{Tables}
use Rattle.plant_core.specs.declared.tallies.Tallies.{Tallies}
use Rattle.due_displays.specs.Due.{Due}
use Rattle.plant_core.specs.State.{State, IsValid}
use Rattle.plant_core.specs.Short.{StaysShort}
use Rattle.plant_core.specs.DueInside.{AreKeptDue}

-- the state that its parts stand for
abbrev pub state_of : PlantData → Points → Table ℕ → List Group → List Board → Shown → State
state_of plant points owners groups boards shown = record {
  plant = plant;
  crosspoints = points.entries;
  owners = owners.entries;
  groups = groups;
  boards = boards;
  shown = shown;
}

-- those of a list of changes that change something, in their order
abbrev pub busy_of : Crosspoints → List Change → List Change
busy_of crosspoints changes = filter (λ change. not (is_idle crosspoints change)) changes

-- Tallies are those of a plant and its crosspoints: one is kept for its air roots, and one for its preview roots.
pub record AreTalliesOf (plant : PlantData) (crosspoints : Crosspoints) (tallies : Tallies)
    : Type 0 where
  pub air : IsKeptFor plant crosspoints plant.air tallies.air
  pub preview : IsKeptFor plant crosspoints plant.preview tallies.preview

-- Tallies were those of what stood, and since then these changes have moved what they name, and nothing else has moved.
pub record WereTallies (plant : PlantData) (crosspoints : Crosspoints) (changes : List Change)
    (tallies : Tallies) : Type 0 where
  pub old : Crosspoints
  pub before : AreTalliesOf plant old tallies
  pub moved : AreMoves old crosspoints changes

-- Tables are those of a plant and its crosspoints: the counts of its ties, the tables of its mixers, its tallies, and the
-- displays of its screens.
pub record AreTablesOf (plant : PlantData) (crosspoints : Crosspoints) (tables : Tables)
    : Type 0 where
  pub counted : AreCountsOf plant crosspoints tables.ties
  pub wired : IsWiringOf plant tables.mixers
  pub tallied : AreTalliesOf plant crosspoints tables.tallies
  pub screened : AreScreensOf plant tables.screens

-- There is room for what each destination of a plant carries, with its tap lists, and for who protects it.
pub record HaveRoom (plant : PlantData) (points : Points) (owners : Table ℕ) : Type 0 where
  pub crosspoints : ArePointsOf plant points
  pub protects : owners.room ≡ destinations_of plant

-- A state is kept where it is valid, what the commands that aren't extended alone can reach can be told by them, there is
-- room for all destinations, the tables beside it go with it, and each display that differs is due.
pub record IsKept (state : State) (points : Points) (owners : Table ℕ) (tables : Tables)
    (waiting : Due) : Type 0 where
  pub valid : IsValid state
  pub short : StaysShort state
  pub room : HaveRoom state.plant points owners
  pub beside : AreTablesOf state.plant state.crosspoints tables
  pub due : AreKeptDue state.plant state.crosspoints state.shown waiting
