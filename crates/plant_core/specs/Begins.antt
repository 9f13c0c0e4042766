-- What the history of a plant may begin at.
use Rattle.std.specs.Prelude.{◌≡◌}
use Rattle.plant_config.specs.Plant.{PlantData}
use Rattle.plant_core.specs.State.{State, IsValid}
use Rattle.plant_core.specs.Short.{StaysShort}

-- A history of a plant may begin at any valid state of it of which commands that aren't extended can tell what they alone can
-- reach.
pub record Begins (plant : PlantData) (first : State) : Type 0 where
  pub plant_is : first.plant ≡ plant
  pub valid : IsValid first
  pub short : StaysShort first
