-- A plant, the wiring of its devices, what its destinations carry, and the tap lists.
use Rattle.tap_lists.specs.Lists.{Lists}
use Rattle.plant_config.specs.Plant.{PlantData}
use Rattle.crosspoint_state.specs.Crosspoints.{Crosspoints}
use Rattle.mixer_effects.specs.Wiring.{Wiring}

-- of which plant this is, by which tables buses and devices are found, what each destination carries, and under each local
-- source the destinations that carry its picture
pub record GraphData : Type 0 where
  pub plant : PlantData
  pub wiring : Wiring
  pub crosspoints : Crosspoints
  pub taps : Lists
