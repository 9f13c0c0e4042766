-- What counts may be counted anew.
use Rattle.plant_config.specs.Plant.{PlantData}
use Rattle.crosspoint_state.specs.Crosspoints.{Crosspoints}
use Rattle.tie_pools.specs.Counts.{Counts, AreCountsOf}

-- Counts are a plant's: they are those of some crosspoints, whichever these are.
pub record AreSomeCounts (plant : PlantData) (counts : Counts) : Type 0 where
  pub points : Crosspoints
  pub counted : AreCountsOf plant points counts
