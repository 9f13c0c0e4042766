-- Why a list of changes isn't made.
use Rattle.std.specs.Prelude.{◌≡◌, Bool, List, Some}
use Rattle.plant_config.specs.declared.records.Change.{Change}
use Rattle.plant_config.specs.Plant.{PlantData}
use Rattle.crosspoint_state.specs.Crosspoints.{Crosspoints}
use Rattle.crosspoint_state.specs.Ties.{wanted}
use Rattle.crosspoint_state.specs.Applied.{put_all}
use Rattle.tie_pools.specs.Reserve.{limit_for, exceeded}
use Rattle.tie_pools.specs.declared.planned.Exhausted.{Exhausted}

-- A pool is exhausted for a panel: it is the lowest that the list exceeds. So many different origins would come by it, with
-- all new sources put in at once, and so many may.
pub record IsExhausted (plant : PlantData) (crosspoints : Crosspoints) (master : Bool)
    (changes : List Change) (fault : Exhausted) : Type 0 where
  pub lowest : exceeded plant crosspoints master changes ≡ Some fault.pool
  pub wanted : fault.wanted ≡ wanted plant (put_all crosspoints changes) fault.pool
  pub limit : fault.limit ≡ limit_for plant crosspoints master fault.pool
