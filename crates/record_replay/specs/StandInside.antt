-- A stand that a replay may come to.
use Rattle.std.specs.Prelude.{◌≡◌, ℕ}
use Rattle.plant_config.specs.Plant.{PlantData}
use Rattle.panel_session.specs.SettledInside.{Settled}
use Rattle.record_replay.specs.Replay.{ReplayState}

-- The state is one of this plant, and no session is in the midst of a turn.
pub record IsSettled (plant : PlantData) (stand : ReplayState) : Type 0 where
  pub plant_is : stand.state.plant ≡ plant
  pub each : (panel : ℕ) → Settled plant panel (stand.pasts panel)
