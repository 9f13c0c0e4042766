-- The seat of a worker.
use Rattle.std.specs.Prelude.{◌≡◌}
use Rattle.history_lock.specs.Locks.{LockData}
use Rattle.plant_config.specs.Plant.{PlantData}
use Rattle.plant_core.specs.State.{State, start}
use Rattle.panel_session.specs.Served.{PlantSeat}

-- A seat is one of a lock that was made with the start of a plant.
pub record IsSeatOf (plant : PlantData) (lock : LockData State) (seat : PlantSeat) : Type 0 where
  pub seat_of : seat.lock ≡ lock.id
  pub first : seat.first ≡ start plant
