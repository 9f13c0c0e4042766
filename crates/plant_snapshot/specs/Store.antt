-- The store of a plant on a disk.
use Rattle.std.specs.Prelude.{◌≡◌, ℕ, ◌≤◌, List, Option, vec_capacity}
use Rattle.state_store.specs.Store as slots
use Rattle.plant_config.specs.Plant.{PlantData}
use Rattle.plant_snapshot.specs.StandsFor.{entry_size}
use Rattle.plant_snapshot.specs.declared.store.Store.{Store}

-- the disk of a store
abbrev pub disk_of : {D : Type 0} → Store D → D
disk_of store = slots.disk_of store.slots

-- the number of what is kept, 0 at the start
abbrev pub saved_number : {D : Type 0} → Store D → ℕ
saved_number store = slots.number_by store.slots

-- A store is one for the states of a plant: a crash leaves what its disk shows, and there is room for an entry.
pub record IsStoreOf {D : Type 0} (size : D → ℕ) (contents : D → Option (List ℕ))
    (may_leave : D → List ℕ → Type 0) (plant : PlantData) (store : Store D) : Type 0 where
  pub settled : slots.IsSettled size contents may_leave store.slots
  pub len : slots.entry_len_of store.slots ≡ entry_size plant
  pub room : entry_size plant ≤ vec_capacity store.entry
