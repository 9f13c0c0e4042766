-- Why an entry isn't read.
use Rattle.std.specs.Prelude.{◌≡◌, ℕ, List, Option, Some, None, Result, Ok, Err}
use Rattle.std.specs.Option.{option_map}
use Rattle.state_store.specs.Reading.{kept_by}
use Rattle.state_store.specs.declared.slot.Slot.{Slot}
use Rattle.plant_config.specs.Plant.{PlantData}
use Rattle.plant_core.specs.State.{State}
use Rattle.plant_snapshot.specs.Damage.{slot_number, fault_kept}
use Rattle.plant_snapshot.specs.declared.saved.Unread.{Unread}
use Rattle.plant_snapshot.specs.declared.saved.Unread.TheVariants.{NoMemory, Damaged}

-- An entry of the slot that stands is told to be damaged if it is so, at this slot and place, and read only if it isn't.
abbrev pub SaysDamage : PlantData → Option Slot → List ℕ → Result State Unread → Type 0
SaysDamage plant slot entry (Ok state) = fault_kept plant (kept_by slot entry) ≡ None
SaysDamage plant slot entry (Err NoMemory) = Unit {0}
SaysDamage plant slot entry (Err (Damaged number place)) =
    (option_map slot_number slot ≡ Some number)
    × (fault_kept plant (kept_by slot entry) ≡ Some place)
