-- What of a store's bytes is no text of a state.
use Rattle.std.specs.Prelude.{◌≡◌, ℕ, List, Option, Some, None}
use Rattle.std.specs.Option.{option_map}
use Rattle.state_store.specs.Kept.{Kept, Start, Saved, standing, heads_in}
use Rattle.state_store.specs.declared.slot.Slot.{Slot}
use Rattle.state_store.specs.declared.slot.Slot.TheVariants.{First, Second}
use Rattle.plant_config.specs.Plant.{PlantData}
use Rattle.plant_core.specs.StateFault.{first_fault}
use Rattle.plant_snapshot.specs.StandsFor.{entry_size, kept_for}

-- a slot's number: 0 for the first, 1 for the second
abbrev pub slot_number : Slot → ℕ
slot_number First = 0
slot_number Second = 1

-- the number of the slot that stands in the bytes of a plant's store
abbrev pub number_standing : PlantData → List ℕ → Option ℕ
number_standing plant all = option_map slot_number (standing (heads_in (entry_size plant) all))

-- the place of the first field that breaks a rule, in the text that is kept
abbrev pub fault_kept : PlantData → Kept → Option ℕ
fault_kept plant Start = None
fault_kept plant (Saved number text) = first_fault plant text

-- The slot that stands has this number, and the first field of its text that breaks a rule stands at this place of the text.
pub record IsDamaged (plant : PlantData) (slot place : ℕ) (all : List ℕ) : Type 0 where
  pub slot_is : number_standing plant all ≡ Some slot
  pub place_is : fault_kept plant (kept_for plant all) ≡ Some place

-- No slot stands, or no field of its text breaks a rule.
abbrev pub IsWhole : PlantData → List ℕ → Type 0
IsWhole plant all = fault_kept plant (kept_for plant all) ≡ None
