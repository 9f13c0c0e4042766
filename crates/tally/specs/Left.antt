-- What stays live of all that was live, after whatever may have lost its way to the roots went dark.
use Rattle.std.specs.Prelude.{◌≡◌, ℕ, Bool, true, false, List, slice_get, Some}
use Rattle.std.specs.FinMap.{get}
use Rattle.plant_config.specs.declared.records.Bus.{Bus}
use Rattle.plant_config.specs.Plant.{PlantData}
use Rattle.crosspoint_state.specs.Crosspoints.{Crosspoints}
use Rattle.mixer_effects.specs.Buses.{is_bus_on}
use Rattle.mixer_effects.specs.Live.{is_fed_by, is_live}
use Rattle.tally.specs.Tally.{is_root}

-- What a destination that is left carries hasn't moved.
abbrev pub HaveStood : Crosspoints → Crosspoints → (ℕ → Bool) → Type 0
HaveStood old new is_left = (dest : ℕ) → is_left dest ≡ true → get new dest ≡ get old dest

-- The switch of a bus that is left hasn't moved.
abbrev pub HaveSwitchesStood : PlantData → Crosspoints → Crosspoints → (ℕ → Bool) → Type 0
HaveSwitchesStood plant old new is_left = (place : ℕ) (bus : Bus)
    → slice_get plant.buses place ≡ Some bus → is_left bus.dest ≡ true
    → is_bus_on plant new bus ≡ is_bus_on plant old bus

-- Where a destination that was live is dark, so are the buses of the device that fed it, but for the roots.
abbrev pub AreFollowed : PlantData → Crosspoints → List ℕ → (ℕ → Bool) → Type 0
AreFollowed plant old roots is_left = (place dest : ℕ) (bus : Bus)
    → slice_get plant.buses place ≡ Some bus → is_live plant old roots dest ≡ true
    → is_left dest ≡ false → is_fed_by plant old bus.device dest ≡ true
    → is_root roots bus.dest ≡ false → is_left bus.dest ≡ false

-- These destinations are left over.
pub record AreLeftOver (plant : PlantData) (old new : Crosspoints) (roots : List ℕ)
    (is_left : ℕ → Bool) : Type 0 where
  pub stood : HaveStood old new is_left
  pub switches : HaveSwitchesStood plant old new is_left
  pub followed : AreFollowed plant old roots is_left

-- Every destination that was live and is left is live.
abbrev pub LeftAreLive : PlantData → Crosspoints → Crosspoints → List ℕ → (ℕ → Bool) → Type 0
LeftAreLive plant old new roots is_left = (dest : ℕ) → is_live plant old roots dest ≡ true
    → is_left dest ≡ true → is_live plant new roots dest ≡ true
