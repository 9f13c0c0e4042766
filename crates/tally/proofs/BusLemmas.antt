-- The buses of a device, and those that a destination switches.
use Rattle.std.proofs.Common.{◌≡◌, ℕ, ◌<◌, ◌≤◌, ◌==◌, nat_eq, Bool, List, map, filter, length, slice_get, Option, Some, None, refl, sym, ap, ◌∙◌, arith, eq-eqb, eqb-true}
use Rattle.std.proofs.lemmas.Option.{get_or_from_slice_get}
use Rattle.std.specs.List.{Contains}
use Rattle.std.specs.Option.{option_map, option_eq}
use Rattle.plant_config.specs.declared.records.Bus.{Bus}
use Rattle.plant_config.specs.Plant.{PlantData, destinations_of}
use Rattle.plant_config.specs.IsPlant.{IsPlant}
use Rattle.mixer_effects.proofs.PlantLemmas.{bus_dest_below, bus_device_below}
use Rattle.mixer_effects.specs.Buses.{bus_at, device_at, buses_at, switched_at}
use Rattle.tally.proofs.Searches.{found_stands}
use Rattle.tally.proofs.LiveLemmas.{bus_found}
use Rattle.tally.proofs.ListLemmas.{bus_among, has_bus, few_pass, within}

-- a destination that is among them is one of the plant, and of that device
pub bus_below : (plant : PlantData) (test : Bus → Bool) (dest : ℕ) → IsPlant plant → Contains (map (λ (bus : Bus). bus.dest) (filter test plant.buses)) dest → dest < destinations_of plant
bus_below plant test dest is has =
    let found = bus_among test plant.buses dest has in
    omega (arith, bus_dest_below plant is found.place found.bus found.at, found.is)

pub switched_below : (plant : PlantData) (switch place dest : ℕ) → IsPlant plant → Some dest ≡ slice_get (switched_at plant switch) place → dest < destinations_of plant
switched_below plant switch place dest is at = bus_below plant (λ (bus : Bus). option_eq nat_eq bus.switch (Some switch)) dest is (here (switched_at plant switch) place dest at)
  where
    here : (xs : List ℕ) (place dest : ℕ) → Some dest ≡ slice_get xs place → Contains xs dest
    here xs place dest at = (place, within xs place dest at, get_or_from_slice_get xs place dest dest (sym at))

pub device_bus_below : (plant : PlantData) (device place dest : ℕ) → IsPlant plant → Some dest ≡ slice_get (buses_at plant device) place → dest < destinations_of plant
device_bus_below plant device place dest is at =
    bus_below plant (λ (bus : Bus). bus.device == device) dest is
    (place, within (buses_at plant device) place dest at, get_or_from_slice_get (buses_at plant device) place dest dest (sym at))

pub few_switched : (plant : PlantData) (switch : ℕ) → IsPlant plant → length (switched_at plant switch) ≤ 1024
few_switched plant switch is = omega (arith, few_pass (λ (bus : Bus). option_eq nat_eq bus.switch (Some switch)) plant.buses, is.linked.buses.0)

pub few_buses : (plant : PlantData) (device : ℕ) → IsPlant plant → length (buses_at plant device) ≤ 1024
few_buses plant device is = omega (arith, few_pass (λ (bus : Bus). bus.device == device) plant.buses, is.linked.buses.0)

-- which device has a bus
pub device_is : (plant : PlantData) (device dest : ℕ) → IsPlant plant → Contains (buses_at plant device) dest → device_at plant dest ≡ Some device
device_is plant device dest is has =
    let found = bus_among (λ (bus : Bus). bus.device == device) plant.buses dest has in
    ap (device_at plant) (sym found.is)
    ∙ ap (option_map (λ (bus : Bus). bus.device)) (bus_found plant found.place found.bus is found.at)
    ∙ ap Some (eqb-true found.bus.device device found.passes)

-- a bus is among those of its device, and among those of its switch
pub is_of_device : (plant : PlantData) (place : ℕ) (bus : Bus) → slice_get plant.buses place ≡ Some bus → Contains (buses_at plant bus.device) bus.dest
is_of_device plant place bus at = has_bus (λ (other : Bus). other.device == bus.device) plant.buses place bus at (eq-eqb bus.device bus.device refl)

pub is_switched : (plant : PlantData) (place : ℕ) (bus : Bus) (switch : ℕ) → slice_get plant.buses place ≡ Some bus → bus.switch ≡ Some switch → Contains (switched_at plant switch) bus.dest
is_switched plant place bus switch at switched =
    has_bus (λ (other : Bus). option_eq nat_eq other.switch (Some switch)) plant.buses place bus at
    (ap (λ (found : Option ℕ). option_eq nat_eq found (Some switch)) switched ∙ eq-eqb switch switch refl)

-- a bus that is found stands somewhere
pub record IsBusAt (plant : PlantData) (dest : ℕ) (bus : Bus) : Type 0 where
  pub place : ℕ
  pub at : slice_get plant.buses place ≡ Some bus
  pub is : bus.dest ≡ dest

pub bus_stands : (plant : PlantData) (dest : ℕ) (bus : Bus) → bus_at plant dest ≡ Some bus → IsBusAt plant dest bus
bus_stands plant dest bus found =
    let at = found_stands (λ (bus : Bus). bus.dest == dest) plant.buses bus found in
    record { place = at.0; at = at.1; is = eqb-true bus.dest dest at.2 }

pub device_below : (plant : PlantData) (dest device : ℕ) → IsPlant plant → Some device ≡ device_at plant dest → device < length plant.devices
device_below plant dest device is has = by (bus_at plant dest) refl has
  where
    by : (found : Option Bus) → bus_at plant dest ≡ found → Some device ≡ option_map (λ (bus : Bus). bus.device) found → device < length plant.devices
    by None at has = cc
    by (Some bus) at has =
        let stands = bus_stands plant dest bus at in
        let same : device ≡ bus.device = cc in
        omega (arith, bus_device_below plant is stands.place bus stands.at, same)
