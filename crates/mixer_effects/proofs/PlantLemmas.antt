-- What of a plant's buses and devices is below what the tables have room for.
use Rattle.std.proofs.Common.{◌≡◌, ℕ, ◌<◌, ◌≤◌, true, false, length, slice_get, Option, Some, None, is_none, refl, subst, arith}
use Rattle.std.proofs.lemmas.Bool.{false≢true}
use Rattle.std.proofs.lemmas.Option.{slice_get_within, get_or_from_slice_get}
use Rattle.std.specs.Option.{option_map, option_map_or, MatchOption, IfSome}
use Rattle.plant_config.specs.declared.records.Level.{Level}
use Rattle.plant_config.specs.declared.records.Source.{Source}
use Rattle.plant_config.specs.declared.records.Device.{Device}
use Rattle.plant_config.specs.declared.records.Bus.{Bus}
use Rattle.plant_config.specs.Plant.{PlantData, dest_numbers, source_numbers, destinations_of, sources_of}
use Rattle.plant_config.specs.IsPlant.{is_local, IsSomeSo, IsMainDest, IsSwitch, IsBus, IsDevice, IsPlant}
use Rattle.plant_config.specs.Sites.{Site, level_of, site_of, has_number, source_number_of, LeadBothWays}
use Rattle.plant_config.proofs.SiteLemmas.{dests_are, sources_are, level_of-is, numbers_within, lead_both_ways}

main_below : (plant : PlantData) → IsPlant plant → (dest : ℕ) → IsMainDest plant dest → dest < destinations_of plant
main_below plant is dest main = by (level_of dest_numbers plant dest) refl main
  where
    by : (found : Option Level) → level_of dest_numbers plant dest ≡ found → IsSomeSo found (λ at. at.level ≡ 0) → dest < destinations_of plant
    by None at main = absurd main
    by (Some level) at main =
        let among = level_of-is dest_numbers plant (dests_are plant is) dest level at in
        let within = numbers_within dest_numbers plant (dests_are plant is) (has_number dest_numbers dest) level at in
        omega (arith, among.high, within)

-- a bus is what a plant says of it
bus_is : (plant : PlantData) → IsPlant plant → (place : ℕ) (bus : Bus) → slice_get plant.buses place ≡ Some bus → IsBus plant bus
bus_is plant is place bus at =
    subst (IsBus plant) (get_or_from_slice_get plant.buses place bus bus at) (is.linked.buses.1 place bus (slice_get_within plant.buses place bus at))

pub bus_dest_below : (plant : PlantData) → IsPlant plant → (place : ℕ) (bus : Bus) → slice_get plant.buses place ≡ Some bus → bus.dest < destinations_of plant
bus_dest_below plant is place bus at = main_below plant is bus.dest (bus_is plant is place bus at).dest

pub switch_below : (plant : PlantData) → IsPlant plant → (place : ℕ) (bus : Bus) (switch : ℕ) → slice_get plant.buses place ≡ Some bus → bus.switch ≡ Some switch → switch < destinations_of plant
switch_below plant is place bus switch at switched =
    let one : IsSwitch plant switch = subst (λ (o : Option ℕ). MatchOption o (Unit {0}) (IsSwitch plant)) switched (bus_is plant is place bus at).switch in
    one.dest

pub bus_device_below : (plant : PlantData) → IsPlant plant → (place : ℕ) (bus : Bus) → slice_get plant.buses place ≡ Some bus → bus.device < length plant.devices
bus_device_below plant is place bus at = (bus_is plant is place bus at).device

-- a device is what a plant says of it
pub device_is : (plant : PlantData) → IsPlant plant → (number : ℕ) (device : Device) → slice_get plant.devices number ≡ Some device → IsDevice plant number device
device_is plant is number device at = subst (λ (o : Option Device). IfSome o (IsDevice plant number)) at (is.linked.each_device number)

local_below : (plant : PlantData) (source : ℕ) → is_local plant source ≡ true → source < length plant.sources
local_below plant source local = by (slice_get plant.sources source) refl local
  where
    by : (found : Option Source) → slice_get plant.sources source ≡ found → option_map_or (λ (found : Source). is_none found.pool) found false ≡ true → source < length plant.sources
    by None at local = absurd (false≢true local)
    by (Some found) at local = slice_get_within plant.sources source found at

pub output_below : (plant : PlantData) → IsPlant plant → (number : ℕ) (device : Device) → slice_get plant.devices number ≡ Some device → device.output < sources_of plant
output_below plant is number device at =
    let below = local_below plant device.output (device_is plant is number device at).output in
    omega (arith, below, is.named.sources)

-- a number past the sources is of none
pub no_source : (plant : PlantData) → IsPlant plant → (source : ℕ) → sources_of plant ≤ source → source_number_of plant source ≡ None
no_source plant is source past = by (site_of source_numbers plant source) refl
  where
    by : (found : Option Site) → site_of source_numbers plant source ≡ found → option_map (λ place. place.number) found ≡ None
    by None at = refl
    by (Some place) at =
        let ways : LeadBothWays source_numbers plant = lead_both_ways source_numbers plant (sources_are plant is) in
        let below = ways.below place.matrix place.level place.number source (ways.number source place at) in
        absurd (omega (arith, below, past))
