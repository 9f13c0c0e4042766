-- Elements of a part of a list, by their places.
use Rattle.std.proofs.Common.{◌≡◌, ◌⊎◌, ℕ, ◌+◌, ◌<◌, ◌≤◌, ◌==◌, cond, List, [], ◌∷◌, map, filter, take, drop, length, slice_get, get_or, Option, Some, None, zero, suc, inl, inr, refl, sym, ap, ◌∙◌, arith}
use Rattle.std.proofs.lemmas.Bool.{ne_eqb, cases_lt}
use Rattle.std.proofs.lemmas.Option.{none-some, slice_get-map, slice_get-get_or}
use Rattle.std.specs.Option.{option_map}
use Rattle.plant_config.specs.declared.records.Device.{Device}
use Rattle.plant_config.specs.declared.records.Bus.{Bus}
use Rattle.plant_config.specs.Plant.{PlantData}
use Rattle.plant_config.specs.IsPlant.{IsPlant}
use Rattle.mixer_effects.specs.Buses.{buses_at}
use Rattle.mixer_effects.proofs.PlantLemmas.{bus_device_below, device_is}

slice_get-drop : {X : Type 0} (first : ℕ) (xs : List X) (place : ℕ) → slice_get (drop first xs) place ≡ slice_get xs (first + place)
slice_get-drop zero xs place = let start : place ≡ 0 + place = omega arith in ap (slice_get xs) start
slice_get-drop (suc first) [] place = refl
slice_get-drop (suc first) (x ∷ xs) place =
    let next : suc (first + place) ≡ suc first + place = omega arith in
    slice_get-drop first xs place ∙ ap (slice_get (x ∷ xs)) next

slice_get-take : {X : Type 0} (count : ℕ) (xs : List X) (place : ℕ) → place < count → slice_get (take count xs) place ≡ slice_get xs place
slice_get-take zero xs place within = absurd (omega (arith, within))
slice_get-take (suc count) [] place within = refl
slice_get-take (suc count) (x ∷ xs) zero within = refl
slice_get-take (suc count) (x ∷ xs) (suc place) within = slice_get-take count xs place (omega (arith, within))

slice_get-past_take : {X : Type 0} (count : ℕ) (xs : List X) (place : ℕ) → count ≤ place → slice_get (take count xs) place ≡ None
slice_get-past_take zero xs place past = refl
slice_get-past_take (suc count) [] place past = refl
slice_get-past_take (suc count) (x ∷ xs) zero past = absurd (omega (arith, past))
slice_get-past_take (suc count) (x ∷ xs) (suc place) past = slice_get-past_take count xs place (omega (arith, past))

-- inside of a part, and past its end
part_within : {X : Type 0} (first count : ℕ) (xs : List X) (place : ℕ) → place < count → slice_get (take count (drop first xs)) place ≡ slice_get xs (first + place)
part_within first count xs place within = slice_get-take count (drop first xs) place within ∙ slice_get-drop first xs place

part_past : {X : Type 0} (first count : ℕ) (xs : List X) (place : ℕ) → count ≤ place → slice_get (take count (drop first xs)) place ≡ None
part_past first count xs place past = slice_get-past_take count (drop first xs) place past

-- the bus of a place among a device's
bus_within : (plant : PlantData) → IsPlant plant → (number place : ℕ) (device : Device) → slice_get plant.devices number ≡ Some device → place < device.buses →
    slice_get (buses_at plant number) place ≡ option_map (λ (bus : Bus). bus.dest) (slice_get plant.buses (device.first_bus + place))
bus_within plant is number place device at within =
    slice_get-map (λ (bus : Bus). bus.dest) (filter (λ (bus : Bus). bus.device == number) plant.buses) place
    ∙ ap (λ (buses : List Bus). option_map (λ (bus : Bus). bus.dest) (slice_get buses place)) (sym (device_is plant is number device at).buses)
    ∙ ap (option_map (λ (bus : Bus). bus.dest)) (part_within device.first_bus device.buses plant.buses place within)

pub bus_past : (plant : PlantData) → IsPlant plant → (number place : ℕ) (device : Device) → slice_get plant.devices number ≡ Some device → device.buses ≤ place → slice_get (buses_at plant number) place ≡ None
bus_past plant is number place device at past =
    slice_get-map (λ (bus : Bus). bus.dest) (filter (λ (bus : Bus). bus.device == number) plant.buses) place
    ∙ ap (λ (buses : List Bus). option_map (λ (bus : Bus). bus.dest) (slice_get buses place)) (sym (device_is plant is number device at).buses)
    ∙ ap (option_map (λ (bus : Bus). bus.dest)) (part_past device.first_bus device.buses plant.buses place past)

-- buses of devices below a number are of none from it on
no_buses : (buses : List Bus) (devices number : ℕ) → devices ≤ number → ((place : ℕ) (bus : Bus) → slice_get buses place ≡ Some bus → bus.device < devices) → filter (λ (bus : Bus). bus.device == number) buses ≡ []
no_buses [] devices number past each = refl
no_buses (bus ∷ buses) devices number past each =
    let here = each 0 bus refl in
    ap (λ b. cond b (bus ∷ filter (λ (bus : Bus). bus.device == number) buses) (filter (λ (bus : Bus). bus.device == number) buses)) (ne_eqb bus.device number (λ e. omega (arith, e, here, past)))
    ∙ no_buses buses devices number past (λ place other at. each (suc place) other at)

-- a number past the devices has no bus
pub no_bus : (plant : PlantData) → IsPlant plant → (number place : ℕ) → slice_get plant.devices number ≡ None → slice_get (buses_at plant number) place ≡ None
no_bus plant is number place none = by (cases_lt number (length plant.devices))
  where
    nothing : Device
    nothing = record { output = 0; first_bus = 0; buses = 0 }

    by : (number < length plant.devices) ⊎ (length plant.devices ≤ number) → slice_get (buses_at plant number) place ≡ None
    by (inl within) = absurd (none-some (get_or plant.devices number nothing) (sym none ∙ slice_get-get_or plant.devices number nothing within))
    by (inr past) = ap (λ (buses : List Bus). slice_get (map (λ (bus : Bus). bus.dest) buses) place) (no_buses plant.buses (length plant.devices) number past (bus_device_below plant is))

-- what is found at a place among a device's, by what stands at its place among all
pub bus_found : (plant : PlantData) → IsPlant plant → (number place : ℕ) (device : Device) (found : Option Bus) → slice_get plant.devices number ≡ Some device → place < device.buses → slice_get plant.buses (device.first_bus + place) ≡ found →
    option_map (λ (bus : Bus). bus.dest) found ≡ slice_get (buses_at plant number) place
bus_found plant is number place device found at within there =
    ap (option_map (λ (bus : Bus). bus.dest)) (sym there) ∙ sym (bus_within plant is number place device at within)
