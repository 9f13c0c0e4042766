-- The device whose output a source is.
use Rattle.std.proofs.Common.{◌≡◌, ◌≢◌, ℕ, ◌+◌, ◌<◌, nat_eq, Bool, List, map, length, slice_get, Option, Some, None, inl, inr, refl, sym, ap, ◌∙◌, arith, eq-eqb}
use Rattle.std.proofs.lemmas.Bool.{cases_lt, both_ways}
use Rattle.std.proofs.lemmas.Bool.Decides.{Decides-eqb}
use Rattle.std.proofs.lemmas.Map.Made.{AllPairs-from_IsDistinct}
use Rattle.std.proofs.lemmas.Option.{slice_get-map, slice_get_within, get_or_from_slice_get}
use Rattle.std.specs.List.{AllPairs}
use Rattle.std.specs.Option.{option_map, option_eq}
use Rattle.plant_config.specs.declared.records.Device.{Device}
use Rattle.plant_config.specs.Plant.{PlantData}
use Rattle.plant_config.specs.IsPlant.{IsPlant}
use Rattle.crosspoint_state.proofs.FeedLists.{find_number, none_number}
use Rattle.mixer_effects.specs.Buses.{output_of, fed_device}
use Rattle.tally.proofs.CarriedLemmas.{carried_is}

-- of numbers that differ, one has no number of the other
behind : (numbers : List ℕ) → AllPairs (λ x y. x ≢ y) numbers → (first second number : ℕ) → slice_get numbers first ≡ Some number → slice_get numbers second ≡ Some number → first < second → ⊥
behind numbers differ first second number h g before =
    differ first second number before (slice_get_within numbers second number g)
    (get_or_from_slice_get numbers first number number h ∙ sym (get_or_from_slice_get numbers second number number g))

-- no two devices have one output
pub outputs_differ : (plant : PlantData) → IsPlant plant → (first second output : ℕ) → output_of plant first ≡ Some output → output_of plant second ≡ Some output → first ≡ second
outputs_differ plant is first second output h g =
    let outputs : List ℕ = map (λ (device : Device). device.output) plant.devices in
    let differ = AllPairs-from_IsDistinct Decides-eqb outputs is.linked.outputs_differ in
    let at_first : slice_get outputs first ≡ Some output = slice_get-map (λ (device : Device). device.output) plant.devices first ∙ h in
    let at_second : slice_get outputs second ≡ Some output = slice_get-map (λ (device : Device). device.output) plant.devices second ∙ g in
    let not_before : first < second → ⊥ = behind outputs differ first second output at_first at_second in
    let not_behind : second < first → ⊥ = behind outputs differ second first output at_second at_first in
    elim (cases_lt first second) [
      | inl before ↦ absurd (not_before before)
      | inr after ↦ elim (cases_lt second first) [
        | inl before ↦ absurd (not_behind before)
        | inr same ↦ omega arith
      ]
    ]

-- a device with an output is there
output_within : (plant : PlantData) (device output : ℕ) (found : Option Device) → slice_get plant.devices device ≡ found → option_map (λ (found : Device). found.output) found ≡ Some output → device < length plant.devices
output_within plant device output None at has = cc
output_within plant device output (Some found) at has = slice_get_within plant.devices device found at

abbrev puts : PlantData → ℕ → ℕ → Bool
puts plant origin device = option_eq nat_eq (output_of plant device) (Some origin)

-- the device that is found puts the source out, and is there
pub fed_is : (plant : PlantData) (origin device : ℕ) → fed_device plant origin ≡ Some device → output_of plant device ≡ Some origin
fed_is plant origin device found = carried_is (output_of plant device) origin (find_number (puts plant origin) 0 (length plant.devices) device found).1

pub fed_within : (plant : PlantData) (origin device : ℕ) → fed_device plant origin ≡ Some device → device < length plant.devices
fed_within plant origin device found =
    let within : device < 0 + length plant.devices = (find_number (puts plant origin) 0 (length plant.devices) device found).0 in
    omega arith

-- a source that no device is found for is no output
pub none_fed : (plant : PlantData) (origin device : ℕ) → fed_device plant origin ≡ None → output_of plant device ≡ Some origin → ⊥
none_fed plant origin device none has =
    let within = output_within plant device origin (slice_get plant.devices device) refl has in
    let start : device ≡ 0 + device = omega arith in
    both_ways (puts plant origin device)
    (ap (puts plant origin) start ∙ none_number (puts plant origin) 0 (length plant.devices) device none within)
    (ap (λ (found : Option ℕ). option_eq nat_eq found (Some origin)) has ∙ eq-eqb origin origin refl)

-- the device of an output is found for it
pub fed_found : (plant : PlantData) → IsPlant plant → (origin device : ℕ) → output_of plant device ≡ Some origin → fed_device plant origin ≡ Some device
fed_found plant is origin device has = by (fed_device plant origin) refl
  where
    by : (found : Option ℕ) → fed_device plant origin ≡ found → found ≡ Some device
    by None none = absurd (none_fed plant origin device none has)
    by (Some other) found = ap Some (outputs_differ plant is other device origin (fed_is plant origin other found) has)
