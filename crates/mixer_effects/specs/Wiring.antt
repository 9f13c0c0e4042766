-- The tables by which the buses and devices of a plant are found.
use Rattle.std.specs.Prelude.{◌≡◌, ◌==◌, ℕ, Bool, false, not, List, [], take, drop, slice_get, Option, refl}
use Rattle.std.specs.Option.{option_map_or, option_and_then}
use Rattle.std.specs.Ordering.{nat_cmp}
use Rattle.std.specs.FinMap.{FinMap, get, code as map_code}
use Rattle.std.specs.Coded.{Coded, code_by, coded×, coded_ℕ, coded_list, coded_option}
use Rattle.plant_config.specs.declared.records.Device.{Device}
use Rattle.plant_config.specs.declared.records.Bus.{Bus}
use Rattle.plant_config.specs.Plant.{PlantData}
use Rattle.plant_config.specs.IsPlant.{IsPlant}
use Rattle.plant_config.specs.Sites.{source_number_of}
use Rattle.mixer_effects.specs.declared.span.Span.{Span}
use Rattle.mixer_effects.specs.Buses.{bus_at, fed_device, switched_at}

-- The devices and the buses. By source, its number in its level. By destination, the place among the buses of the bus that
-- it is. By source, the device whose output it is. By destination, where the buses that it switches stand in one list.
pub record Wiring : Type 0 where
  pub devices : List Device
  pub buses : List Bus
  pub number_by_source : FinMap nat_cmp ℕ
  pub bus_by_dest : FinMap nat_cmp ℕ
  pub device_by_output : FinMap nat_cmp ℕ
  pub span_by_switch : FinMap nat_cmp Span
  pub switched : List ℕ

-- devices, buses and spans are stored as the tuples of their fields
abbrev pub device_code : Coded Device
device_code = code_by (ℕ × (ℕ × ℕ)) (coded× coded_ℕ (coded× coded_ℕ coded_ℕ))
    (λ device. (device.output, (device.first_bus, device.buses)))
    (λ tuple. record { output = tuple.0; first_bus = tuple.1.0; buses = tuple.1.1 }) (λ _. refl)

abbrev pub bus_code : Coded Bus
bus_code = code_by (ℕ × (ℕ × Option ℕ)) (coded× coded_ℕ (coded× coded_ℕ (coded_option coded_ℕ)))
    (λ bus. (bus.device, (bus.dest, bus.switch)))
    (λ tuple. record { device = tuple.0; dest = tuple.1.0; switch = tuple.1.1 }) (λ _. refl)

abbrev pub span_code : Coded Span
span_code = code_by (ℕ × ℕ) (coded× coded_ℕ coded_ℕ) (λ span. (span.first, span.count))
    (λ pair. record { first = pair.0; count = pair.1 }) (λ _. refl)

-- numbers by number are stored as the list of their entries
abbrev pub by_number_code : Coded (FinMap nat_cmp ℕ)
by_number_code = map_code coded_ℕ coded_ℕ

-- a wiring is stored as its fields
abbrev pub code : Coded Wiring
code =
    code_by
    ((List Device × List Bus)
    × ((FinMap nat_cmp ℕ × (FinMap nat_cmp ℕ × FinMap nat_cmp ℕ))
    × (FinMap nat_cmp Span × List ℕ)))
    (coded× (coded× (coded_list device_code) (coded_list bus_code))
    (coded× (coded× by_number_code (coded× by_number_code by_number_code))
    (coded× (map_code coded_ℕ span_code) (coded_list coded_ℕ))))
    (λ wiring. (
      (wiring.devices, wiring.buses),
      (
        (wiring.number_by_source, (wiring.bus_by_dest, wiring.device_by_output)),
        (wiring.span_by_switch, wiring.switched),
      ),
    ))
    (λ tuple. record {
      devices = tuple.0.0;
      buses = tuple.0.1;
      number_by_source = tuple.1.0.0;
      bus_by_dest = tuple.1.0.1.0;
      device_by_output = tuple.1.0.1.1;
      span_by_switch = tuple.1.1.0;
      switched = tuple.1.1.1;
    }) (λ _. refl)

-- the bus that a destination is
abbrev pub bus_at_dest : Wiring → ℕ → Option Bus
bus_at_dest wiring dest = option_and_then (slice_get wiring.buses) (get wiring.bus_by_dest dest)

-- the part of a list that a span is
abbrev pub part_at : List ℕ → Span → List ℕ
part_at list span = take span.count (drop span.first list)

-- the buses that a destination switches
abbrev pub switched_in : Wiring → ℕ → List ℕ
switched_in wiring dest =
    option_map_or (part_at wiring.switched) (get wiring.span_by_switch dest) []

-- whether a switch is on that carries this source
abbrev pub is_on_by : Wiring → ℕ → Bool
is_on_by wiring source =
    option_map_or (λ number. not (number == 0)) (get wiring.number_by_source source) false

-- The tables are those of a plant, one that is within its limits.
pub record IsWiringOf (plant : PlantData) (wiring : Wiring) : Type 0 where
  pub is_plant : IsPlant plant
  pub devices : wiring.devices ≡ plant.devices
  pub buses : wiring.buses ≡ plant.buses
  pub numbers : (source : ℕ)
      → get wiring.number_by_source source ≡ source_number_of plant source
  pub by_dest : (dest : ℕ) → bus_at_dest wiring dest ≡ bus_at plant dest
  pub by_output : (source : ℕ) → get wiring.device_by_output source ≡ fed_device plant source
  pub switched : (dest : ℕ) → switched_in wiring dest ≡ switched_at plant dest
