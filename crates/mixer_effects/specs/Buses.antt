-- Devices and their buses: which bus a destination is, which device a source is the output of, and which buses are on.
use Rattle.std.specs.Prelude.{ℕ, ◌==◌, nat_eq, Bool, true, false, not, List, map, filter, find, length, slice_get, Option, Some}
use Rattle.std.specs.List.{range_with_len}
use Rattle.std.specs.Option.{option_map, option_map_or, option_and_then, option_eq}
use Rattle.plant_config.specs.declared.records.Device.{Device}
use Rattle.plant_config.specs.declared.records.Bus.{Bus}
use Rattle.plant_config.specs.Plant.{PlantData}
use Rattle.plant_config.specs.Sites.{source_number_of}
use Rattle.crosspoint_state.specs.Crosspoints.{Crosspoints, source_of}

-- whether a switch is on: it carries a source, and the number of that source in its level isn't 0
abbrev pub is_switch_on : PlantData → Crosspoints → ℕ → Bool
is_switch_on plant crosspoints switch =
    option_map_or (λ number. not (number == 0))
    (option_and_then (source_number_of plant) (source_of crosspoints switch)) false

-- A bus without a switch is always on, and another one where its switch is.
abbrev pub is_bus_on : PlantData → Crosspoints → Bus → Bool
is_bus_on plant crosspoints bus = option_map_or (is_switch_on plant crosspoints) bus.switch true

-- the bus that a destination is, `None` where it is none
abbrev pub bus_at : PlantData → ℕ → Option Bus
bus_at plant dest = find (λ bus. bus.dest == dest) plant.buses

-- whether a destination is a bus that is on
abbrev pub is_on : PlantData → Crosspoints → ℕ → Bool
is_on plant crosspoints dest =
    option_map_or (is_bus_on plant crosspoints) (bus_at plant dest) false

-- the device of the bus that a destination is
abbrev pub device_at : PlantData → ℕ → Option ℕ
device_at plant dest = option_map (λ (bus : Bus). bus.device) (bus_at plant dest)

-- the output of a device
abbrev pub output_of : PlantData → ℕ → Option ℕ
output_of plant device =
    option_map (λ (found : Device). found.output) (slice_get plant.devices device)

-- the device whose output is this source
abbrev pub fed_device : PlantData → ℕ → Option ℕ
fed_device plant origin =
    find (λ device. option_eq nat_eq (output_of plant device) (Some origin))
    (range_with_len 0 (length plant.devices))

-- the buses of a device, in the order of the plant
abbrev pub buses_at : PlantData → ℕ → List ℕ
buses_at plant device =
    map (λ (bus : Bus). bus.dest) (filter (λ bus. bus.device == device) plant.buses)

-- the buses that a destination switches, in the order of the plant
abbrev pub switched_at : PlantData → ℕ → List ℕ
switched_at plant dest =
    map (λ (bus : Bus). bus.dest)
    (filter (λ bus. option_eq nat_eq bus.switch (Some dest)) plant.buses)
