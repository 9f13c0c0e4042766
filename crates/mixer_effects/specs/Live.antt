-- Which destinations are live for roots, through any number of devices, and which sources are seen there.
use Rattle.std.specs.Prelude.{ℕ, zero, suc, ◌==◌, nat_eq, Bool, false, ◌&&◌, List, ◌++◌, map, filter, length, Some}
use Rattle.std.specs.List.{list_any}
use Rattle.std.specs.Option.{option_map_or, option_eq}
use Rattle.plant_config.specs.declared.records.Bus.{Bus}
use Rattle.plant_config.specs.Plant.{PlantData}
use Rattle.plant_config.specs.Sources.{origin_of}
use Rattle.crosspoint_state.specs.Crosspoints.{Crosspoints}
use Rattle.crosspoint_state.specs.Taps.{origin_at}
use Rattle.mixer_effects.specs.Buses.{is_bus_on, output_of}

-- whether a destination carries the picture of this local source
abbrev pub carries : PlantData → Crosspoints → ℕ → ℕ → Bool
carries plant crosspoints origin dest =
    option_eq nat_eq (origin_at plant crosspoints dest) (Some origin)

-- whether a destination carries what this device puts out
abbrev pub is_fed_by : PlantData → Crosspoints → ℕ → ℕ → Bool
is_fed_by plant crosspoints device dest =
    option_map_or (λ output. carries plant crosspoints output dest) (output_of plant device) false

-- the buses that are on and whose device feeds one of these destinations
abbrev pub buses_behind : PlantData → Crosspoints → List ℕ → List ℕ
buses_behind plant crosspoints dests =
    map (λ (bus : Bus). bus.dest)
    (filter
    (λ bus. is_bus_on plant crosspoints bus
    && list_any (is_fed_by plant crosspoints bus.device) dests) plant.buses)

-- the roots, and the buses that reach them through no more than so many devices
abbrev pub reach : PlantData → Crosspoints → List ℕ → ℕ → List ℕ
reach plant crosspoints roots zero = roots
reach plant crosspoints roots (suc n) =
    reach plant crosspoints roots n
    ++ buses_behind plant crosspoints (reach plant crosspoints roots n)

-- The destinations that are live: no way to the roots has to go through a device twice.
abbrev pub live : PlantData → Crosspoints → List ℕ → List ℕ
live plant crosspoints roots = reach plant crosspoints roots (length plant.devices)

abbrev pub is_live : PlantData → Crosspoints → List ℕ → ℕ → Bool
is_live plant crosspoints roots dest =
    list_any (λ other. other == dest) (live plant crosspoints roots)

-- Whether the picture of a local source is seen at the roots: some live destination carries it.
abbrev pub is_origin_seen : PlantData → Crosspoints → List ℕ → ℕ → Bool
is_origin_seen plant crosspoints roots origin =
    list_any (carries plant crosspoints origin) (live plant crosspoints roots)

-- A source is seen at the roots where its picture is: on air at the air roots, on preview at the preview roots.
abbrev pub is_seen : PlantData → Crosspoints → List ℕ → ℕ → Bool
is_seen plant crosspoints roots source =
    option_map_or (is_origin_seen plant crosspoints roots) (origin_of plant source) false
