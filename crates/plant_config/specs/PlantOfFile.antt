-- The plant of a plant file's data: its levels in order, all that they have numbered over the whole plant, and what names
-- another thing by its place now names it by its number, which the levels of the plant give.
use Rattle.std.specs.Prelude.{ℕ, ◌+◌, ◌*◌, ◌==◌, nat_lt, bytes_eq, List, [], ◌∷◌, map, filter, find, take, length, flat_map, sum_by, Option, Some, None}
use Rattle.std.specs.Option.{unwrap_or, option_map}
use Rattle.std.specs.List.{range_with_len, enumerate_from, position_or_len}
use Rattle.plant_file.specs.Limits.{matrix_limit, level_limit}
use Rattle.plant_file.specs.FileData.{LevelData, FileData}
use Rattle.plant_file.specs.declared.entries.RemoteEntry.{RemoteEntry}
use Rattle.plant_file.specs.declared.entries.PoolEntry.{PoolEntry}
use Rattle.plant_file.specs.declared.entries.DeviceEntry.{DeviceEntry}
use Rattle.plant_file.specs.declared.entries.SwitchEntry.{SwitchEntry}
use Rattle.plant_file.specs.declared.entries.BusEntry.{BusEntry}
use Rattle.plant_file.specs.declared.entries.RootEntry.{RootEntry}
use Rattle.plant_file.specs.declared.entries.DisplayEntry.{DisplayEntry}
use Rattle.plant_file.specs.declared.entries.PanelEntry.{PanelEntry}
use Rattle.plant_rules.specs.Rules.{remote_key, pool_key}
use Rattle.plant_rules.specs.Links.{main_level}
use Rattle.plant_config.specs.declared.records.Level.{Level}
use Rattle.plant_config.specs.declared.records.Source.{Source}
use Rattle.plant_config.specs.declared.records.Pool.{Pool}
use Rattle.plant_config.specs.declared.records.Device.{Device}
use Rattle.plant_config.specs.declared.records.Bus.{Bus}
use Rattle.plant_config.specs.declared.records.Display.{Display}
use Rattle.plant_config.specs.declared.records.Panel.{Panel}
use Rattle.plant_config.specs.Plant.{PlantData, dest_numbers, source_numbers}
use Rattle.plant_config.specs.Sites.{number_among}

-- the order of the levels: matrix, level
abbrev pub order : LevelData → ℕ
order level = level.matrix * level_limit + level.level

-- the levels of a file in that order
abbrev pub in_order : List LevelData → List LevelData
in_order levels =
    flat_map (λ number. filter (λ level. order level == number) levels)
    (range_with_len 0 (matrix_limit * level_limit))

-- how many the levels in front of a level have in all, of its sources or of its destinations
abbrev pub count_before : (LevelData → ℕ) → List LevelData → LevelData → ℕ
count_before count levels level =
    sum_by count (filter (λ other. nat_lt (order other) (order level)) levels)

-- a level in the plant: its first source and its first destination are behind those of the levels in front of it
abbrev pub placed : List LevelData → LevelData → Level
placed levels level = record {
  matrix = level.matrix;
  level = level.level;
  first_source = count_before (λ other. other.sources) levels level;
  sources = level.sources;
  first_dest = count_before (λ other. other.destinations) levels level;
  destinations = level.destinations;
}

-- the levels of the plant
abbrev pub levels_of : FileData → List Level
levels_of file = map (placed file.levels) (in_order file.levels)

-- the number in the whole plant of a source, and of a destination, by its place, 0 where the levels have none
abbrev pub source_number : List Level → ℕ → ℕ → ℕ → ℕ
source_number levels matrix level source =
    unwrap_or (number_among source_numbers levels matrix level source) 0

abbrev pub dest_number : List Level → ℕ → ℕ → ℕ → ℕ
dest_number levels matrix level dest =
    unwrap_or (number_among dest_numbers levels matrix level dest) 0

-- the remote that is a source of a level, where it is one
abbrev pub remote_at : List RemoteEntry → ℕ → ℕ → ℕ → Option RemoteEntry
remote_at remotes matrix level source =
    find (λ remote. bytes_eq (remote_key remote) (matrix ∷ level ∷ source ∷ [])) remotes

-- the number of the pool that leads to a remote
abbrev pub pool_number : FileData → RemoteEntry → ℕ
pool_number file remote =
    position_or_len
    (λ pool. bytes_eq (pool_key pool)
    (remote.from ∷ remote.matrix ∷ remote.level ∷ [])) file.pools

-- a source of a level of the file: a local one is its own origin, a remote one stands for its origin
abbrev pub source_with : List Level → FileData → LevelData → List ℕ → ℕ
    → Option RemoteEntry → Source
source_with levels file level name source None = record {
  name = name;
  origin = source_number levels level.matrix level.level source;
  pool = None;
}
source_with levels file level name source (Some remote) = record {
  name = name;
  origin = source_number levels remote.from remote.level remote.from_source;
  pool = Some (pool_number file remote);
}

-- the sources of a level of the file, in the order of their numbers
abbrev pub sources_at : List Level → FileData → LevelData → List Source
sources_at levels file level =
    map (λ (named : ℕ × List ℕ). source_with levels file level named.1 named.0
    (remote_at file.remotes level.matrix level.level named.0)) (enumerate_from 0 level.source_names)

abbrev pub pool_in : PoolEntry → Pool
pool_in pool = record {
  from = pool.from;
  to = pool.to;
  level = pool.level;
  ties = pool.ties;
  reserve = pool.reserve;
}

-- the buses that name a device, in the order of the file
abbrev pub named_buses : List BusEntry → DeviceEntry → List BusEntry
named_buses buses device = filter (λ bus. bytes_eq bus.device device.name) buses

-- the device of this number: its buses are behind those of the devices in front of it
abbrev pub device_in : List Level → List DeviceEntry → List BusEntry → ℕ → DeviceEntry
    → Device
device_in levels devices buses number device = record {
  output = source_number levels device.matrix main_level device.source;
  first_bus = sum_by (λ other. length (named_buses buses other)) (take number devices);
  buses = length (named_buses buses device);
}

abbrev pub devices_in : List Level → List DeviceEntry → List BusEntry → List Device
devices_in levels devices buses =
    map (λ (numbered : ℕ × DeviceEntry). device_in levels devices buses numbered.0 numbered.1)
    (enumerate_from 0 devices)

abbrev pub switch_in : List Level → SwitchEntry → ℕ
switch_in levels switch = dest_number levels switch.matrix switch.level switch.destination

-- a bus of the device of this number, and all of that device
abbrev pub bus_in : List Level → ℕ → BusEntry → Bus
bus_in levels device bus = record {
  device = device;
  dest = dest_number levels bus.matrix main_level bus.destination;
  switch = option_map (switch_in levels) bus.switch;
}

abbrev pub device_buses : List Level → List BusEntry → ℕ → DeviceEntry → List Bus
device_buses levels buses number device = map (bus_in levels number) (named_buses buses device)

-- the buses, those of one device together
abbrev pub buses_in : List Level → List DeviceEntry → List BusEntry → List Bus
buses_in levels devices buses =
    flat_map (λ (numbered : ℕ × DeviceEntry). device_buses levels buses numbered.0 numbered.1)
    (enumerate_from 0 devices)

abbrev pub root_in : List Level → RootEntry → ℕ
root_in levels root = dest_number levels root.matrix main_level root.destination

abbrev pub display_in : List Level → DisplayEntry → Display
display_in levels display = record {
  screen = display.screen;
  index = display.index;
  watch = dest_number levels display.matrix main_level display.destination;
}

abbrev pub panel_in : PanelEntry → Panel
panel_in panel = record { device = panel.device; port = panel.port; master = panel.master }

-- the plant
unfoldable pub plant_of_file : FileData → PlantData
plant_of_file file =
    let levels = levels_of file in
    record {
      title = file.title;
      server = file.server;
      levels = levels;
      sources = flat_map (sources_at levels file) (in_order file.levels);
      dest_names = flat_map (λ level. level.destination_names) (in_order file.levels);
      pools = map pool_in file.pools;
      devices = devices_in levels file.devices file.buses;
      buses = buses_in levels file.devices file.buses;
      air = map (root_in levels) file.air;
      preview = map (root_in levels) file.preview;
      displays = map (display_in levels) file.displays;
      panels = map panel_in file.panels;
    }
