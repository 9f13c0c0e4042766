-- What is true of the data of every plant file that has no fault.
use Rattle.std.specs.Prelude.{◌≡◌, ◌≢◌, ℕ, ◌≤◌, true, false, bytes_eq, List, All, map, sum_by, MatchOption}
use Rattle.std.specs.List.{IsDistinct}
use Rattle.plant_file.specs.Limits.{all_sources_limit, all_destinations_limit}
use Rattle.plant_file.specs.FileData.{LevelData, FileData}
use Rattle.plant_file.specs.declared.entries.RemoteEntry.{RemoteEntry}
use Rattle.plant_file.specs.declared.entries.PoolEntry.{PoolEntry}
use Rattle.plant_file.specs.declared.entries.DeviceEntry.{DeviceEntry}
use Rattle.plant_file.specs.declared.entries.SwitchEntry.{SwitchEntry}
use Rattle.plant_file.specs.declared.entries.BusEntry.{BusEntry}
use Rattle.plant_file.specs.declared.entries.RootEntry.{RootEntry}
use Rattle.plant_file.specs.declared.entries.DisplayEntry.{DisplayEntry}
use Rattle.plant_rules.specs.Rules.{level_key, remote_key, pool_key, output_key, bus_key, root_key, display_key, panel_key}
use Rattle.plant_rules.specs.Links.{has_level, has_source, has_destination, has_device, is_remote, has_pool, main_level}
use Rattle.plant_file.specs.Ranges.{AreInRange}

-- No two of these lists of numbers are the same.
abbrev pub AllDiffer : List (List ℕ) → Type 0
AllDiffer = IsDistinct bytes_eq

-- No two sources of a level have the same name, and no two of its destinations.
abbrev pub HasDifferentNames : LevelData → Type 0
HasDifferentNames level = AllDiffer level.source_names × AllDiffer level.destination_names

-- A remote is a source of the plant. It stands for a local source of another matrix, to which a pool leads.
pub record IsLinkedRemote (file : FileData) (remote : RemoteEntry) : Type 0 where
  pub own : has_source file remote.matrix remote.level remote.source ≡ true
  pub other : remote.from ≢ remote.matrix
  pub origin : has_source file remote.from remote.level remote.from_source ≡ true
  pub local : is_remote file remote.from remote.level remote.from_source ≡ false
  pub pool : has_pool file remote.from remote.matrix remote.level ≡ true

-- A pool leads from a level of the plant to the same level of another matrix.
pub record IsLinkedPool (file : FileData) (pool : PoolEntry) : Type 0 where
  pub from : has_level file pool.from pool.level ≡ true
  pub to : has_level file pool.to pool.level ≡ true
  pub other : pool.from ≢ pool.to

-- A device's output is a local source of the plant.
pub record IsLinkedDevice (file : FileData) (device : DeviceEntry) : Type 0 where
  pub output : has_source file device.matrix main_level device.source ≡ true
  pub local : is_remote file device.matrix main_level device.source ≡ false

-- A switch is a destination of the plant.
abbrev pub IsLinkedSwitch : FileData → SwitchEntry → Type 0
IsLinkedSwitch file switch =
    has_destination file switch.matrix switch.level switch.destination ≡ true

-- A bus is a destination of the plant and belongs to a device of it, and so is its switch, where it has one.
pub record IsLinkedBus (file : FileData) (bus : BusEntry) : Type 0 where
  pub device : has_device file bus.device ≡ true
  pub destination : has_destination file bus.matrix main_level bus.destination ≡ true
  pub switch : MatchOption bus.switch Unit (IsLinkedSwitch file)

-- What is on air or on preview, or has a display, is a destination of the plant.
abbrev pub IsMainDestination : FileData → ℕ → ℕ → Type 0
IsMainDestination file matrix destination =
    has_destination file matrix main_level destination ≡ true

abbrev pub IsLinkedRoot : FileData → RootEntry → Type 0
IsLinkedRoot file root = IsMainDestination file root.matrix root.destination

abbrev pub IsLinkedDisplay : FileData → DisplayEntry → Type 0
IsLinkedDisplay file display = IsMainDestination file display.matrix display.destination

-- Within their ranges, no two the same, and linked.
pub record IsFile (file : FileData) : Type 0 where
  pub ranges : AreInRange file
  pub sources : sum_by (λ level. level.sources) file.levels ≤ all_sources_limit
  pub destinations : sum_by (λ level. level.destinations) file.levels ≤ all_destinations_limit
  pub levels_differ : AllDiffer (map level_key file.levels)
  pub names_differ : All HasDifferentNames file.levels
  pub remotes_differ : AllDiffer (map remote_key file.remotes)
  pub pools_differ : AllDiffer (map pool_key file.pools)
  pub devices_differ : AllDiffer (map (λ device. device.name) file.devices)
  pub outputs_differ : AllDiffer (map output_key file.devices)
  pub buses_differ : AllDiffer (map bus_key file.buses)
  pub air_differs : AllDiffer (map root_key file.air)
  pub preview_differs : AllDiffer (map root_key file.preview)
  pub displays_differ : AllDiffer (map display_key file.displays)
  pub ports_differ : AllDiffer (map panel_key file.panels)
  pub remotes : All (IsLinkedRemote file) file.remotes
  pub pools : All (IsLinkedPool file) file.pools
  pub devices : All (IsLinkedDevice file) file.devices
  pub buses : All (IsLinkedBus file) file.buses
  pub air : All (IsLinkedRoot file) file.air
  pub preview : All (IsLinkedRoot file) file.preview
  pub displays : All (IsLinkedDisplay file) file.displays
