-- The faults of a plant file by what its entries name: what the plant doesn't have, what isn't local, what no pool leads to.
use Rattle.std.specs.Prelude.{ℕ, ◌==◌, ◌&&◌, not, nat_lt, bytes_eq, Bool, List, [], ◌++◌, Option, Some, None}
use Rattle.std.specs.List.{list_any}
use Rattle.plant_file.specs.declared.fault.Section.TheVariants as sections
use Rattle.plant_file.specs.declared.fault.Field.{Field}
use Rattle.plant_file.specs.declared.fault.Field.TheVariants as fields
use Rattle.plant_file.specs.declared.fault.PlantFault.{PlantFault}
use Rattle.plant_file.specs.declared.fault.PlantFault.TheVariants.{NoSuchThing, NoPool, NotLocal}
use Rattle.plant_file.specs.FileData.{FileData}
use Rattle.plant_file.specs.declared.entries.RemoteEntry.{RemoteEntry}
use Rattle.plant_file.specs.declared.entries.PoolEntry.{PoolEntry}
use Rattle.plant_file.specs.declared.entries.DeviceEntry.{DeviceEntry}
use Rattle.plant_file.specs.declared.entries.SwitchEntry.{SwitchEntry}
use Rattle.plant_file.specs.declared.entries.BusEntry.{BusEntry}
use Rattle.plant_rules.specs.Rules.{key_if, each_faults}

-- the key, where this isn't so
abbrev pub key_unless : Bool → Field → List Field
key_unless is_so field = key_if (not is_so) field

-- the plant has a level; a source of a level; a destination of a level; a device of a name
abbrev pub has_level : FileData → ℕ → ℕ → Bool
has_level file matrix level = list_any (λ at. at.matrix == matrix && at.level == level) file.levels

abbrev pub has_source : FileData → ℕ → ℕ → ℕ → Bool
has_source file matrix level source =
    list_any (λ at. at.matrix == matrix && at.level == level
    && nat_lt source at.sources) file.levels

abbrev pub has_destination : FileData → ℕ → ℕ → ℕ → Bool
has_destination file matrix level destination =
    list_any (λ at. at.matrix == matrix && at.level == level
    && nat_lt destination at.destinations) file.levels

abbrev pub has_device : FileData → List ℕ → Bool
has_device file name = list_any (λ device. bytes_eq device.name name) file.devices

-- a source of a level is a remote one
abbrev pub is_remote : FileData → ℕ → ℕ → ℕ → Bool
is_remote file matrix level source =
    list_any (λ remote. remote.matrix == matrix && remote.level == level
    && remote.source == source) file.remotes

-- a pool leads from a matrix to a matrix, at a level
abbrev pub has_pool : FileData → ℕ → ℕ → ℕ → Bool
has_pool file from to level =
    list_any (λ pool. pool.from == from && pool.to == to && pool.level == level) file.pools

-- devices, buses, roots and displays are all at level 0 of their matrix
abbrev pub main_level : ℕ
main_level = 0

-- a remote is no source of the plant, or it stands for none of another matrix at its level
abbrev pub remote_unknown : FileData → RemoteEntry → List Field
remote_unknown file remote =
    key_unless (has_level file remote.matrix remote.level) fields.Matrix
    ++ key_unless (has_source file remote.matrix remote.level remote.source) fields.Source
    ++ key_unless (has_level file remote.from remote.level) fields.From
    ++ key_if (remote.from == remote.matrix) fields.From
    ++ key_unless (has_source file remote.from remote.level remote.from_source) fields.FromSource

-- a pool doesn't lead from a level of the plant to the same level of another matrix
abbrev pub pool_unknown : FileData → PoolEntry → List Field
pool_unknown file pool =
    key_unless (has_level file pool.from pool.level) fields.From
    ++ key_unless (has_level file pool.to pool.level) fields.To
    ++ key_if (pool.from == pool.to) fields.To

-- a destination is none of the plant
abbrev pub destination_unknown : FileData → ℕ → ℕ → List Field
destination_unknown file matrix destination =
    key_unless (has_level file matrix main_level) fields.Matrix
    ++ key_unless (has_destination file matrix main_level destination) fields.Destination

-- a device's output is no source of the plant
abbrev pub device_unknown : FileData → DeviceEntry → List Field
device_unknown file device =
    key_unless (has_level file device.matrix main_level) fields.Matrix
    ++ key_unless (has_source file device.matrix main_level device.source) fields.Source

-- a bus's switch is no destination of the plant
abbrev pub switch_unknown : FileData → Option SwitchEntry → List Field
switch_unknown file None = []
switch_unknown file (Some switch) =
    key_unless (has_level file switch.matrix switch.level) fields.SwitchLevel
    ++ key_unless (has_destination file switch.matrix switch.level switch.destination)
    fields.SwitchDestination

-- a bus is of no device, or is no destination of the plant, or its switch is none
abbrev pub bus_unknown : FileData → BusEntry → List Field
bus_unknown file bus =
    key_unless (has_device file bus.device) fields.Device
    ++ destination_unknown file bus.matrix bus.destination
    ++ switch_unknown file bus.switch

-- an entry names what the plant doesn't have
unfoldable pub unknown_faults : FileData → List PlantFault
unknown_faults file =
    each_faults NoSuchThing sections.Remote (remote_unknown file) file.remotes
    ++ each_faults NoSuchThing sections.Pool (pool_unknown file) file.pools
    ++ each_faults NoSuchThing sections.Device (device_unknown file) file.devices
    ++ each_faults NoSuchThing sections.Bus (bus_unknown file) file.buses
    ++ each_faults NoSuchThing sections.Air
    (λ root. destination_unknown file root.matrix root.destination) file.air
    ++ each_faults NoSuchThing sections.Preview
    (λ root. destination_unknown file root.matrix root.destination) file.preview
    ++ each_faults NoSuchThing sections.Display
    (λ display. destination_unknown file display.matrix display.destination) file.displays

-- a remote stands for a source that is a remote one itself; a device's output is a remote source
unfoldable pub not_local_faults : FileData → List PlantFault
not_local_faults file =
    each_faults NotLocal sections.Remote
    (λ remote. key_if (is_remote file remote.from remote.level remote.from_source)
    fields.FromSource)
    file.remotes
    ++ each_faults NotLocal sections.Device
    (λ device. key_if (is_remote file device.matrix main_level device.source) fields.Source)
    file.devices

-- no pool leads to a remote, from the matrix of the source that it stands for
unfoldable pub no_pool_faults : FileData → List PlantFault
no_pool_faults file =
    each_faults NoPool sections.Remote
    (λ remote. key_unless (has_pool file remote.from remote.matrix remote.level) fields.From)
    file.remotes
