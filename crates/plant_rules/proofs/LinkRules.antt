-- The rules of links that have no name in the definitions.
use Rattle.std.proofs.Common.{List}
use Rattle.plant_file.specs.declared.fault.Field.{Field}
use Rattle.plant_file.specs.declared.fault.Field.TheVariants as fields
use Rattle.plant_file.specs.FileData.{FileData}
use Rattle.plant_file.specs.declared.entries.RemoteEntry.{RemoteEntry}
use Rattle.plant_file.specs.declared.entries.DeviceEntry.{DeviceEntry}
use Rattle.plant_file.specs.declared.entries.RootEntry.{RootEntry}
use Rattle.plant_file.specs.declared.entries.DisplayEntry.{DisplayEntry}
use Rattle.plant_rules.specs.Rules.{key_if}
use Rattle.plant_rules.specs.Links.{key_unless, destination_unknown, is_remote, has_pool, main_level}

module _ (file : FileData) where
  abbrev pub root_unknown : RootEntry → List Field
  root_unknown root = destination_unknown file root.matrix root.destination

  abbrev pub display_unknown : DisplayEntry → List Field
  display_unknown display = destination_unknown file display.matrix display.destination

  abbrev pub remote_remote : RemoteEntry → List Field
  remote_remote remote = key_if (is_remote file remote.from remote.level remote.from_source) fields.FromSource

  abbrev pub device_remote : DeviceEntry → List Field
  device_remote device = key_if (is_remote file device.matrix main_level device.source) fields.Source

  abbrev pub remote_unpooled : RemoteEntry → List Field
  remote_unpooled remote = key_unless (has_pool file remote.from remote.matrix remote.level) fields.From
