-- What the functions of the links' rules cite beside their definitions.
use Rattle.std.specs.Prelude.{ℕ, ◌<◌, ◌^◌, List, length, [], ◌∷◌, ◌++◌, map, drop, flat_map, Option, Some, None}
use Rattle.std.specs.List.{enumerate_from}
use Rattle.plant_file.specs.declared.fault.Section.{Section}
use Rattle.plant_file.specs.declared.fault.Field.{Field}
use Rattle.plant_file.specs.declared.fault.Place.{Place}
use Rattle.plant_file.specs.declared.fault.PlantFault.{PlantFault}
use Rattle.plant_file.specs.declared.fault.Field.TheVariants as fields
use Rattle.plant_file.specs.KeyFaults.{place}
use Rattle.plant_file.specs.FileData.{FileData}
use Rattle.plant_file.specs.declared.entries.RemoteEntry.{RemoteEntry}
use Rattle.plant_file.specs.declared.entries.DeviceEntry.{DeviceEntry}
use Rattle.plant_rules.specs.Rules.{key_if}
use Rattle.plant_rules.specs.Links.{is_remote, has_pool, key_unless, main_level, unknown_faults, not_local_faults, no_pool_faults}

-- the first of some keys
abbrev pub first_field : List Field → Option Field
first_field [] = None
first_field (field ∷ more) = Some field

-- the faults of the entries from this number on, by a rule that sees the entry alone
abbrev pub faults_from : {X : Type 0} → (Place → PlantFault) → Section → (X → List Field)
    → ℕ → List X → List PlantFault
faults_from {X} fault section rule number entries =
    flat_map (λ (numbered : ℕ × X). map (λ field. fault (place section numbered.0 field))
    (rule numbered.1)) (enumerate_from number (drop number entries))

-- a remote stands for a remote source
abbrev pub remote_not_local : FileData → RemoteEntry → List Field
remote_not_local file remote =
    key_if (is_remote file remote.from remote.level remote.from_source) fields.FromSource

-- a device's output is a remote source
abbrev pub device_not_local : FileData → DeviceEntry → List Field
device_not_local file device =
    key_if (is_remote file device.matrix main_level device.source) fields.Source

-- no pool leads to a remote
abbrev pub remote_unreached : FileData → RemoteEntry → List Field
remote_unreached file remote =
    key_unless (has_pool file remote.from remote.matrix remote.level) fields.From

-- what entries name that isn't there, or isn't local, or isn't reached
abbrev pub link_faults : FileData → List PlantFault
link_faults file = unknown_faults file ++ not_local_faults file ++ no_pool_faults file

-- The sections that a check looks at have few enough entries for a place to number them.
pub record AreNumbered (file : FileData) : Type 0 where
  pub remotes : length file.remotes < 2 ^ 32
  pub pools : length file.pools < 2 ^ 32
  pub devices : length file.devices < 2 ^ 32
  pub buses : length file.buses < 2 ^ 32
  pub air : length file.air < 2 ^ 32
  pub preview : length file.preview < 2 ^ 32
  pub displays : length file.displays < 2 ^ 32
