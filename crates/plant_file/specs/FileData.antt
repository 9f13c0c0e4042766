-- The plain data of a plant file: what its keys say, and what is given where they are absent.
use Rattle.std.specs.Prelude.{ℕ, List}
pub use Rattle.plant_file.specs.declared.entries.Server.{Server}
pub use Rattle.plant_file.specs.declared.entries.RemoteEntry.{RemoteEntry}
pub use Rattle.plant_file.specs.declared.entries.PoolEntry.{PoolEntry}
pub use Rattle.plant_file.specs.declared.entries.DeviceEntry.{DeviceEntry}
pub use Rattle.plant_file.specs.declared.entries.BusEntry.{BusEntry}
pub use Rattle.plant_file.specs.declared.entries.SwitchEntry.{SwitchEntry}
pub use Rattle.plant_file.specs.declared.entries.RootEntry.{RootEntry}
pub use Rattle.plant_file.specs.declared.entries.DisplayEntry.{DisplayEntry}
pub use Rattle.plant_file.specs.declared.entries.PanelEntry.{PanelEntry}

-- a level: each of its sources and each of its destinations has its name
pub record LevelData : Type 0 where
  pub matrix : ℕ
  pub level : ℕ
  pub sources : ℕ
  pub destinations : ℕ
  pub source_names : List (List ℕ)
  pub destination_names : List (List ℕ)

-- a plant file, each section in the order of the file
pub record FileData : Type 0 where
  pub title : List ℕ
  pub server : Server
  pub levels : List LevelData
  pub remotes : List RemoteEntry
  pub pools : List PoolEntry
  pub devices : List DeviceEntry
  pub buses : List BusEntry
  pub air : List RootEntry
  pub preview : List RootEntry
  pub displays : List DisplayEntry
  pub panels : List PanelEntry
