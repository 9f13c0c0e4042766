-- The ranges of a plant file's data.
use Rattle.std.specs.Prelude.{◌≡◌, ℕ, ◌<◌, ◌≤◌, List, All, length, MatchOption}
use Rattle.plant_file.specs.Limits.{matrix_limit, level_limit, level_source_limit, level_destination_limit, all_levels_limit, remote_limit, pool_limit, tie_limit, device_limit, bus_limit, root_limit, display_limit, last_screen, last_index, panel_limit, last_device, first_port, last_port, longest_title, longest_address, longest_idle, most_idles, most_turns, most_sessions, most_rounds, greatest_brightness}
use Rattle.plant_file.specs.Rows.{first_text_byte, last_text_byte, shortest_name, longest_name}
use Rattle.plant_file.specs.FileData.{LevelData, Server, RemoteEntry, PoolEntry, DeviceEntry, SwitchEntry, BusEntry, RootEntry, DisplayEntry, PanelEntry, FileData}

-- A number is from `low` to `high`.
abbrev pub IsFrom : ℕ → ℕ → ℕ → Type 0
IsFrom low high number = (low ≤ number) × (number ≤ high)

-- A text has from `low` to `high` bytes, each of them printable.
abbrev pub IsWords : ℕ → ℕ → List ℕ → Type 0
IsWords low high text =
    IsFrom low high (length text) × All (IsFrom first_text_byte last_text_byte) text

abbrev pub IsName : List ℕ → Type 0
IsName = IsWords shortest_name longest_name

-- A level of a matrix is within its limits.
abbrev pub IsAtLevel : ℕ → ℕ → Type 0
IsAtLevel matrix level = (matrix < matrix_limit) × (level < level_limit)

-- Each of so many things has a name.
abbrev pub AreNames : ℕ → List (List ℕ) → Type 0
AreNames count names = (length names ≡ count) × All IsName names

pub record IsServer (server : Server) : Type 0 where
  pub listen : IsWords 1 longest_address server.listen
  pub display : IsWords 1 longest_address server.display
  pub idle_ms : IsFrom 1 longest_idle server.idle_ms
  pub idle_limit : IsFrom 1 most_idles server.idle_limit
  pub turns : IsFrom 1 most_turns server.turns
  pub sessions : IsFrom 1 most_sessions server.sessions
  pub refresh_every : IsFrom 0 most_rounds server.refresh_every
  pub brightness : IsFrom 0 greatest_brightness server.brightness

pub record IsLevelData (level : LevelData) : Type 0 where
  pub at : IsAtLevel level.matrix level.level
  pub sources : IsFrom 1 level_source_limit level.sources
  pub destinations : IsFrom 1 level_destination_limit level.destinations
  pub source_names : AreNames level.sources level.source_names
  pub destination_names : AreNames level.destinations level.destination_names

pub record IsRemoteEntry (remote : RemoteEntry) : Type 0 where
  pub at : IsAtLevel remote.matrix remote.level
  pub source : remote.source < level_source_limit
  pub from : remote.from < matrix_limit
  pub from_source : remote.from_source < level_source_limit

pub record IsPoolEntry (pool : PoolEntry) : Type 0 where
  pub from : IsAtLevel pool.from pool.level
  pub to : IsAtLevel pool.to pool.level
  pub ties : IsFrom 1 tie_limit pool.ties
  pub reserve : pool.reserve ≤ pool.ties

pub record IsDeviceEntry (device : DeviceEntry) : Type 0 where
  pub name : IsName device.name
  pub matrix : device.matrix < matrix_limit
  pub source : device.source < level_source_limit

pub record IsSwitchEntry (switch : SwitchEntry) : Type 0 where
  pub at : IsAtLevel switch.matrix switch.level
  pub other : 1 ≤ switch.level
  pub destination : switch.destination < level_destination_limit

pub record IsBusEntry (bus : BusEntry) : Type 0 where
  pub device : IsName bus.device
  pub matrix : bus.matrix < matrix_limit
  pub destination : bus.destination < level_destination_limit
  pub switch : MatchOption bus.switch Unit IsSwitchEntry

pub record IsRootEntry (root : RootEntry) : Type 0 where
  pub matrix : root.matrix < matrix_limit
  pub destination : root.destination < level_destination_limit

pub record IsDisplayEntry (display : DisplayEntry) : Type 0 where
  pub screen : IsFrom 0 last_screen display.screen
  pub index : IsFrom 0 last_index display.index
  pub matrix : display.matrix < matrix_limit
  pub destination : display.destination < level_destination_limit

pub record IsPanelEntry (panel : PanelEntry) : Type 0 where
  pub device : panel.device ≤ last_device
  pub port : IsFrom first_port last_port panel.port

-- A section has from `least` to `most` entries, each within its ranges.
abbrev pub AreEntries : {X : Type 0} → (X → Type 0) → ℕ → ℕ → List X → Type 0
AreEntries IsEntry least most entries = IsFrom least most (length entries) × All IsEntry entries

-- The data are within their ranges.
pub record AreInRange (file : FileData) : Type 0 where
  pub title : IsWords 1 longest_title file.title
  pub server : IsServer file.server
  pub levels : AreEntries IsLevelData 1 all_levels_limit file.levels
  pub remotes : AreEntries IsRemoteEntry 0 remote_limit file.remotes
  pub pools : AreEntries IsPoolEntry 0 pool_limit file.pools
  pub devices : AreEntries IsDeviceEntry 0 device_limit file.devices
  pub buses : AreEntries IsBusEntry 0 bus_limit file.buses
  pub air : AreEntries IsRootEntry 0 root_limit file.air
  pub preview : AreEntries IsRootEntry 0 root_limit file.preview
  pub displays : AreEntries IsDisplayEntry 0 display_limit file.displays
  pub panels : AreEntries IsPanelEntry 1 panel_limit file.panels
