-- How the plain data of a plant file is read from its document.
use Rattle.std.specs.Prelude.{ℕ, ◌-◌, List, ◌++◌, map, length, slice_index_or, codes, decimal, option_map}
use Rattle.std.specs.List.{range_with_len}
use Rattle.toml.specs.Data.{Members, no_members}
use Rattle.plant_file.specs.declared.fault.Section.{Section}
use Rattle.plant_file.specs.declared.fault.Section.TheVariants as sections
use Rattle.plant_file.specs.declared.fault.Field.TheVariants as fields
use Rattle.plant_file.specs.Rows.{SectionKeys}
use Rattle.plant_file.specs.Format.{top_keys, server_keys, level_keys, remote_keys, pool_keys, device_keys, bus_keys, root_keys, display_keys, panel_keys}
use Rattle.plant_file.specs.Document.{found_at, section_entries, number_for, text_for, flag_for, texts_for}
use Rattle.plant_file.specs.FileData.{Server, LevelData, RemoteEntry, PoolEntry, DeviceEntry, SwitchEntry, BusEntry, RootEntry, DisplayEntry, PanelEntry, FileData}

-- a default name: a letter and the number
abbrev pub default_name : List ℕ → ℕ → List ℕ
default_name letter number = letter ++ decimal number

-- The names of so many things, which are numbered from 0: those of the file for the first, and default names for the others.
abbrev pub names_of : List ℕ → ℕ → List (List ℕ) → List (List ℕ)
names_of letter count names =
    names ++ map (default_name letter) (range_with_len (length names) (count - length names))

-- the letters of default names
abbrev pub source_letter : List ℕ
source_letter = codes "S"

abbrev pub destination_letter : List ℕ
destination_letter = codes "D"

-- an entry of each section
abbrev pub server_entry : Members → Server
server_entry entry = record {
  listen = text_for server_keys fields.Listen entry;
  display = text_for server_keys fields.Display entry;
  idle_ms = number_for server_keys fields.IdleMs entry;
  idle_limit = number_for server_keys fields.IdleLimit entry;
  turns = number_for server_keys fields.Turns entry;
  sessions = number_for server_keys fields.Sessions entry;
  refresh_every = number_for server_keys fields.RefreshEvery entry;
  brightness = number_for server_keys fields.Brightness entry;
}

-- the server of a file without that section
abbrev pub default_server : Server
default_server = server_entry no_members

abbrev pub level_entry : Members → LevelData
level_entry entry =
    let sources = number_for level_keys fields.Sources entry in
    let destinations = number_for level_keys fields.Destinations entry in
    record {
      matrix = number_for level_keys fields.Matrix entry;
      level = number_for level_keys fields.Level entry;
      sources = sources;
      destinations = destinations;
      source_names = names_of source_letter sources (texts_for level_keys fields.SourceNames entry);
      destination_names = names_of destination_letter destinations
          (texts_for level_keys fields.DestinationNames entry);
    }

abbrev pub remote_entry : Members → RemoteEntry
remote_entry entry = record {
  matrix = number_for remote_keys fields.Matrix entry;
  level = number_for remote_keys fields.Level entry;
  source = number_for remote_keys fields.Source entry;
  from = number_for remote_keys fields.From entry;
  from_source = number_for remote_keys fields.FromSource entry;
}

abbrev pub pool_entry : Members → PoolEntry
pool_entry entry = record {
  from = number_for pool_keys fields.From entry;
  to = number_for pool_keys fields.To entry;
  level = number_for pool_keys fields.Level entry;
  ties = number_for pool_keys fields.Ties entry;
  reserve = number_for pool_keys fields.Reserve entry;
}

abbrev pub device_entry : Members → DeviceEntry
device_entry entry = record {
  name = text_for device_keys fields.Name entry;
  matrix = number_for device_keys fields.Matrix entry;
  source = number_for device_keys fields.Source entry;
}

abbrev pub switch_entry : Members → SwitchEntry
switch_entry entry = record {
  matrix = number_for bus_keys fields.SwitchMatrix entry;
  level = number_for bus_keys fields.SwitchLevel entry;
  destination = number_for bus_keys fields.SwitchDestination entry;
}

-- a bus has a switch where the switch's matrix is there
abbrev pub bus_entry : Members → BusEntry
bus_entry entry = record {
  device = text_for bus_keys fields.Device entry;
  matrix = number_for bus_keys fields.Matrix entry;
  destination = number_for bus_keys fields.Destination entry;
  switch = option_map (λ matrix. switch_entry entry) (found_at fields.SwitchMatrix entry);
}

abbrev pub root_entry : Section → Members → RootEntry
root_entry section entry = record {
  matrix = number_for (root_keys section) fields.Matrix entry;
  destination = number_for (root_keys section) fields.Destination entry;
}

abbrev pub display_entry : Members → DisplayEntry
display_entry entry = record {
  screen = number_for display_keys fields.Screen entry;
  index = number_for display_keys fields.Index entry;
  matrix = number_for display_keys fields.Matrix entry;
  destination = number_for display_keys fields.Destination entry;
}

abbrev pub panel_entry : Members → PanelEntry
panel_entry entry = record {
  device = number_for panel_keys fields.Device entry;
  port = number_for panel_keys fields.Port entry;
  master = flag_for panel_keys fields.Master entry;
}

-- the server's entry is the only one of its section
abbrev pub only_entry : SectionKeys → Members → Members
only_entry section document = slice_index_or (section_entries section document) 0 no_members

-- the data of a document
unfoldable pub data_of : Members → FileData
data_of document = record {
  title = text_for top_keys fields.Title document;
  server = server_entry (only_entry server_keys document);
  levels = map level_entry (section_entries level_keys document);
  remotes = map remote_entry (section_entries remote_keys document);
  pools = map pool_entry (section_entries pool_keys document);
  devices = map device_entry (section_entries device_keys document);
  buses = map bus_entry (section_entries bus_keys document);
  air = map (root_entry sections.Air) (section_entries (root_keys sections.Air) document);
  preview = map (root_entry sections.Preview)
      (section_entries (root_keys sections.Preview) document);
  displays = map display_entry (section_entries display_keys document);
  panels = map panel_entry (section_entries panel_keys document);
}
