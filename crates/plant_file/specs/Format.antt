-- The format of a plant file, by this project's profile: `file_format` is the table of its sections and their keys.
use Rattle.std.specs.Prelude.{◌-◌, ◌^◌, false, List, [], ◌∷◌, codes}
use Rattle.toml.specs.Data.{boolean}
use Rattle.plant_file.specs.declared.fault.Section.{Section}
use Rattle.plant_file.specs.declared.fault.Section.TheVariants as sections
use Rattle.plant_file.specs.declared.fault.Field.TheVariants as fields
use Rattle.plant_file.specs.Limits.{level_limit, level_source_limit, level_destination_limit, all_levels_limit, remote_limit, pool_limit, tie_limit, device_limit, bus_limit, root_limit, display_limit, last_screen, last_index, panel_limit, last_device, first_port, last_port, longest_title, longest_idle, most_idles, most_turns, most_sessions, most_rounds, greatest_brightness}
use Rattle.plant_file.specs.Rows.{Number, UpTo, Words, Flag, Names, Required, RequiredWith, Given, Optional, Document, OneTable, Entries, SectionKeys, key, a_matrix, a_level, a_source, a_destination, a_name, an_address, number, words, no_names}

-- the keys in front of all sections
abbrev pub top_keys : SectionKeys
top_keys = record {
  section = sections.Top;
  form = Document;
  keys = key fields.Title (Words 1 longest_title) Required ∷ [];
}

-- how the plant is served; times are in milliseconds, and sessions are counted for each panel
abbrev pub server_keys : SectionKeys
server_keys = record {
  section = sections.Server;
  form = OneTable;
  keys =
      key fields.Listen an_address (words (codes "127.0.0.1"))
      ∷ key fields.Display an_address (words (codes "127.0.0.1:8901"))
      ∷ key fields.IdleMs (Number 1 longest_idle) (number 100)
      ∷ key fields.IdleLimit (Number 1 most_idles) (number 1000000)
      ∷ key fields.Turns (Number 1 most_turns) (number (2 ^ 40))
      ∷ key fields.Sessions (Number 1 most_sessions) (number 1000000)
      ∷ key fields.RefreshEvery (Number 0 most_rounds) (number 0)
      ∷ key fields.Brightness (Number 0 greatest_brightness) (number 3)
      ∷ [];
}

-- a level of a matrix, with the names of its sources and destinations, from that of number 0 on
abbrev pub level_keys : SectionKeys
level_keys = record {
  section = sections.Level;
  form = Entries 1 all_levels_limit;
  keys =
      key fields.Matrix a_matrix Required
      ∷ key fields.Level a_level Required
      ∷ key fields.Sources (Number 1 level_source_limit) Required
      ∷ key fields.Destinations (Number 1 level_destination_limit) Required
      ∷ key fields.SourceNames (Names fields.Sources) no_names
      ∷ key fields.DestinationNames (Names fields.Destinations) no_names
      ∷ [];
}

-- a source of a level that stands for a source of another matrix, at the same level
abbrev pub remote_keys : SectionKeys
remote_keys = record {
  section = sections.Remote;
  form = Entries 0 remote_limit;
  keys =
      key fields.Matrix a_matrix Required
      ∷ key fields.Level a_level Required
      ∷ key fields.Source a_source Required
      ∷ key fields.From a_matrix Required
      ∷ key fields.FromSource a_source Required
      ∷ [];
}

-- tie-lines from one matrix to another, at a level, and how many of them are kept for masters
abbrev pub pool_keys : SectionKeys
pool_keys = record {
  section = sections.Pool;
  form = Entries 0 pool_limit;
  keys =
      key fields.From a_matrix Required
      ∷ key fields.To a_matrix Required
      ∷ key fields.Level a_level Required
      ∷ key fields.Ties (Number 1 tie_limit) Required
      ∷ key fields.Reserve (UpTo tie_limit fields.Ties) (number 0)
      ∷ [];
}

-- a device, whose output is a source of level 0
abbrev pub device_keys : SectionKeys
device_keys = record {
  section = sections.Device;
  form = Entries 0 device_limit;
  keys = key fields.Name a_name Required ∷ key fields.Matrix a_matrix Required
      ∷ key fields.Source a_source Required ∷ [];
}

-- a destination of level 0 that is a bus of a device; without a switch it is always on
abbrev pub bus_keys : SectionKeys
bus_keys = record {
  section = sections.Bus;
  form = Entries 0 bus_limit;
  keys =
      key fields.Device a_name Required
      ∷ key fields.Matrix a_matrix Required
      ∷ key fields.Destination a_destination Required
      ∷ key fields.SwitchMatrix a_matrix Optional
      ∷ key fields.SwitchLevel (Number 1 (level_limit - 1)) (RequiredWith fields.SwitchMatrix)
      ∷ key fields.SwitchDestination a_destination (RequiredWith fields.SwitchMatrix)
      ∷ [];
}

-- a destination of level 0 that is on air, or on preview; both are written alike
abbrev pub root_keys : Section → SectionKeys
root_keys section = record {
  section = section;
  form = Entries 0 root_limit;
  keys = key fields.Matrix a_matrix Required ∷ key fields.Destination a_destination Required ∷ [];
}

-- a display of a screen, over a destination of level 0
abbrev pub display_keys : SectionKeys
display_keys = record {
  section = sections.Display;
  form = Entries 0 display_limit;
  keys =
      key fields.Screen (Number 0 last_screen) Required
      ∷ key fields.Index (Number 0 last_index) Required
      ∷ key fields.Matrix a_matrix Required
      ∷ key fields.Destination a_destination Required
      ∷ [];
}

-- a control panel: the device that it acts for, its TCP port, and whether it is a master
abbrev pub panel_keys : SectionKeys
panel_keys = record {
  section = sections.Panel;
  form = Entries 1 panel_limit;
  keys =
      key fields.Device (Number 0 last_device) Required
      ∷ key fields.Port (Number first_port last_port) Required
      ∷ key fields.Master Flag (Given (boolean false))
      ∷ [];
}

-- the sections of a plant file, in the order of the checks
abbrev pub file_format : List SectionKeys
file_format =
    top_keys
    ∷ server_keys
    ∷ level_keys
    ∷ remote_keys
    ∷ pool_keys
    ∷ device_keys
    ∷ bus_keys
    ∷ root_keys sections.Air
    ∷ root_keys sections.Preview
    ∷ display_keys
    ∷ panel_keys
    ∷ []
