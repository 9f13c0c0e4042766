-- How a plant file, and the printed line of a fault, write a section and a key.
use Rattle.std.specs.Prelude.{ℕ, Bool, List, codes, bytes_eq}
use Rattle.plant_file.specs.declared.fault.Section.{Section}
use Rattle.plant_file.specs.declared.fault.Section.TheVariants as sections
use Rattle.plant_file.specs.declared.fault.Field.{Field}
use Rattle.plant_file.specs.declared.fault.Field.TheVariants as fields

-- a section by its name; the keys in front of all sections are the only ones that have none in the file
abbrev pub section_name : Section → List ℕ
section_name sections.Top = codes "top"
section_name sections.Server = codes "server"
section_name sections.Level = codes "level"
section_name sections.Remote = codes "remote"
section_name sections.Pool = codes "pool"
section_name sections.Device = codes "device"
section_name sections.Bus = codes "bus"
section_name sections.Air = codes "air"
section_name sections.Preview = codes "preview"
section_name sections.Display = codes "display"
section_name sections.Panel = codes "panel"

-- a key by its name; `entries` is the section itself, and no key of a file is looked up by it
abbrev pub field_name : Field → List ℕ
field_name fields.Whole = codes "entries"
field_name fields.Title = codes "title"
field_name fields.Listen = codes "listen"
field_name fields.Display = codes "display"
field_name fields.IdleMs = codes "idle_ms"
field_name fields.IdleLimit = codes "idle_limit"
field_name fields.Turns = codes "turns"
field_name fields.Sessions = codes "sessions"
field_name fields.RefreshEvery = codes "refresh_every"
field_name fields.Brightness = codes "brightness"
field_name fields.Matrix = codes "matrix"
field_name fields.Level = codes "level"
field_name fields.Sources = codes "sources"
field_name fields.Destinations = codes "destinations"
field_name fields.SourceNames = codes "source_names"
field_name fields.DestinationNames = codes "destination_names"
field_name fields.Source = codes "source"
field_name fields.From = codes "from"
field_name fields.FromSource = codes "from_source"
field_name fields.To = codes "to"
field_name fields.Ties = codes "ties"
field_name fields.Reserve = codes "reserve"
field_name fields.Name = codes "name"
field_name fields.Device = codes "device"
field_name fields.Destination = codes "destination"
field_name fields.SwitchMatrix = codes "switch_matrix"
field_name fields.SwitchLevel = codes "switch_level"
field_name fields.SwitchDestination = codes "switch_destination"
field_name fields.Screen = codes "screen"
field_name fields.Index = codes "index"
field_name fields.Port = codes "port"
field_name fields.Master = codes "master"

-- whether two keys are one: no two have the same name
abbrev pub same_field : Field → Field → Bool
same_field one other = bytes_eq (field_name one) (field_name other)
