-- The faults of a plant file whose keys are all right: what its entries may not be together, in the order of the checks.
use Rattle.std.specs.Prelude.{ℕ, pos, bytes_eq, Bool, if◌then◌else◌, List, [], ◌∷◌, ◌++◌, map, take, sum_by, flat_map}
use Rattle.std.specs.List.{enumerate_from, list_any}
use Rattle.plant_file.specs.declared.fault.Section.{Section}
use Rattle.plant_file.specs.declared.fault.Section.TheVariants as sections
use Rattle.plant_file.specs.declared.fault.Field.{Field}
use Rattle.plant_file.specs.declared.fault.Field.TheVariants as fields
use Rattle.plant_file.specs.declared.fault.Place.{Place}
use Rattle.plant_file.specs.declared.fault.PlantFault.{PlantFault}
use Rattle.plant_file.specs.declared.fault.PlantFault.TheVariants.{Twice}
use Rattle.plant_file.specs.Limits.{all_sources_limit, all_destinations_limit}
use Rattle.plant_file.specs.KeyFaults.{place, range_faults}
use Rattle.plant_file.specs.FileData.{LevelData, FileData}
use Rattle.plant_file.specs.declared.entries.RemoteEntry.{RemoteEntry}
use Rattle.plant_file.specs.declared.entries.PoolEntry.{PoolEntry}
use Rattle.plant_file.specs.declared.entries.DeviceEntry.{DeviceEntry}
use Rattle.plant_file.specs.declared.entries.BusEntry.{BusEntry}
use Rattle.plant_file.specs.declared.entries.RootEntry.{RootEntry}
use Rattle.plant_file.specs.declared.entries.DisplayEntry.{DisplayEntry}
use Rattle.plant_file.specs.declared.entries.PanelEntry.{PanelEntry}

-- the key, where this is so
abbrev pub key_if : Bool → Field → List Field
key_if is_so field = if is_so then field ∷ [] else []

-- A rule names the keys at which an entry breaks it, the first one first, and sees the entries in front of it. These are
-- the faults of all entries, in order.
abbrev pub rule_faults : {X : Type 0} → (Place → PlantFault) → Section
    → (List X → X → List Field) → List X → List PlantFault
rule_faults {X} fault section rule entries =
    flat_map (λ (numbered : ℕ × X). map (λ field. fault (place section numbered.0 field))
    (rule (take numbered.0 entries) numbered.1)) (enumerate_from 0 entries)

-- the same of a rule that sees the entry alone
abbrev pub each_faults : {X : Type 0} → (Place → PlantFault) → Section → (X → List Field)
    → List X → List PlantFault
each_faults fault section rule entries =
    rule_faults fault section (λ before entry. rule entry) entries

-- The levels have too many sources in all, or too many destinations.
unfoldable pub sum_faults : FileData → List PlantFault
sum_faults file =
    range_faults (place sections.Level 0 fields.Sources)
    (pos (sum_by (λ level. level.sources) file.levels)) 1 all_sources_limit
    ++ range_faults (place sections.Level 0 fields.Destinations)
    (pos (sum_by (λ level. level.destinations) file.levels)) 1 all_destinations_limit

-- a list has this one: a text, or numbers one behind the other
abbrev pub is_among : List (List ℕ) → List ℕ → Bool
is_among known one = list_any (bytes_eq one) known

-- some text is twice in a list
abbrev pub has_twice : List (List ℕ) → Bool
has_twice names =
    list_any (λ (numbered : ℕ × List ℕ). is_among (take numbered.0 names) numbered.1)
    (enumerate_from 0 names)

-- an entry in front of this one has the same: the same text, or the same numbers
abbrev pub twice_at : {X : Type 0} → Field → (X → List ℕ) → List X → X → List Field
twice_at field same before entry = key_if (is_among (map same before) (same entry)) field

-- what tells the entries of a section apart
abbrev pub level_key : LevelData → List ℕ
level_key level = level.matrix ∷ level.level ∷ []

abbrev pub remote_key : RemoteEntry → List ℕ
remote_key remote = remote.matrix ∷ remote.level ∷ remote.source ∷ []

abbrev pub pool_key : PoolEntry → List ℕ
pool_key pool = pool.from ∷ pool.to ∷ pool.level ∷ []

abbrev pub output_key : DeviceEntry → List ℕ
output_key device = device.matrix ∷ device.source ∷ []

abbrev pub bus_key : BusEntry → List ℕ
bus_key bus = bus.matrix ∷ bus.destination ∷ []

abbrev pub root_key : RootEntry → List ℕ
root_key root = root.matrix ∷ root.destination ∷ []

abbrev pub display_key : DisplayEntry → List ℕ
display_key display = display.screen ∷ display.index ∷ []

abbrev pub panel_key : PanelEntry → List ℕ
panel_key panel = panel.port ∷ []

-- two levels have the same matrix and level; two sources of one level have the same name, or two destinations
abbrev pub level_twice : List LevelData → LevelData → List Field
level_twice before level =
    twice_at fields.Level level_key before level
    ++ key_if (has_twice level.source_names) fields.SourceNames
    ++ key_if (has_twice level.destination_names) fields.DestinationNames

-- two devices have the same name, or the same output
abbrev pub device_twice : List DeviceEntry → DeviceEntry → List Field
device_twice before device =
    twice_at fields.Name (λ other. other.name) before device
    ++ twice_at fields.Source output_key before device

-- Two entries of a section have the same key: the later one is at fault. The place names the last number of the key.
unfoldable pub twice_faults : FileData → List PlantFault
twice_faults file =
    rule_faults Twice sections.Level level_twice file.levels
    ++ rule_faults Twice sections.Remote (twice_at fields.Source remote_key) file.remotes
    ++ rule_faults Twice sections.Pool (twice_at fields.Level pool_key) file.pools
    ++ rule_faults Twice sections.Device device_twice file.devices
    ++ rule_faults Twice sections.Bus (twice_at fields.Destination bus_key) file.buses
    ++ rule_faults Twice sections.Air (twice_at fields.Destination root_key) file.air
    ++ rule_faults Twice sections.Preview (twice_at fields.Destination root_key) file.preview
    ++ rule_faults Twice sections.Display (twice_at fields.Index display_key) file.displays
    ++ rule_faults Twice sections.Panel (twice_at fields.Port panel_key) file.panels
