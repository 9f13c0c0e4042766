-- The first place at which entries break a rule, and the first of some keys that stood in front of itself.
use Rattle.std.specs.Prelude.{ℕ, nat_le, if◌then◌else◌, List, [], ◌∷◌, ◌++◌, length, Option, Some, None, option_map, slice_get}
use Rattle.std.specs.Option.{option_or}
use Rattle.plant_file.specs.declared.fault.Section.{Section}
use Rattle.plant_file.specs.declared.fault.Section.TheVariants as sections
use Rattle.plant_file.specs.declared.fault.Field.{Field}
use Rattle.plant_file.specs.declared.fault.Field.TheVariants as fields
use Rattle.plant_file.specs.declared.fault.Place.{Place}
use Rattle.plant_file.specs.KeyFaults.{place}
use Rattle.plant_file.specs.FileData.{LevelData, FileData}
use Rattle.plant_rules.specs.Rules.{key_if, is_among, has_twice, twice_at, level_twice, device_twice, remote_key, pool_key, bus_key, root_key, display_key, panel_key}

-- the first place at which one of these entries breaks a rule, where the others stand in front of them
abbrev pub first_place_from : {X : Type 0} → Section → (List X → X → List Field) → List X
    → List X → Option Place
first_place_from section rule before [] = None
first_place_from section rule before (entry ∷ more) =
    option_or
    (option_map (place section (length before)) (slice_get (rule before entry) 0))
    (first_place_from section rule (before ++ entry ∷ []) more)

abbrev pub first_place : {X : Type 0} → Section → (List X → X → List Field) → List X
    → Option Place
first_place section rule entries = first_place_from section rule [] entries

-- the index of the first of these keys that stood in front of itself, where the others stand in front of them
abbrev pub first_twice_from : List (List ℕ) → List (List ℕ) → Option ℕ
first_twice_from before [] = None
first_twice_from before (key ∷ more) =
    if is_among before key then Some (length before) else first_twice_from (before ++ key ∷ []) more

abbrev pub first_twice : List (List ℕ) → Option ℕ
first_twice keys = first_twice_from [] keys

-- the place of the earlier entry, the first one where both are of one entry
abbrev pub earlier : Option Place → Option Place → Option Place
earlier None second = second
earlier (Some first) None = Some first
earlier (Some first) (Some second) =
    if nat_le first.entry second.entry then Some first else Some second

-- the keys at which a level has a name twice
abbrev pub names_twice : LevelData → List Field
names_twice level =
    key_if (has_twice level.source_names) fields.SourceNames
    ++ key_if (has_twice level.destination_names) fields.DestinationNames

-- the first place of a file at which an entry has the key of one in front of it
unfoldable pub twice_place : FileData → Option Place
twice_place file =
    option_or (option_or (option_or (option_or (option_or (option_or (option_or (option_or
    (first_place sections.Level level_twice file.levels)
    (first_place sections.Remote (twice_at fields.Source remote_key) file.remotes))
    (first_place sections.Pool (twice_at fields.Level pool_key) file.pools))
    (first_place sections.Device device_twice file.devices))
    (first_place sections.Bus (twice_at fields.Destination bus_key) file.buses))
    (first_place sections.Air (twice_at fields.Destination root_key) file.air))
    (first_place sections.Preview (twice_at fields.Destination root_key) file.preview))
    (first_place sections.Display (twice_at fields.Index display_key) file.displays))
    (first_place sections.Panel (twice_at fields.Port panel_key) file.panels)
