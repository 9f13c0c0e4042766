-- Where a fault is.
use Rattle.std.specs.Prelude.{◌≡◌, ◌<◌, ◌⊎◌, ℕ, Bool, true, List, length, Option, Some, None, IsSomeAnd}
use Rattle.std.specs.List.{list_any}
use Rattle.toml.specs.Data.{Members}
use Rattle.toml.specs.Parse.{parse_document}
use Rattle.plant_file.specs.declared.fault.Section.{Section}
use Rattle.plant_file.specs.declared.fault.Section.TheVariants as sections
use Rattle.plant_file.specs.declared.fault.Field.{Field}
use Rattle.plant_file.specs.declared.fault.Field.TheVariants as fields
use Rattle.plant_file.specs.declared.fault.Place.{Place}
use Rattle.plant_file.specs.declared.fault.PlantFault.{PlantFault}
use Rattle.plant_file.specs.declared.fault.PlantFault.TheVariants.{NoMemory, NotToml, Missing, WrongType, OutOfRange, Twice, NoSuchThing, NoPool, NotLocal}
use Rattle.plant_file.specs.Spelling.{same_field}
use Rattle.plant_file.specs.Rows.{SectionKeys}
use Rattle.plant_file.specs.Format.{top_keys, server_keys, level_keys, remote_keys, pool_keys, device_keys, bus_keys, root_keys, display_keys, panel_keys}
use Rattle.plant_file.specs.Document.{section_entries}

-- the key of the file at which a fault is, where it is at one
abbrev pub place_of : PlantFault → Option Place
place_of NoMemory = None
place_of NotToml = None
place_of (Missing at) = Some at
place_of (WrongType at) = Some at
place_of (OutOfRange at value low high) = Some at
place_of (Twice at) = Some at
place_of (NoSuchThing at) = Some at
place_of (NoPool at) = Some at
place_of (NotLocal at) = Some at

-- the table of a section
abbrev pub keys_of : Section → SectionKeys
keys_of sections.Top = top_keys
keys_of sections.Server = server_keys
keys_of sections.Level = level_keys
keys_of sections.Remote = remote_keys
keys_of sections.Pool = pool_keys
keys_of sections.Device = device_keys
keys_of sections.Bus = bus_keys
keys_of sections.Air = root_keys sections.Air
keys_of sections.Preview = root_keys sections.Preview
keys_of sections.Display = display_keys
keys_of sections.Panel = panel_keys

-- a key is one of a section's
abbrev pub is_key : Section → Field → Bool
is_key section field = list_any (λ row. same_field row.field field) (keys_of section).keys

-- A place is a key of its section, in one of the entries that a document has there.
pub record IsInEntry (document : Members) (at : Place) : Type 0 where
  pub key : is_key at.section at.field ≡ true
  pub entry : at.entry < length (section_entries (keys_of at.section) document)

-- A place is in a document: such a key, or a section as a whole.
abbrev pub IsIn : Members → Place → Type 0
IsIn document at = IsInEntry document at ⊎ ((at.field ≡ fields.Whole) × (at.entry ≡ 0))

-- A fault is one of a text: this is no document, or the fault is at a place in its document. It isn't want of memory.
abbrev pub IsFaultOf : List ℕ → PlantFault → Type 0
IsFaultOf text fault =
    (fault ≡ NotToml) ⊎ IsSomeAnd (parse_document text)
    (λ document. IsSomeAnd (place_of fault) (IsIn document))
