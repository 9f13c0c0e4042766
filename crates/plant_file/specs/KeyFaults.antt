-- The faults of a document, section by section and key by key, in the order of the checks. The first is the one that is
-- answered, so what stands behind it may follow from it.
use Rattle.std.specs.Prelude.{ℕ, ℤ, pos, int_le, Bool, true, ◌&&◌, if◌then◌else◌, List, [], ◌∷◌, ◌++◌, length, flat_map, Option, Some, None, is_some}
use Rattle.std.specs.List.{enumerate_from, list_all}
use Rattle.toml.specs.Data.{Data, string, integer, boolean, array, table, Members, get_member, as_table}
use Rattle.plant_file.specs.declared.fault.Section.{Section}
use Rattle.plant_file.specs.declared.fault.Field.{Field}
use Rattle.plant_file.specs.declared.fault.Field.TheVariants as fields
use Rattle.plant_file.specs.declared.fault.Place.{Place}
use Rattle.plant_file.specs.declared.fault.PlantFault.{PlantFault}
use Rattle.plant_file.specs.declared.fault.PlantFault.TheVariants.{Missing, WrongType, OutOfRange}
use Rattle.plant_file.specs.Spelling.{section_name}
use Rattle.plant_file.specs.Rows.{Kind, Number, UpTo, Words, Flag, Names, Default, Required, RequiredWith, Given, Optional, Key, Form, Document, OneTable, Entries, SectionKeys, first_text_byte, last_text_byte, shortest_name, longest_name}
use Rattle.plant_file.specs.Format.{file_format}
use Rattle.plant_file.specs.Document.{values, found_at, as_number, section_entries}

-- a key of an entry of a section
abbrev pub place : Section → ℕ → Field → Place
place section entry field = record { section = section; entry = entry; field = field }

-- a number that isn't from `low` to `high`
abbrev pub range_faults : Place → ℤ → ℕ → ℕ → List PlantFault
range_faults at value low high =
    if int_le (pos low) value && int_le value (pos high) then []
    else OutOfRange at value (pos low) (pos high) ∷ []

-- a value that must be a number from 0: first to `high`, then to `bound`
abbrev pub up_to_faults : Place → ℕ → ℕ → Data → List PlantFault
up_to_faults at high bound (integer value) =
    range_faults at value 0 high ++ range_faults at value 0 bound
up_to_faults at high bound value = WrongType at ∷ []

-- a text: first its length, then each of its bytes
abbrev pub text_faults : Place → ℕ → ℕ → List ℕ → List PlantFault
text_faults at low high text =
    range_faults at (pos (length text)) low high
    ++ flat_map (λ byte. range_faults at (pos byte) first_text_byte last_text_byte) text

-- a value that must be a text
abbrev pub words_faults : Place → ℕ → ℕ → Data → List PlantFault
words_faults at low high (string text) = text_faults at low high text
words_faults at low high value = WrongType at ∷ []

-- an array of names: first how many there are, then each of them
abbrev pub names_faults : Place → ℕ → List Data → List PlantFault
names_faults at most names =
    range_faults at (pos (length names)) 0 most
    ++ flat_map (words_faults at shortest_name longest_name) names

-- the value of a key of this kind, in an entry
abbrev pub value_faults : Place → Members → Kind → Data → List PlantFault
value_faults at entry (Number low high) (integer value) = range_faults at value low high
value_faults at entry (UpTo high limit) value =
    up_to_faults at high (as_number (found_at limit entry)) value
value_faults at entry (Words low high) value = words_faults at low high value
value_faults at entry Flag (boolean flag) = []
value_faults at entry (Names limit) (array names) =
    names_faults at (as_number (found_at limit entry)) (values names)
value_faults at entry kind value = WrongType at ∷ []

-- an absent key
abbrev pub absent_faults : Place → Default → List PlantFault
absent_faults at Required = Missing at ∷ []
absent_faults at (RequiredWith other) = Missing at ∷ []
absent_faults at (Given value) = []
absent_faults at Optional = []

-- a key is looked at, unless it belongs to another one that is absent
abbrev pub is_looked_at : Default → Members → Bool
is_looked_at (RequiredWith other) entry = is_some (found_at other entry)
is_looked_at default entry = true

-- what was found at a key of an entry
abbrev pub found_faults : Place → Members → Key → Option Data → List PlantFault
found_faults at entry row (Some value) = value_faults at entry row.kind value
found_faults at entry row None = absent_faults at row.default

-- a key of an entry
abbrev pub key_faults : Section → ℕ → Members → Key → List PlantFault
key_faults section number entry row =
    if is_looked_at row.default entry
    then found_faults (place section number row.field) entry row (found_at row.field entry)
    else []

-- an entry: its keys, in the order of the table
abbrev pub entry_faults : SectionKeys → ℕ → Members → List PlantFault
entry_faults section number entry = flat_map (key_faults section.section number entry) section.keys

-- a section that is there and has another form, and one with too few or too many entries
abbrev pub form_faults : Place → Form → Option Data → List PlantFault
form_faults at Document found = []
form_faults at OneTable (Some (table entry)) = []
form_faults at OneTable (Some value) = WrongType at ∷ []
form_faults at OneTable None = []
form_faults at (Entries least most) (Some (array items)) =
    if list_all (λ value. is_some (as_table value)) (values items)
    then range_faults at (pos (length (values items))) least most
    else WrongType at ∷ []
form_faults at (Entries least most) (Some value) = WrongType at ∷ []
form_faults at (Entries least most) None = range_faults at (pos 0) least most

-- a section: first the whole of it, then its entries in order
unfoldable pub section_faults : Members → SectionKeys → List PlantFault
section_faults document section =
    form_faults (place section.section 0 fields.Whole) section.form
    (get_member (section_name section.section) document)
    ++ flat_map (λ (numbered : ℕ × Members). entry_faults section numbered.0 numbered.1)
    (enumerate_from 0 (section_entries section document))

-- all sections, in the order of the table
abbrev pub sections_faults : Members → List PlantFault
sections_faults document = flat_map (section_faults document) file_format
