-- What the readers of a value answer, those of a key, and those of an entry.
use Rattle.std.specs.Prelude.{ℕ, ◌-◌, List, [], ◌∷◌, ◌++◌, drop, option_map, length, flat_map, map, filter_map, Bool, ◌&&◌, nat_le, Option, Some, is_some, Result, Ok, Err}
use Rattle.std.specs.Option.{option_or}
use Rattle.std.specs.List.{enumerate_from, list_all}
use Rattle.toml.specs.Data.{Data, array, as_str, Members, no_members, as_table, get_member}
use Rattle.toml.specs.View.{view}
use Rattle.toml.specs.declared.value.Value.{Value}
use Rattle.plant_file.specs.declared.fault.Section.{Section}
use Rattle.plant_file.specs.declared.fault.Field.TheVariants as fields
use Rattle.plant_file.specs.declared.fault.Place.{Place}
use Rattle.plant_file.specs.declared.fault.PlantFault.{PlantFault}
use Rattle.plant_file.specs.declared.fault.PlantFault.TheVariants.{WrongType}
use Rattle.plant_file.specs.Spelling.{section_name}
use Rattle.plant_file.specs.Limits.{level_limit}
use Rattle.plant_file.specs.Rows.{Kind, Number, Required, Entries, Key, key, a_matrix, a_destination, SectionKeys, first_text_byte, last_text_byte, shortest_name, longest_name}
use Rattle.plant_file.specs.Document.{values, as_number, as_texts, found_at, default_value, entries_found, section_entries}
use Rattle.plant_file.specs.Format.{bus_keys}
use Rattle.plant_file.specs.FileData.{SwitchEntry}
use Rattle.plant_file.specs.Reading.{switch_entry, names_of, only_entry}
use Rattle.plant_file.specs.FirstFault.{first_fault, unless_fault}
use Rattle.plant_file.specs.KeyFaults.{place, up_to_faults, words_faults, names_faults, value_faults, key_faults, entry_faults, form_faults, section_faults}

-- what was read, as something of it
abbrev pub read_as : {X Y : Type 0} → (X → Y) → Result X PlantFault → Result Y PlantFault
read_as as_data (Ok read) = Ok (as_data read)
read_as as_data (Err fault) = Err fault

-- a byte is printable
abbrev pub is_printable : ℕ → Bool
is_printable byte = nat_le first_text_byte byte && nat_le byte last_text_byte

-- a value of a kind that isn't limited by another key: what is read of it, or its first fault
abbrev pub value_answer : {X : Type 0} → (Option Data → X) → Place → Kind → Data
    → Result X PlantFault
value_answer read at kind value =
    unless_fault (read (Some value)) (first_fault (value_faults at no_members kind value))

-- a value that must be a number from 0, to `high` and then to `bound`: the number, or its first fault
abbrev pub up_to_answer : Place → ℕ → ℕ → Data → Result ℕ PlantFault
up_to_answer at high bound value =
    unless_fault (as_number (Some value)) (first_fault (up_to_faults at high bound value))

-- the faults of a value that must be an array of names
abbrev pub array_faults : Place → ℕ → Data → List PlantFault
array_faults at most (array items) = names_faults at most (values items)
array_faults at most value = WrongType at ∷ []

-- a key of an entry: what is read of its value, or its first fault
unfoldable pub key_answer : {X : Type 0} → (Option Data → X) → Section → ℕ → Members
    → Key → Result X PlantFault
key_answer read section number entry row =
    unless_fault (read (option_or (found_at row.field entry) (default_value row.default)))
    (first_fault (key_faults section number entry row))

-- keys of an entry, in their order: what is read of the entry, or the first fault of these keys
unfoldable pub keys_answer : {X : Type 0} → X → Section → ℕ → Members → List Key
    → Result X PlantFault
keys_answer read section number entry keys =
    unless_fault read (first_fault (flat_map (key_faults section number entry) keys))

-- the keys of a bus's switch, and the same keys where the switch is there
abbrev pub switch_keys : List Key
switch_keys = drop 3 bus_keys.keys

abbrev pub present_switch_keys : List Key
present_switch_keys =
    key fields.SwitchMatrix a_matrix Required
    ∷ key fields.SwitchLevel (Number 1 (level_limit - 1)) Required
    ∷ key fields.SwitchDestination a_destination Required
    ∷ []

-- the switch of a bus, where it has one
abbrev pub switch_in : Members → Option SwitchEntry
switch_in entry = option_map (λ matrix. switch_entry entry) (found_at fields.SwitchMatrix entry)

-- an entry of a section: what is read of it, or its first fault
abbrev pub entry_answer : {X : Type 0} → (Members → X) → SectionKeys → ℕ → Members
    → Result X PlantFault
entry_answer read section number entry =
    keys_answer (read entry) section.section number entry section.keys

-- the keys of a section under another name
abbrev pub keys_at : SectionKeys → Section → SectionKeys
keys_at keys section = record keys { section = section }

-- the keys of a section that has at least and at most so many entries
abbrev pub counted : ℕ → ℕ → SectionKeys → SectionKeys
counted least most keys = record keys { form = Entries least most }

-- names in an array, with default names behind them
abbrev pub names_in : List ℕ → ℕ → Option Data → List (List ℕ)
names_in letter count found = names_of letter count (as_texts found)

-- some values that must be names, behind texts that were read: all texts, or the first fault
unfoldable pub texts_going : Place → List (List ℕ) → List Value
    → Result (List (List ℕ)) PlantFault
texts_going at done left =
    unless_fault (done ++ filter_map as_str (map view left))
    (first_fault (flat_map (words_faults at shortest_name longest_name) (map view left)))

-- some values that must be names: their texts, or the first fault
abbrev pub texts_answer : Place → List Value → Result (List (List ℕ)) PlantFault
texts_answer at items = texts_going at [] items

-- a value that must be an array of at most so many names: their texts, or the first fault
unfoldable pub names_answer : Place → ℕ → Data → Result (List (List ℕ)) PlantFault
names_answer at most value =
    unless_fault (as_texts (Some value)) (first_fault (array_faults at most value))

-- the tables among some values
abbrev pub tables : List Value → List Members
tables items = filter_map as_table (map view items)

-- each of some values is a table
abbrev pub are_tables : List Value → Bool
are_tables items = list_all (λ item. is_some (as_table (view item))) items

-- the array of a section of entries: its tables, or the first fault of its form
unfoldable pub form_answer : Section → ℕ → ℕ → Members
    → Result (List Members) PlantFault
form_answer section least most document =
    let found = get_member (section_name section) document in
    unless_fault (entries_found (Entries least most) document found)
    (first_fault (form_faults (place section 0 fields.Whole) (Entries least most) found))

-- a section of a document: what is read of each entry, or the first fault
unfoldable pub section_answer : {X : Type 0} → (Members → X) → SectionKeys → Members
    → Result (List X) PlantFault
section_answer read section document =
    unless_fault (map read (section_entries section document))
    (first_fault (section_faults document section))

-- a section that has one entry alone: what is read of it, or the first fault
unfoldable pub only_answer : {X : Type 0} → (Members → X) → SectionKeys → Members
    → Result X PlantFault
only_answer read section document =
    unless_fault (read (only_entry section document))
    (first_fault (section_faults document section))

-- the faults of a section's entries, of which the first has this number
abbrev pub entries_faults : SectionKeys → ℕ → List Members → List PlantFault
entries_faults section number entries =
    flat_map (λ (numbered : ℕ × Members). entry_faults section numbered.0 numbered.1)
    (enumerate_from number entries)

-- the entries of a section: what is read of each, or the first fault
abbrev pub entries_answer : {X : Type 0} → (Members → X) → SectionKeys → List Members
    → Result (List X) PlantFault
entries_answer read section entries =
    unless_fault (map read entries) (first_fault (entries_faults section 0 entries))

-- the same where these were read, and these values are left
abbrev pub entries_going : {X : Type 0} → (Members → X) → SectionKeys → List X
    → List Value → Result (List X) PlantFault
entries_going read section done left =
    unless_fault (done ++ map read (tables left))
    (first_fault (entries_faults section (length done) (tables left)))

-- sections of a document, in their order: what is read of it, or the first fault of these sections
unfoldable pub sections_answer : {X : Type 0} → X → Members → List SectionKeys
    → Result X PlantFault
sections_answer read document sections =
    unless_fault read (first_fault (flat_map (section_faults document) sections))
