-- What stands in a document: the entries of a section, and the value of a key in an entry.
use Rattle.std.specs.Prelude.{ℕ, pos, Bool, false, List, [], ◌∷◌, find, filter_map, Option, Some, None, option_and_then}
use Rattle.std.specs.Option.{option_or}
use Rattle.toml.specs.Data.{Data, string, integer, boolean, array, table, Items, no_items, item, Members, no_members, get_member, as_str, as_table}
use Rattle.plant_file.specs.declared.fault.Field.{Field}
use Rattle.plant_file.specs.Spelling.{section_name, field_name, same_field}
use Rattle.plant_file.specs.Rows.{Default, Required, RequiredWith, Given, Optional, Form, Document, OneTable, Entries, SectionKeys}

-- the values of an array, in order
abbrev pub values : Items → List Data
values no_items = []
values (item value more) = value ∷ values more

-- what an entry has at a key
abbrev pub found_at : Field → Members → Option Data
found_at field entry = get_member (field_name field) entry

-- the entries of a section of this form, where this was found at its name: of an array the tables that are in it
abbrev pub entries_found : Form → Members → Option Data → List Members
entries_found Document document found = document ∷ []
entries_found OneTable document (Some (table entry)) = entry ∷ []
entries_found OneTable document found = no_members ∷ []
entries_found (Entries least most) document (Some (array items)) =
    filter_map as_table (values items)
entries_found (Entries least most) document found = []

-- the entries of a section of a document
abbrev pub section_entries : SectionKeys → Members → List Members
section_entries section document =
    entries_found section.form document (get_member (section_name section.section) document)

-- the value that is taken where a key is absent
abbrev pub default_value : Default → Option Data
default_value (Given value) = Some value
default_value Required = None
default_value (RequiredWith other) = None
default_value Optional = None

-- the value that a section gives where this key is absent
abbrev pub given_in : SectionKeys → Field → Option Data
given_in section field =
    option_and_then (λ row. default_value row.default)
    (find (λ row. same_field row.field field) section.keys)

-- the value of a key in an entry of a section: what is found there, or else its default
abbrev pub value_for : SectionKeys → Field → Members → Option Data
value_for section field entry = option_or (found_at field entry) (given_in section field)

-- a value as a number, a text, true or false, and a list of texts, where it is one
abbrev pub as_number : Option Data → ℕ
as_number (Some (integer (pos number))) = number
as_number value = 0

abbrev pub as_text : Option Data → List ℕ
as_text (Some (string text)) = text
as_text value = []

abbrev pub as_flag : Option Data → Bool
as_flag (Some (boolean flag)) = flag
as_flag value = false

abbrev pub as_texts : Option Data → List (List ℕ)
as_texts (Some (array items)) = filter_map as_str (values items)
as_texts value = []

-- the value of a key, as a number, as a text, as true or false, and as a list of texts
abbrev pub number_for : SectionKeys → Field → Members → ℕ
number_for section field entry = as_number (value_for section field entry)

abbrev pub text_for : SectionKeys → Field → Members → List ℕ
text_for section field entry = as_text (value_for section field entry)

abbrev pub flag_for : SectionKeys → Field → Members → Bool
flag_for section field entry = as_flag (value_for section field entry)

abbrev pub texts_for : SectionKeys → Field → Members → List (List ℕ)
texts_for section field entry = as_texts (value_for section field entry)
