-- What the table of a plant file's keys is made of: rows of a key, its kind and its default, and sections of rows.
use Rattle.std.specs.Prelude.{ℕ, ◌-◌, pos, List}
use Rattle.toml.specs.Data.{Data, string, integer, array, no_items}
use Rattle.plant_file.specs.Limits.{matrix_limit, level_limit, level_source_limit, level_destination_limit, longest_address}
use Rattle.plant_file.specs.declared.fault.Section.{Section}
use Rattle.plant_file.specs.declared.fault.Field.{Field}

-- What the value of a key may be: a number from `low` to `high`; a number from 0 to `high`, and then to the number at the
-- key `limit` of the same entry; a text of `low` to `high` bytes, each of them printable; true or false; an array of names,
-- at most as many as the number at the key `limit` of the same entry.
pub data Kind : Type 0 where
  Number : (low high : ℕ) → Kind
  UpTo : (high : ℕ) (limit : Field) → Kind
  Words : (low high : ℕ) → Kind
  Flag : Kind
  Names : (limit : Field) → Kind

-- What it means that a key is absent. It is `Missing`; it is `Missing` where the key `other` is there, and where that one is
-- absent this one isn't looked at, whatever it is; this value stands in its place; or the entry is without it.
pub data Default : Type 0 where
  Required : Default
  RequiredWith : (other : Field) → Default
  Given : (value : Data) → Default
  Optional : Default

-- a row of the table
pub record Key : Type 0 where
  pub field : Field
  pub kind : Kind
  pub default : Default

-- How a section stands in the file: it is the document itself; a table, and an absent one is an empty one; an array of
-- tables, its entries, and an absent one is an empty one.
pub data Form : Type 0 where
  Document : Form
  OneTable : Form
  Entries : (least most : ℕ) → Form

-- a section of the table
pub record SectionKeys : Type 0 where
  pub section : Section
  pub form : Form
  pub keys : List Key

-- a row
abbrev pub key : Field → Kind → Default → Key
key field kind default = record { field = field; kind = kind; default = default }

-- the bytes of a text are from the first to the last of these
abbrev pub first_text_byte : ℕ
first_text_byte = 32

abbrev pub last_text_byte : ℕ
last_text_byte = 126

-- the least and the most bytes of a name
abbrev pub shortest_name : ℕ
shortest_name = 1

abbrev pub longest_name : ℕ
longest_name = 12

-- kinds that several keys have
abbrev pub a_matrix : Kind
a_matrix = Number 0 (matrix_limit - 1)

abbrev pub a_level : Kind
a_level = Number 0 (level_limit - 1)

abbrev pub a_source : Kind
a_source = Number 0 (level_source_limit - 1)

abbrev pub a_destination : Kind
a_destination = Number 0 (level_destination_limit - 1)

abbrev pub a_name : Kind
a_name = Words shortest_name longest_name

abbrev pub an_address : Kind
an_address = Words 1 longest_address

-- what stands in the place of an absent key: a number, a text, no names at all
abbrev pub number : ℕ → Default
number value = Given (integer (pos value))

abbrev pub words : List ℕ → Default
words text = Given (string text)

abbrev pub no_names : Default
no_names = Given (array no_items)
