-- What is known of the value of a key that has no fault.
use Rattle.std.proofs.Common.{◌≡◌, ℕ, ℤ, pos, negsuc, int_le, ◌≤◌, Bool, true, false, cond, List, [], ◌∷◌, length, All, flat_map, filter_map, Option, Some, None, IsSome, suc, refl, ap, arith, leb-true}
use Rattle.std.specs.Option.{option_or}
use Rattle.std.specs.List.{AllByRecursion}
use Rattle.std.proofs.lemmas.Bool.{and_parts}
use Rattle.std.proofs.lemmas.List.Elements.{All-from_recursion}
use Rattle.toml.specs.Data.{Data, string, integer, boolean, array, Members, as_str}
use Rattle.plant_file.specs.declared.fault.Section.{Section}
use Rattle.plant_file.specs.declared.fault.Field.{Field}
use Rattle.plant_file.specs.declared.fault.Place.{Place}
use Rattle.plant_file.specs.declared.fault.PlantFault.{PlantFault}
use Rattle.plant_file.specs.Rows.{Kind, Number, UpTo, Words, Flag, Names, Default, Required, RequiredWith, Given, Optional, Key, key, SectionKeys, first_text_byte, last_text_byte, shortest_name, longest_name}
use Rattle.plant_file.specs.Document.{values, found_at, as_number, as_text, as_texts}
use Rattle.plant_file.specs.KeyFaults.{place, range_faults, up_to_faults, text_faults, words_faults, value_faults, is_looked_at, found_faults, key_faults, entry_faults}
use Rattle.plant_file.specs.Ranges.{IsFrom, IsWords, IsName}
use Rattle.plant_file.proofs.NoFault.{append_none, flat_map_none}

-- a test whose failure alone gives a fault
test_none : {X : Type 0} (test : Bool) (x : X) → cond test [] (x ∷ []) ≡ [] → test ≡ true
test_none true x none = refl
test_none false x none = cc

pub range_right : (at : Place) (number low high : ℕ) → range_faults at (pos number) low high ≡ [] → IsFrom low high number
range_right at number low high none =
    let both = and_parts (int_le (pos low) (pos number)) (int_le (pos number) (pos high)) (test_none _ _ none) in
    (leb-true low number both.0, leb-true number high both.1)

integer_right : (at : Place) (value : ℤ) (low high : ℕ) → range_faults at value low high ≡ [] → IsFrom low high (as_number (Some (integer value)))
integer_right at (pos number) low high none = range_right at number low high none
integer_right at (negsuc number) low high none = cc

up_to_right : (at : Place) (high bound : ℕ) (value : Data) → up_to_faults at high bound value ≡ [] → IsFrom 0 high (as_number (Some value)) × (as_number (Some value) ≤ bound)
up_to_right at high bound (integer value) none =
    let parts = append_none _ _ none in
    (integer_right at value 0 high parts.0, (integer_right at value 0 bound parts.1).1)
up_to_right at high bound value none = cc

bytes_right : (at : Place) (low high : ℕ) (text : List ℕ) → AllByRecursion (λ byte. range_faults at (pos byte) low high ≡ []) text → AllByRecursion (IsFrom low high) text
bytes_right at low high [] none = tt
bytes_right at low high (byte ∷ more) none = (range_right at byte low high none.0, bytes_right at low high more none.1)

text_right : (at : Place) (low high : ℕ) (text : List ℕ) → text_faults at low high text ≡ [] → IsWords low high text
text_right at low high text none =
    let parts = append_none _ _ none in
    (range_right at (length text) low high parts.0, All-from_recursion _ text (bytes_right at first_text_byte last_text_byte text (flat_map_none _ text parts.1)))

words_right : (at : Place) (low high : ℕ) (value : Data) → words_faults at low high value ≡ [] → IsWords low high (as_text (Some value))
words_right at low high (string text) none = text_right at low high text none
words_right at low high value none = cc

-- each value of an array is a name: then they are as many texts
names_right : (at : Place) (names : List Data) → AllByRecursion (λ name. words_faults at shortest_name longest_name name ≡ []) names →
    (length (filter_map as_str names) ≡ length names) × AllByRecursion IsName (filter_map as_str names)
names_right at [] none = (refl, tt)
names_right at (string text ∷ more) none =
    let rest = names_right at more none.1 in
    (ap suc rest.0, (text_right at shortest_name longest_name text none.0, rest.1))
names_right at (value ∷ more) none = cc (none.0)

-- A value is one of its kind.
abbrev pub IsOfKind : Members → Kind → Option Data → Type 0
IsOfKind entry (Number low high) value = IsFrom low high (as_number value)
IsOfKind entry (UpTo high limit) value = IsFrom 0 high (as_number value) × (as_number value ≤ as_number (found_at limit entry))
IsOfKind entry (Words low high) value = IsWords low high (as_text value)
IsOfKind entry Flag value = Unit
IsOfKind entry (Names limit) value = (length (as_texts value) ≤ as_number (found_at limit entry)) × All IsName (as_texts value)

value_right : (at : Place) (entry : Members) (kind : Kind) (value : Data) → value_faults at entry kind value ≡ [] → IsOfKind entry kind (Some value)
value_right at entry (Number low high) (integer value) none = integer_right at value low high none
value_right at entry (UpTo high limit) value none = up_to_right at high (as_number (found_at limit entry)) value none
value_right at entry (Words low high) value none = words_right at low high value none
value_right at entry Flag (boolean flag) none = tt
value_right at entry (Names limit) (array items) none =
    let parts = append_none _ _ none in
    let count = range_right at (length (values items)) 0 (as_number (found_at limit entry)) parts.0 in
    let names = names_right at (values items) (flat_map_none _ (values items) parts.1) in
    (omega (arith, count.1, names.0), All-from_recursion _ _ names.1)
value_right at entry kind value none = cc

-- What stands at a key, or what is given there, is of its kind: always, or where the key belongs to the entry.
abbrev pub IsRightAt : Members → Kind → Default → Option Data → Type 0
IsRightAt entry kind Required found = IsOfKind entry kind (option_or found None)
IsRightAt entry kind (RequiredWith other) found = IsSome (found_at other entry) → IsOfKind entry kind (option_or found None)
IsRightAt entry kind (Given value) found = IsOfKind entry kind (option_or found (Some value))
IsRightAt entry kind Optional found = IsSome found → IsOfKind entry kind (option_or found None)

-- the faults of what is given
abbrev pub given_faults : Place → Members → Kind → Default → List PlantFault
given_faults at entry kind (Given value) = value_faults at entry kind value
given_faults at entry kind default = []

looked_at_none : {X : Type 0} (looked : Bool) (faults : List X) → cond looked faults [] ≡ [] → looked ≡ true → faults ≡ []
looked_at_none true faults none looked = none
looked_at_none false faults none looked = cc

-- what was found at a key has no fault
found_right : (at : Place) (entry : Members) (field : Field) (kind : Kind) (default : Default) (found : Option Data) →
    given_faults at entry kind default ≡ [] →
    (is_looked_at default entry ≡ true → found_faults at entry (key field kind default) found ≡ []) →
    IsRightAt entry kind default found
found_right at entry field kind Required (Some value) right none = value_right at entry kind value (none refl)
found_right at entry field kind Required None right none = cc (none refl)
found_right at entry field kind (RequiredWith other) (Some value) right none = λ there. value_right at entry kind value (none there)
found_right at entry field kind (RequiredWith other) None right none = λ there. cc (none there)
found_right at entry field kind (Given value) (Some other) right none = value_right at entry kind other (none refl)
found_right at entry field kind (Given value) None right none = value_right at entry kind value right
found_right at entry field kind Optional (Some value) right none = λ there. value_right at entry kind value (none refl)
found_right at entry field kind Optional None right none = λ there. cc

abbrev pub IsRight : Members → Key → Type 0
IsRight entry row = IsRightAt entry row.kind row.default (found_at row.field entry)

module _ (section : Section) (number : ℕ) (entry : Members) where
  -- the faults of what a row gives
  abbrev pub gives_faults : Key → List PlantFault
  gives_faults row = given_faults (place section number row.field) entry row.kind row.default

  keys_right : (keys : List Key) → AllByRecursion (λ row. gives_faults row ≡ []) keys →
      AllByRecursion (λ row. key_faults section number entry row ≡ []) keys → AllByRecursion (IsRight entry) keys
  keys_right [] right none = tt
  keys_right (row ∷ more) right none = (
    found_right (place section number row.field) entry row.field row.kind row.default (found_at row.field entry) right.0 (looked_at_none _ _ none.0),
    keys_right more right.1 none.1,
  )

-- each key of an entry that has no fault, where what is given has none
pub entry_right : (section : SectionKeys) (number : ℕ) (entry : Members) → flat_map (gives_faults section.section number entry) section.keys ≡ [] →
    entry_faults section number entry ≡ [] → AllByRecursion (IsRight entry) section.keys
entry_right section number entry right none =
    keys_right section.section number entry section.keys (flat_map_none _ section.keys right) (flat_map_none _ section.keys none)
