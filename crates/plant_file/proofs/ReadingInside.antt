-- The first faults of texts and of keys, as they are read.
use Rattle.std.proofs.Common.{◌≡◌, ℕ, ◌<◌, get_or, drop, pos, not, find, flat_map, map, length, ◌+◌, ◌++◌, Result, Ok, Err, append_assoc, sym, List, [], ◌∷◌, Option, Some, None, option_and_then, refl, ap, ◌∙◌, inl, inr}
use Rattle.std.specs.Option.{option_or}
use Rattle.std.proofs.lemmas.Bool.{cases_Bool}
use Rattle.std.proofs.lemmas.List.{length_push, drop_more}
use Rattle.toml.specs.Data.{Data, Members, as_table}
use Rattle.toml.specs.View.{view}
use Rattle.toml.specs.declared.value.Value.{Value}
use Rattle.plant_file.specs.declared.fault.Place.{Place}
use Rattle.plant_file.specs.declared.fault.PlantFault.{PlantFault}
use Rattle.plant_file.specs.declared.fault.Section.{Section}
use Rattle.plant_file.specs.Document.{found_at, default_value, as_number}
use Rattle.plant_file.specs.Rows.{Key, SectionKeys, first_text_byte, last_text_byte}
use Rattle.plant_file.specs.FirstFault.{first_fault, unless_fault, Answers}
use Rattle.plant_file.specs.KeyFaults.{range_faults, text_faults, key_faults, entry_faults}
use Rattle.plant_file.specs.ReadingInside.{read_as, is_printable, tables, entries_faults, key_answer, keys_answer, entry_answer, entries_going}
use Rattle.plant_file.proofs.FirstFault.{first_fault-append}

-- a byte's fault
abbrev byte_faults : Place → ℕ → List PlantFault
byte_faults at byte = range_faults at (pos byte) first_text_byte last_text_byte

-- the first fault of some bytes is that of the first byte that isn't printable
bytes-first : (at : Place) (text : List ℕ) → first_fault (flat_map (byte_faults at) text)
    ≡ option_and_then (λ byte. first_fault (byte_faults at byte)) (find (λ byte. not (is_printable byte)) text)
bytes-first at [] = refl
bytes-first at (x ∷ xs) =
    elim (cases_Bool (is_printable x)) [
      | inl is ↦ rw is (bytes-first at xs)
      | inr other ↦ rw other (rw other refl)
    ]

-- the first fault of a text is that of its length, or else that of the first byte that isn't printable
pub text-first : (at : Place) (low high : ℕ) (text : List ℕ) → first_fault (text_faults at low high text)
    ≡ option_or (first_fault (range_faults at (pos (length text)) low high))
    (option_and_then (λ byte. first_fault (byte_faults at byte)) (find (λ byte. not (is_printable byte)) text))
text-first at low high text =
    first_fault-append (range_faults at (pos (length text)) low high) (flat_map (byte_faults at) text)
    ∙ ap (option_or (first_fault (range_faults at (pos (length text)) low high))) (bytes-first at text)

-- What was read has no fault, so the next faults count; and a fault that was answered is the first one.
pub behind : {X Y : Type 0} (v x : X) (read : Y) (faults more : List PlantFault) → Ok x ≡ unless_fault v (first_fault faults) → unless_fault read (first_fault (faults ++ more)) ≡ unless_fault read (first_fault more)
behind v x read [] more is = refl
behind v x read (fault ∷ faults) more is = cc

pub stops : {X Y : Type 0} (v : X) (f : PlantFault) (read : Y) (faults more : List PlantFault) → Err f ≡ unless_fault v (first_fault faults) → unless_fault read (first_fault (faults ++ more)) ≡ Err f
stops v f read [] more is = cc
stops v f read (fault ∷ faults) more is = cc

rest-Ok : {X Y : Type 0} (x v : X) (read : Y) (faults : List PlantFault) → Ok x ≡ unless_fault v (first_fault faults) → unless_fault read (first_fault faults) ≡ Ok read
rest-Ok x v read [] is = refl
rest-Ok x v read (fault ∷ faults) is = cc

rest-Err : {X Y : Type 0} (f : PlantFault) (v : X) (read : Y) (faults : List PlantFault) → Err f ≡ unless_fault v (first_fault faults) → unless_fault read (first_fault faults) ≡ Err f
rest-Err f v read [] is = cc
rest-Err f v read (fault ∷ faults) is = cc

pub value : {X : Type 0} (v x : X) (faults : List PlantFault) → Ok x ≡ unless_fault v (first_fault faults) → v ≡ x
value v x [] is = cc
value v x (fault ∷ faults) is = cc

-- an entry without a fault goes behind those that were read
first-going : {X : Type 0} (read : Members → X) (section : SectionKeys) (done : List X) (entry : Members) (left : List Members) (faults : List PlantFault) (x : X) → Ok x ≡ unless_fault (read entry) (first_fault faults)
    → unless_fault (done ++ read entry ∷ map read left) (first_fault (faults ++ entries_faults section (length done + 1) left))
    ≡ unless_fault ((done ++ x ∷ []) ++ map read left) (first_fault (entries_faults section (length (done ++ x ∷ [])) left))
first-going read section done entry left [] x is =
    let same : x ≡ read entry = cc in
    rw (same, length_push done (read entry), append_assoc) refl
first-going read section done entry left (fault ∷ more) x is = cc

pub going-Ok : {X : Type 0} (read : Members → X) (section : SectionKeys) (done : List X) (value : Value) (left : List Value) (entry : Members) (x : X) → as_table (view value) ≡ Some entry
    → Ok x ≡ entry_answer read section (length done) entry
    → entries_going read section done (value ∷ left) ≡ entries_going read section (done ++ x ∷ []) left
unfolding keys_answer
going-Ok read section done value left entry x table is =
    rw table (first-going read section done entry (tables left) (entry_faults section (length done) entry) x is)

pub going-Err : {X : Type 0} (read : Members → X) (section : SectionKeys) (done : List X) (value : Value) (left : List Value) (entry : Members) (fault : PlantFault) → as_table (view value) ≡ Some entry
    → Err fault ≡ entry_answer read section (length done) entry
    → entries_going read section done (value ∷ left) ≡ Err fault
unfolding keys_answer
going-Err read section done value left entry fault table is =
    rw table (stops (read entry) fault _ (entry_faults section (length done) entry) _ is)

pub going-None : {X : Type 0} (read : Members → X) (section : SectionKeys) (done : List X) (value : Value) (left : List Value) → as_table (view value) ≡ None
    → entries_going read section done (value ∷ left) ≡ entries_going read section done left
going-None read section done value left none = rw none refl

-- an answer other than for want of memory
pub answered : {X : Type 0} (x : X) (wanted : Result X PlantFault) → Answers (Ok x) wanted → Ok x ≡ wanted
answered x wanted (inl is) = is
answered x wanted (inr none) = cc

-- the entry at an index of an array, with those behind it
pub entry_here : (items : List Value) (i : ℕ) (item : Value) → item ≡ get_or items i item → i < length items → drop i items ≡ item ∷ drop (i + 1) items
entry_here items i item is within = drop_more items i item within ∙ ap (λ (x : Value). x ∷ drop (i + 1) items) (sym is)

-- a fault of an entry is answered
pub going-fails : {X : Type 0} (read : Members → X) (section : SectionKeys) (done : List X) (value : Value) (left : List Value) (entry : Members) (fault : PlantFault) → as_table (view value) ≡ Some entry
    → Answers (Err fault) (entry_answer read section (length done) entry)
    → Answers (Err fault) (entries_going read section done (value ∷ left))
going-fails read section done value left entry fault table (inl is) = inl (sym (going-Err read section done value left entry fault table is))
going-fails read section done value left entry fault table (inr none) = inr cc

-- something made of what was read has the same faults
pub read_as-unless : {X Y : Type 0} (f : X → Y) (v : X) (found : Option PlantFault) → unless_fault (f v) found ≡ read_as f (unless_fault v found)
read_as-unless f v None = refl
read_as-unless f v (Some fault) = refl

-- The keys of an entry in their order: behind one without a fault the next one is read, and a fault is answered.
pub keys-Ok : {X Y : Type 0} (x : X) (as_data : Option Data → X) (section : Section) (number : ℕ) (entry : Members) (row : Key) (read : Y) (keys : List Key) → Ok x ≡ key_answer as_data section number entry row
    → keys_answer read section number entry (row ∷ keys) ≡ keys_answer read section number entry keys
unfolding key_answer keys_answer
keys-Ok x as_data section number entry row read keys is = behind _ x read (key_faults section number entry row) _ is

pub keys-Err : {X Y : Type 0} (f : PlantFault) (as_data : Option Data → X) (section : Section) (number : ℕ) (entry : Members) (row : Key) (read : Y) (keys : List Key) → Err f ≡ key_answer as_data section number entry row
    → keys_answer read section number entry (row ∷ keys) ≡ Err f
unfolding key_answer keys_answer
keys-Err f as_data section number entry row read keys is = stops _ f read (key_faults section number entry row) _ is

pub keys-none : {Y : Type 0} (section : Section) (number : ℕ) (entry : Members) (read : Y) → keys_answer read section number entry [] ≡ Ok read
unfolding keys_answer
keys-none section number entry read = refl

pub key-value : {X : Type 0} (x : X) (as_data : Option Data → X) (section : Section) (number : ℕ) (entry : Members) (row : Key) → Ok x ≡ key_answer as_data section number entry row
    → as_data (option_or (found_at row.field entry) (default_value row.default)) ≡ x
unfolding key_answer
key-value x as_data section number entry row is = value _ x (key_faults section number entry row) is

-- the last keys of an entry, which are read together
pub keys-rest-Ok : {X Y : Type 0} (x v : X) (section : Section) (number : ℕ) (entry : Members) (read : Y) (keys : List Key) → Ok x ≡ keys_answer v section number entry keys
    → keys_answer read section number entry keys ≡ Ok read
unfolding keys_answer
keys-rest-Ok x v section number entry read keys is = rest-Ok x v read (flat_map (key_faults section number entry) keys) is

pub keys-rest-value : {X : Type 0} (x v : X) (section : Section) (number : ℕ) (entry : Members) (keys : List Key) → Ok x ≡ keys_answer v section number entry keys → v ≡ x
unfolding keys_answer
keys-rest-value x v section number entry keys is = value v x (flat_map (key_faults section number entry) keys) is

pub keys-rest-Err : {X Y : Type 0} (fault : PlantFault) (v : X) (section : Section) (number : ℕ) (entry : Members) (read : Y) (keys : List Key) → Err fault ≡ keys_answer v section number entry keys
    → keys_answer read section number entry keys ≡ Err fault
unfolding keys_answer
keys-rest-Err fault v section number entry read keys is = rest-Err fault v read (flat_map (key_faults section number entry) keys) is

-- a fault of a key, or want of memory, is that of the entry
pub keys-fails : {X Y : Type 0} (fault : PlantFault) (as_data : Option Data → X) (section : Section) (number : ℕ) (entry : Members) (row : Key) (read : Y) (keys : List Key) (wanted : Result Y PlantFault) → wanted ≡ keys_answer read section number entry (row ∷ keys)
    → Answers (Err fault) (key_answer as_data section number entry row)
    → Answers (Err fault) wanted
keys-fails fault as_data section number entry row read keys wanted left (inl is) = inl (sym (left ∙ keys-Err fault as_data section number entry row read keys is))
keys-fails fault as_data section number entry row read keys wanted left (inr none) = inr cc

-- a number that isn't default_value
pub required : (found : Option Data) → as_number (option_or found None) ≡ as_number found
required None = refl
required (Some value) = refl

-- what the keys of an entry answer, one behind the other
pub ruleset keys = (keys-Ok, keys-Err, keys-none, key-value)
