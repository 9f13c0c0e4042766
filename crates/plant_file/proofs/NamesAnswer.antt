-- What arrays of names answer, and the default names behind them.
use Rattle.std.proofs.Common.{◌≡◌, ℕ, pos, ◌+◌, ◌-◌, ◌<◌, suc, length, map, filter_map, List, [], ◌∷◌, ◌++◌, Some, None, Result, Ok, Err, refl, ap, sym, ◌∙◌, append_assoc, append-nil, inl, inr, arith}
use Rattle.std.specs.List.{cons_option}
use Rattle.std.proofs.lemmas.List.{length_push, length-map}
use Rattle.toml.specs.Data.{Data, string, integer, float, boolean, datetime, array, table, Members, as_array, as_str}
use Rattle.toml.specs.View.{view, items_view}
use Rattle.toml.specs.declared.value.Value.{Value}
use Rattle.plant_file.specs.declared.fault.Section.{Section}
use Rattle.plant_file.specs.declared.fault.Field.{Field}
use Rattle.plant_file.specs.declared.fault.Place.{Place}
use Rattle.plant_file.specs.declared.fault.PlantFault.{PlantFault}
use Rattle.plant_file.specs.declared.fault.PlantFault.TheVariants.{WrongType}
use Rattle.plant_file.specs.Rows.{Words, Names, key, no_names, shortest_name, longest_name}
use Rattle.plant_file.specs.Document.{found_at, as_number, as_text, as_texts}
use Rattle.plant_file.specs.FirstFault.{first_fault, unless_fault, Answers}
use Rattle.plant_file.specs.KeyFaults.{place, range_faults, words_faults, value_faults}
use Rattle.plant_file.specs.Reading.{default_name, names_of}
use Rattle.plant_file.specs.ReadingInside.{read_as, value_answer, key_answer, texts_going, texts_answer, names_answer, array_faults, names_in}
use Rattle.plant_file.proofs.ReadingInside.{behind, stops, value, read_as-unless}
use Rattle.plant_file.proofs.FormAnswer.{values-view, is_array}

-- one more default name
pub names_of-more : (letter : List ℕ) (count : ℕ) (names : List (List ℕ)) → length names < count
    → names_of letter count (names ++ default_name letter (length names) ∷ []) ≡ names_of letter count names
names_of-more letter count names more =
    let left : count - length names ≡ suc (count - (length names + 1)) = omega arith in
    rw (length_push names (default_name letter (length names)), left, append_assoc) refl

-- a name behind those that were read
text_behind : (at : Place) (done : List (List ℕ)) (d : Data) (texts : List (List ℕ)) (faults : List PlantFault) (text : List ℕ) → Ok text ≡ unless_fault (as_text (Some d)) (first_fault (words_faults at shortest_name longest_name d))
    → unless_fault (done ++ cons_option (as_str d) texts) (first_fault (words_faults at shortest_name longest_name d ++ faults)) ≡ unless_fault ((done ++ text ∷ []) ++ texts) (first_fault faults)
text_behind at done (string own) texts faults text is =
    let same : own ≡ text = value own text (words_faults at shortest_name longest_name (string own)) is in
    behind own text (done ++ own ∷ texts) (words_faults at shortest_name longest_name (string own)) faults is ∙ rw (same, append_assoc) refl
text_behind at done (integer number) texts faults text is = cc
text_behind at done (float number) texts faults text is = cc
text_behind at done (boolean flag) texts faults text is = cc
text_behind at done (datetime time) texts faults text is = cc
text_behind at done (array own) texts faults text is = cc
text_behind at done (table own) texts faults text is = cc

pub texts-Ok : (at : Place) (done : List (List ℕ)) (item : Value) (left : List Value) (text : List ℕ) → Ok text ≡ value_answer as_text at (Words shortest_name longest_name) (view item)
    → texts_going at done (item ∷ left) ≡ texts_going at (done ++ text ∷ []) left
unfolding texts_going
texts-Ok at done item left text is = text_behind at done (view item) (filter_map as_str (map view left)) _ text is

pub texts-Err : (at : Place) (done : List (List ℕ)) (item : Value) (left : List Value) (fault : PlantFault) → Err fault ≡ value_answer as_text at (Words shortest_name longest_name) (view item)
    → texts_going at done (item ∷ left) ≡ Err fault
unfolding texts_going
texts-Err at done item left fault is = stops _ fault _ (words_faults at shortest_name longest_name (view item)) _ is

pub texts-none : (at : Place) (done : List (List ℕ)) → texts_going at done [] ≡ Ok done
unfolding texts_going
texts-none at done = rw (append-nil done) refl

unless_none : {X : Type 0} (v : X) (faults : List PlantFault) → None ≡ first_fault faults → Ok v ≡ unless_fault v (first_fault faults)
unless_none v faults is = rw (← is) refl

unless_some : {X : Type 0} (v : X) (fault : PlantFault) (faults : List PlantFault) → Some fault ≡ first_fault faults → Err fault ≡ unless_fault v (first_fault faults)
unless_some v fault faults is = rw (← is) refl

-- an array of names, by how many there are
pub names-array : (at : Place) (most : ℕ) (d : Data) (items : List Value) → Some (items_view items) ≡ as_array d → None ≡ first_fault (range_faults at (pos (length items)) 0 most)
    → names_answer at most d ≡ texts_answer at items
unfolding names_answer texts_going
names-array at most d items is right =
    rw (is_array d (items_view items) is, values-view items)
    (behind items items (filter_map as_str (map view items)) (range_faults at (pos (length (map view items))) 0 most) _ (unless_none items (range_faults at (pos (length (map view items))) 0 most) (rw (length-map items view) right)))

pub names-range : (at : Place) (most : ℕ) (d : Data) (items : List Value) (fault : PlantFault) → Some (items_view items) ≡ as_array d → Some fault ≡ first_fault (range_faults at (pos (length items)) 0 most)
    → names_answer at most d ≡ Err fault
unfolding names_answer
names-range at most d items fault is wrong =
    rw (is_array d (items_view items) is, values-view items)
    (stops items fault (filter_map as_str (map view items)) (range_faults at (pos (length (map view items))) 0 most) _ (unless_some items fault (range_faults at (pos (length (map view items))) 0 most) (rw (length-map items view) wrong)))

pub names-other : (at : Place) (most : ℕ) (d : Data) → None ≡ as_array d → names_answer at most d ≡ Err (WrongType at)
unfolding names_answer
names-other at most (string text) is = refl
names-other at most (integer number) is = refl
names-other at most (float number) is = refl
names-other at most (boolean flag) is = refl
names-other at most (datetime time) is = refl
names-other at most (array own) is = cc
names-other at most (table own) is = refl

-- the key of an array of names, by what is found there
pub names-absent : (letter : List ℕ) (count : ℕ) (section : Section) (number : ℕ) (entry : Members) (field limit : Field) → None ≡ found_at field entry
    → key_answer (names_in letter count) section number entry (key field (Names limit) no_names) ≡ Ok (names_of letter count [])
unfolding key_answer
names-absent letter count section number entry field limit none = rw (← none) refl

limited : (at : Place) (entry : Members) (limit : Field) (d : Data) → value_faults at entry (Names limit) d ≡ array_faults at (as_number (found_at limit entry)) d
limited at entry limit (string text) = refl
limited at entry limit (integer number) = refl
limited at entry limit (float number) = refl
limited at entry limit (boolean flag) = refl
limited at entry limit (datetime time) = refl
limited at entry limit (array own) = refl
limited at entry limit (table own) = refl

pub names-found : (letter : List ℕ) (count : ℕ) (section : Section) (number : ℕ) (entry : Members) (field limit : Field) (d : Data) → Some d ≡ found_at field entry → as_number (found_at limit entry) ≡ count
    → key_answer (names_in letter count) section number entry (key field (Names limit) no_names) ≡ read_as (names_of letter count) (names_answer (place section number field) count d)
unfolding key_answer names_answer
names-found letter count section number entry field limit d found is =
    rw (← found, limited (place section number field) entry limit d, is) (read_as-unless (names_of letter count) (as_texts (Some d)) (first_fault (array_faults (place section number field) count d)))

-- a fault of what something is made of is its own
pub made-fails : {X Y : Type 0} (make : X → Y) (fault : PlantFault) (part : Result X PlantFault) (wanted : Result Y PlantFault) → wanted ≡ read_as make part → Answers (Err fault) part → Answers (Err fault) wanted
made-fails make fault part wanted is (inl fails) = inl (ap (read_as make) fails ∙ sym is)
made-fails make fault part wanted is (inr none) = inr cc
