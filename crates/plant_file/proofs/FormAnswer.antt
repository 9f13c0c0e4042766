-- What the form of a section answers, by what stands at the section's name.
use Rattle.std.proofs.Common.{◌≡◌, ℕ, pos, map, length, List, [], ◌∷◌, ◌&&◌, Bool, true, false, Some, None, is_some, Ok, Err, refl, ap, ◌∙◌}
use Rattle.std.specs.List.{list_all}
use Rattle.std.proofs.lemmas.List.{length-map}
use Rattle.toml.specs.Data.{Data, string, integer, float, boolean, datetime, array, table, Items, Members, as_array, as_table, get_member}
use Rattle.toml.specs.View.{view, items_view}
use Rattle.toml.specs.declared.value.Value.{Value}
use Rattle.plant_file.specs.declared.fault.Section.{Section}
use Rattle.plant_file.specs.declared.fault.Field.TheVariants as fields
use Rattle.plant_file.specs.declared.fault.PlantFault.{PlantFault}
use Rattle.plant_file.specs.Rows.{SectionKeys, Entries}
use Rattle.plant_file.specs.declared.fault.PlantFault.TheVariants.{WrongType}
use Rattle.plant_file.specs.Spelling.{section_name}
use Rattle.plant_file.specs.Document.{values, entries_found}
use Rattle.plant_file.specs.FirstFault.{first_fault, unless_fault}
use Rattle.plant_file.specs.KeyFaults.{place, range_faults, form_faults, section_faults}
use Rattle.plant_file.specs.ReadingInside.{tables, are_tables, form_answer, entries_answer, section_answer}
use Rattle.plant_file.proofs.ReadingInside.{behind, stops, value}

-- what an array's values are as data
pub values-view : (items : List Value) → values (items_view items) ≡ map view items
values-view [] = refl
values-view (item ∷ more) = ap (λ (seen : List Data). view item ∷ seen) (values-view more)

are_tables-view : (items : List Value) → list_all (λ value. is_some (as_table value)) (map view items) ≡ are_tables items
are_tables-view [] = refl
are_tables-view (item ∷ more) = ap (λ (all : Bool). is_some (as_table (view item)) && all) (are_tables-view more)

pub is_array : (d : Data) (items : Items) → Some items ≡ as_array d → d ≡ array items
is_array (string text) items is = cc
is_array (integer number) items is = cc
is_array (float number) items is = cc
is_array (boolean flag) items is = cc
is_array (datetime time) items is = cc
is_array (array own) items is = cc
is_array (table own) items is = cc

-- nothing stands there
pub form-absent : (section : Section) (least most : ℕ) (document : Members) → None ≡ get_member (section_name section) document
    → form_answer section least most document ≡ unless_fault [] (first_fault (range_faults (place section 0 fields.Whole) (pos 0) least most))
unfolding form_answer
form-absent section least most document found = rw (← found) refl

-- an array of tables
pub form-tables : (section : Section) (least most : ℕ) (document : Members) (d : Data) (items : List Value) → Some d ≡ get_member (section_name section) document → Some (items_view items) ≡ as_array d → are_tables items ≡ true
    → form_answer section least most document ≡ unless_fault (tables items) (first_fault (range_faults (place section 0 fields.Whole) (pos (length items)) least most))
unfolding form_answer
form-tables section least most document d items found is all =
    rw (← found, is_array d (items_view items) is, values-view items, are_tables-view items, all, length-map items view) refl

-- an array that has something other than tables
pub form-mixed : (section : Section) (least most : ℕ) (document : Members) (d : Data) (items : List Value) → Some d ≡ get_member (section_name section) document → Some (items_view items) ≡ as_array d → are_tables items ≡ false
    → form_answer section least most document ≡ Err (WrongType (place section 0 fields.Whole))
unfolding form_answer
form-mixed section least most document d items found is mixed =
    rw (← found, is_array d (items_view items) is, values-view items, are_tables-view items, mixed) refl

-- something other than an array
pub form-other : (section : Section) (least most : ℕ) (document : Members) (d : Data) → Some d ≡ get_member (section_name section) document → None ≡ as_array d
    → form_answer section least most document ≡ Err (WrongType (place section 0 fields.Whole))
unfolding form_answer
form-other section least most document (string text) found is = rw (← found) refl
form-other section least most document (integer number) found is = rw (← found) refl
form-other section least most document (float number) found is = rw (← found) refl
form-other section least most document (boolean flag) found is = rw (← found) refl
form-other section least most document (datetime time) found is = rw (← found) refl
form-other section least most document (array own) found is = cc
form-other section least most document (table own) found is = rw (← found) refl

-- a section whose form is right has its entries, and a fault of the form is answered
pub section-Ok : {X : Type 0} (read : Members → X) (section : SectionKeys) (name : Section) (least most : ℕ) (document : Members) (entries : List Members) → section.section ≡ name → section.form ≡ Entries least most
    → Ok entries ≡ form_answer name least most document
    → section_answer read section document ≡ entries_answer read section entries
unfolding form_answer section_answer section_faults
section-Ok read section name least most document entries named form is =
    let found = get_member (section_name section.section) document in
    let at = place section.section 0 fields.Whole in
    let right : Ok entries ≡ unless_fault (entries_found section.form document found) (first_fault (form_faults at section.form found)) = rw (named, form) is in
    let same : entries_found section.form document found ≡ entries = value _ entries (form_faults at section.form found) right in
    behind _ entries _ (form_faults at section.form found) _ right ∙ rw same refl

pub section-Err : {X : Type 0} (read : Members → X) (section : SectionKeys) (name : Section) (least most : ℕ) (document : Members) (fault : PlantFault) → section.section ≡ name → section.form ≡ Entries least most
    → Err fault ≡ form_answer name least most document
    → section_answer read section document ≡ Err fault
unfolding form_answer section_answer section_faults
section-Err read section name least most document fault named form is =
    let found = get_member (section_name section.section) document in
    let at = place section.section 0 fields.Whole in
    let wrong : Err fault ≡ unless_fault (entries_found section.form document found) (first_fault (form_faults at section.form found)) = rw (named, form) is in
    stops _ fault _ (form_faults at section.form found) _ wrong
