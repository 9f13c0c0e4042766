-- Each fault of a document's sections and keys is at a place in it.
use Rattle.std.proofs.Common.{◌≡◌, ◌⊎◌, ℕ, ◌<◌, Bool, true, false, cond, List, [], ◌∷◌, length, get_or, Option, Some, None, IsSomeAnd, Ok, Err, refl, inl, inr, subst}
use Rattle.std.specs.List.{list_any}
use Rattle.std.specs.Option.{option_map_or}
use Rattle.std.specs.Result.{ForErr}
use Rattle.std.specs.Str.{is_utf8}
use Rattle.std.proofs.lemmas.List.Elements.{All-from_recursion}
use Rattle.std.proofs.lemmas.List.Folds.{list_any_at}
use Rattle.std.proofs.lemmas.Slice.Eq.{bytes_eq-Decides}
use Rattle.toml.specs.Data.{Members, get_member}
use Rattle.toml.specs.Parse.{parse_document}
use Rattle.plant_file.specs.declared.fault.Field.TheVariants as fields
use Rattle.plant_file.specs.declared.fault.Place.{Place}
use Rattle.plant_file.specs.declared.fault.PlantFault.{PlantFault}
use Rattle.plant_file.specs.declared.fault.PlantFault.TheVariants.{NotToml}
use Rattle.plant_file.specs.Spelling.{section_name, field_name, same_field}
use Rattle.plant_file.specs.Rows.{Key, SectionKeys}
use Rattle.plant_file.specs.Format.{file_format}
use Rattle.plant_file.specs.Document.{found_at, section_entries}
use Rattle.plant_file.specs.FirstFault.{first_fault}
use Rattle.plant_file.specs.KeyFaults.{place, key_faults, entry_faults, section_faults, sections_faults}
use Rattle.plant_file.specs.Reading.{data_of}
use Rattle.plant_file.specs.DataOfText.{document_answer, sections_in, data_of_text}
use Rattle.plant_file.specs.Places.{place_of, keys_of, IsInEntry, IsIn, IsFaultOf}
use Rattle.plant_file.proofs.FirstFault.{unless_fault-Err}
use Rattle.plant_file.proofs.FaultPlaces.{AreAt, none_at, append_at, flat_map_at, numbered_at, cond_at, found_faults_at, form_at}

-- a row's key is one of the rows'
row_is_key : (keys : List Key) (k : ℕ) (d : Key) → k < length keys → list_any (λ row. same_field row.field (get_or keys k d).field) keys ≡ true
row_is_key keys k d within =
    let name : List ℕ = field_name (get_or keys k d).field in
    list_any_at (λ row. same_field row.field (get_or keys k d).field) keys k d within ((bytes_eq-Decides name name).1 refl)

module _ (document : Members) where
  -- the faults of an entry that the document has
  entry_at : (section : SectionKeys) → keys_of section.section ≡ section → (number : ℕ) (entry : Members) → number < length (section_entries section document) →
      AreAt (IsIn document) (entry_faults section number entry)
  entry_at section is number entry there =
      flat_map_at (key_faults section.section number entry) section.keys (λ k d within.
      let row = get_or section.keys k d in
      let at = place section.section number row.field in
      let in_entry : IsInEntry document at = record { key = rw is (row_is_key section.keys k d within); entry = rw is there } in
      cond_at _ (found_faults_at at (inl in_entry) entry row (found_at row.field entry)) none_at)

  section_at : (section : SectionKeys) → keys_of section.section ≡ section → AreAt (IsIn document) (section_faults document section)
  unfolding section_faults
  section_at section is =
      append_at (form_at (place section.section 0 fields.Whole) (inr (refl, refl)) section.form (get_member (section_name section.section) document))
      (numbered_at (λ (numbered : ℕ × Members). entry_faults section numbered.0 numbered.1) (section_entries section document) (λ k d within.
      entry_at section is k _ within))

  pub sections_at : AreAt (IsIn document) (sections_faults document)
  sections_at =
      flat_map_at (section_faults document) file_format (λ k d within.
      section_at _ (All-from_recursion (λ section. keys_of section.section ≡ section) file_format
      (refl, (refl, (refl, (refl, (refl, (refl, (refl, (refl, (refl, (refl, (refl, tt))))))))))) k d within))

-- the first of some faults
first_at : {IsRight : Place → Type 0} (faults : List PlantFault) (fault : PlantFault) → AreAt IsRight faults → first_fault faults ≡ Some fault → IsSomeAnd (place_of fault) IsRight
first_at [] fault at is = cc
first_at {IsRight} (one ∷ more) fault at is =
    let same : one ≡ fault = cc in
    subst (λ other. IsSomeAnd (place_of other) IsRight) same at.each.0

document_at : (document : Members) (fault : PlantFault) → sections_in (Ok document) ≡ Err fault → IsSomeAnd (place_of fault) (IsIn document)
document_at document fault is =
    first_at (sections_faults document) fault (sections_at document) (unless_fault-Err (data_of document) fault (sections_faults document) is)

-- the document of a text, where it is one
parsed_at : (parsed : Option Members) (fault : PlantFault) → sections_in (option_map_or (λ document. Ok document) parsed (Err NotToml)) ≡ Err fault →
    (fault ≡ NotToml) ⊎ IsSomeAnd parsed (λ document. IsSomeAnd (place_of fault) (IsIn document))
parsed_at None fault is = inl (cc)
parsed_at (Some document) fault is = inr (document_at document fault is)

text_at : (utf8 : Bool) (parsed : Option Members) (fault : PlantFault) → sections_in (cond utf8 (option_map_or (λ document. Ok document) parsed (Err NotToml)) (Err NotToml)) ≡ Err fault →
    (fault ≡ NotToml) ⊎ IsSomeAnd parsed (λ document. IsSomeAnd (place_of fault) (IsIn document))
text_at true parsed fault is = parsed_at parsed fault is
text_at false parsed fault is = inl (cc)

pub IsFaultOf-data_of_text : (text : List ℕ) → ForErr (data_of_text text) (IsFaultOf text)
unfolding document_answer
IsFaultOf-data_of_text text fault is = text_at (is_utf8 text) (parse_document text) fault is
