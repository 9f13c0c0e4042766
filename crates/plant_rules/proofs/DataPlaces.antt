-- Each fault of a document, of its keys or of its data, is at a place in it.
use Rattle.std.proofs.Common.{◌≡◌, ◌⊎◌, ℕ, pos, ◌<◌, ◌≤◌, Bool, true, false, cond, List, [], ◌∷◌, ◌++◌, map, take, length, sum_by, Option, Some, None, IsSomeAnd, Ok, Err, refl, inl, inr, subst}
use Rattle.std.specs.List.{AllByRecursion}
use Rattle.std.specs.Option.{option_map_or}
use Rattle.std.specs.Result.{ForErr}
use Rattle.std.specs.Str.{is_utf8}
use Rattle.std.proofs.lemmas.List.{length-map}
use Rattle.toml.specs.Data.{Members}
use Rattle.toml.specs.Parse.{parse_document}
use Rattle.plant_file.specs.declared.fault.Section.{Section}
use Rattle.plant_file.specs.declared.fault.Section.TheVariants as sections
use Rattle.plant_file.specs.declared.fault.Field.{Field}
use Rattle.plant_file.specs.declared.fault.Field.TheVariants as fields
use Rattle.plant_file.specs.declared.fault.Place.{Place}
use Rattle.plant_file.specs.declared.fault.PlantFault.{PlantFault}
use Rattle.plant_file.specs.declared.fault.PlantFault.TheVariants.{NotToml}
use Rattle.plant_file.specs.Format.{level_keys}
use Rattle.plant_file.specs.Document.{section_entries}
use Rattle.plant_file.specs.DataOfText.{document_answer}
use Rattle.plant_file.specs.FirstFault.{first_fault}
use Rattle.plant_file.specs.KeyFaults.{place, sections_faults}
use Rattle.plant_file.specs.Limits.{all_sources_limit, all_destinations_limit}
use Rattle.plant_file.specs.Reading.{level_entry, data_of}
use Rattle.plant_file.specs.FileData.{LevelData, FileData}
use Rattle.plant_file.specs.declared.entries.SwitchEntry.{SwitchEntry}
use Rattle.plant_file.specs.Places.{place_of, keys_of, is_key, IsInEntry, IsIn, IsFaultOf}
use Rattle.plant_file.proofs.SectionRanges.{AreInRange-data_of}
use Rattle.plant_file.proofs.FaultPlaces.{AreAt, none_at, one_at, append_at, numbered_at, range_at}
use Rattle.plant_file.proofs.DocumentPlaces.{sections_at}
use Rattle.plant_rules.specs.Rules.{key_if, rule_faults, sum_faults, twice_faults}
use Rattle.plant_rules.specs.Links.{switch_unknown, unknown_faults, not_local_faults, no_pool_faults}
use Rattle.plant_rules.specs.PlantFile.{data_faults, file_of, file_in, file_of_text}
use Rattle.plant_rules.proofs.FileOf.{file_of-Err}

-- What a rule names are keys of its section.
record AreKeys (section : Section) (named : List Field) : Type 0 where
  each : AllByRecursion (λ field. is_key section field ≡ true) named

module _ {section : Section} where
  append_keys : {front behind : List Field} → AreKeys section front → AreKeys section behind → AreKeys section (front ++ behind)
  append_keys {front = []} are more = more
  append_keys {front = field ∷ front} are more =
      let rest : AreKeys section front = record { each = are.each.1 } in
      record { each = (are.each.0, (append_keys rest more).each) }

  key_if_is : (is_so : Bool) (field : Field) → is_key section field ≡ true → AreKeys section (key_if is_so field)
  key_if_is true field is = record { each = (is, tt) }
  key_if_is false field is = record { each = tt }

switch_keys : (file : FileData) (switch : Option SwitchEntry) → AreKeys sections.Bus (switch_unknown file switch)
switch_keys file None = record { each = tt }
switch_keys file (Some switch) = append_keys (key_if_is _ fields.SwitchLevel refl) (key_if_is _ fields.SwitchDestination refl)

module _ (document : Members) where
  named_at : (fault : Place → PlantFault) → ((at : Place) → place_of (fault at) ≡ Some at) → (section : Section) (number : ℕ) → number < length (section_entries (keys_of section) document) →
      (named : List Field) → AllByRecursion (λ field. is_key section field ≡ true) named → AreAt (IsIn document) (map (λ field. fault (place section number field)) named)
  named_at fault at section number there [] are = none_at
  named_at fault at section number there (field ∷ more) are =
      let in_entry : IsInEntry document (place section number field) = record { key = are.0; entry = there } in
      append_at (one_at (fault (place section number field)) (rw (at (place section number field)) (inl in_entry))) (named_at fault at section number there more are.1)

  rule_at : {X : Type 0} (fault : Place → PlantFault) → ((at : Place) → place_of (fault at) ≡ Some at) → (section : Section) (rule : List X → X → List Field) (entries : List X) →
      length entries ≡ length (section_entries (keys_of section) document) → ((before : List X) (entry : X) → AreKeys section (rule before entry)) →
      AreAt (IsIn document) (rule_faults fault section rule entries)
  rule_at {X} fault at section rule entries same are =
      numbered_at (λ (numbered : ℕ × X). map (λ field. fault (place section numbered.0 field)) (rule (take numbered.0 entries) numbered.1)) entries (λ k d within.
      named_at fault at section k (rw (← same) within) _ (are _ _).each)

  twice_at : AreAt (IsIn document) (twice_faults (data_of document))
  unfolding data_of twice_faults
  twice_at = search (append_at, rule_at, append_keys, key_if_is, length-map) depth 20

  unknown_at : AreAt (IsIn document) (unknown_faults (data_of document))
  unfolding data_of unknown_faults
  unknown_at = search (append_at, rule_at, append_keys, key_if_is, switch_keys, length-map) depth 20

  not_local_at : AreAt (IsIn document) (not_local_faults (data_of document))
  unfolding data_of not_local_faults
  not_local_at = search (append_at, rule_at, key_if_is, length-map)

  no_pool_at : AreAt (IsIn document) (no_pool_faults (data_of document))
  unfolding data_of no_pool_faults
  no_pool_at = search (rule_at, key_if_is, length-map)

  -- the sums are at the first level, which is there where no section has a fault
  sums_at : sections_faults document ≡ [] → AreAt (IsIn document) (sum_faults (data_of document))
  unfolding data_of sum_faults
  sums_at none =
      let some : 1 ≤ length (map level_entry (section_entries level_keys document)) = (AreInRange-data_of document none).levels.0.0 in
      let there : 0 < length (section_entries level_keys document) = rw length-map at some in
      let at : Field → Place = place sections.Level 0 in
      let sources : IsInEntry document (at fields.Sources) = record { key = refl; entry = there } in
      let destinations : IsInEntry document (at fields.Destinations) = record { key = refl; entry = there } in
      let levels : List LevelData = (data_of document).levels in
      append_at (range_at (at fields.Sources) (inl sources) (pos (sum_by (λ level. level.sources) levels)) 1 all_sources_limit)
      (range_at (at fields.Destinations) (inl destinations) (pos (sum_by (λ level. level.destinations) levels)) 1 all_destinations_limit)

  data_at : sections_faults document ≡ [] → AreAt (IsIn document) (data_faults (data_of document))
  data_at none = append_at (append_at (append_at (append_at (sums_at none) twice_at) unknown_at) not_local_at) no_pool_at

-- the first of two lists, of which the other one matters where that one is empty
first_at : {IsRight : Place → Type 0} (front behind : List PlantFault) (fault : PlantFault) → AreAt IsRight front → (front ≡ [] → AreAt IsRight behind) →
    first_fault (front ++ behind) ≡ Some fault → IsSomeAnd (place_of fault) IsRight
first_at [] [] fault at after is = cc
first_at {IsRight} [] (one ∷ more) fault at after is =
    let same : one ≡ fault = cc in
    subst (λ other. IsSomeAnd (place_of other) IsRight) same (after refl).each.0
first_at {IsRight} (one ∷ more) behind fault at after is =
    let same : one ≡ fault = cc in
    subst (λ other. IsSomeAnd (place_of other) IsRight) same at.each.0

document_at : (document : Members) → ForErr (file_of document) (λ fault. IsSomeAnd (place_of fault) (IsIn document))
document_at document fault is =
    first_at (sections_faults document) (data_faults (data_of document)) fault (sections_at document) (data_at document) (file_of-Err document fault is)

-- the document of a text, where it is one
parsed_at : (parsed : Option Members) (fault : PlantFault) → file_in (option_map_or (λ document. Ok document) parsed (Err NotToml)) ≡ Err fault →
    (fault ≡ NotToml) ⊎ IsSomeAnd parsed (λ document. IsSomeAnd (place_of fault) (IsIn document))
parsed_at None fault is = inl (cc)
parsed_at (Some document) fault is = inr (document_at document fault is)

text_at : (utf8 : Bool) (parsed : Option Members) (fault : PlantFault) → file_in (cond utf8 (option_map_or (λ document. Ok document) parsed (Err NotToml)) (Err NotToml)) ≡ Err fault →
    (fault ≡ NotToml) ⊎ IsSomeAnd parsed (λ document. IsSomeAnd (place_of fault) (IsIn document))
text_at true parsed fault is = parsed_at parsed fault is
text_at false parsed fault is = inl (cc)

pub IsFaultOf-file_of_text : (text : List ℕ) → ForErr (file_of_text text) (IsFaultOf text)
unfolding file_of_text document_answer
IsFaultOf-file_of_text text fault is = text_at (is_utf8 text) (parse_document text) fault is
