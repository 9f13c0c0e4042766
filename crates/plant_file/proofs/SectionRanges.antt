-- The data of a document whose sections have no fault are within their ranges.
use Rattle.std.proofs.Common.{◌≡◌, ℕ, pos, ◌<◌, Bool, true, false, cond, List, [], ◌∷◌, map, length, drop, All, filter_map, Option, Some, None, is_some, suc, refl, ap, arith}
use Rattle.std.specs.List.{AllByRecursion, list_all}
use Rattle.std.proofs.lemmas.List.{length-map}
use Rattle.std.proofs.lemmas.List.Elements.{All-map}
use Rattle.toml.specs.Data.{Data, array, table, Members, no_members, get_member, as_table}
use Rattle.plant_file.specs.declared.fault.Section.{Section}
use Rattle.plant_file.specs.declared.fault.Section.TheVariants as sections
use Rattle.plant_file.specs.declared.fault.Field.TheVariants as fields
use Rattle.plant_file.specs.declared.fault.Place.{Place}
use Rattle.plant_file.specs.declared.fault.PlantFault.{PlantFault}
use Rattle.plant_file.specs.Spelling.{section_name}
use Rattle.plant_file.specs.Rows.{OneTable, Entries, SectionKeys}
use Rattle.plant_file.specs.Format.{top_keys, server_keys, level_keys, remote_keys, pool_keys, device_keys, bus_keys, root_keys, display_keys, panel_keys, file_format}
use Rattle.plant_file.specs.Document.{values, text_for, entries_found, section_entries}
use Rattle.plant_file.specs.KeyFaults.{place, range_faults, entry_faults, form_faults, section_faults, sections_faults}
use Rattle.plant_file.specs.Reading.{server_entry, level_entry, remote_entry, pool_entry, device_entry, bus_entry, root_entry, display_entry, panel_entry, data_of}
use Rattle.plant_file.specs.Ranges.{IsFrom, IsWords, AreEntries, AreInRange, IsServer, IsLevelData, IsRemoteEntry, IsPoolEntry, IsDeviceEntry, IsBusEntry, IsRootEntry, IsDisplayEntry, IsPanelEntry}
use Rattle.plant_file.proofs.NoFault.{append_none, flat_map_none, numbered_none}
use Rattle.plant_file.proofs.KeyRanges.{range_right}
use Rattle.plant_file.proofs.EntryRanges.{title_right, server_right, level_right, remote_right, pool_right, device_right, bus_right, root_right, display_right, panel_right}

-- an array of tables has as many tables as values
tables_are : (all : List Data) → list_all (λ value. is_some (as_table value)) all ≡ true → length (filter_map as_table all) ≡ length all
tables_are [] are = refl
tables_are (table entry ∷ more) are = ap suc (tables_are more are)
tables_are (value ∷ more) are = cc

-- a section that has entries has a right count of them
array_right : (at : Place) (least most : ℕ) (fault : PlantFault) (all : List Data) (are : Bool) → list_all (λ value. is_some (as_table value)) all ≡ are →
    cond are (range_faults at (pos (length all)) least most) (fault ∷ []) ≡ [] → IsFrom least most (length (filter_map as_table all))
array_right at least most fault all true are none = rw (tables_are all are) (range_right at (length all) least most none)
array_right at least most fault all false are none = cc

form_right : (at : Place) (least most : ℕ) (document : Members) (found : Option Data) →
    form_faults at (Entries least most) found ≡ [] → IsFrom least most (length (entries_found (Entries least most) document found))
form_right at least most document (Some (array items)) none = array_right at least most _ (values items) _ refl none
form_right at least most document (Some value) none = cc
form_right at least most document None none = range_right at 0 least most none

module _ {X : Type 0} (IsRight : X → Type 0) (read : Members → X) where
  -- each entry of a section that has no fault
  entries_right : (section : SectionKeys) → ((number : ℕ) (entry : Members) → entry_faults section number entry ≡ [] → IsRight (read entry)) →
      (document : Members) → section_faults document section ≡ [] → All (λ entry. IsRight (read entry)) (section_entries section document)
  unfolding section_faults
  entries_right section right document none k d within =
      right k _ (numbered_none (λ (numbered : ℕ × Members). entry_faults section numbered.0 numbered.1) (section_entries section document) (append_none _ _ none).1 k d within)

  section_right : (section : SectionKeys) (least most : ℕ) → section.form ≡ Entries least most →
      ((number : ℕ) (entry : Members) → entry_faults section number entry ≡ [] → IsRight (read entry)) →
      (document : Members) → section_faults document section ≡ [] → AreEntries IsRight least most (map read (section_entries section document))
  unfolding section_faults
  section_right section least most is right document none =
      let at : Place = place section.section 0 fields.Whole in
      let found : Option Data = get_member (section_name section.section) document in
      let fits : form_faults at section.form found ≡ [] = (append_none _ _ none).0 in
      let count = form_right at least most document found (rw is at fits) in
      (rw (length-map, is) count, All-map IsRight read _ (entries_right section right document none))

-- a section that is one table has an entry
one_table : (document : Members) (found : Option Data) → 0 < length (entries_found OneTable document found)
one_table document (Some (table entry)) = omega arith
one_table document (Some value) = omega arith
one_table document None = omega arith

roots_right : (section : Section) (document : Members) → section_faults document (root_keys section) ≡ [] →
    AreEntries IsRootEntry 0 65536 (map (root_entry section) (section_entries (root_keys section) document))
roots_right section = section_right IsRootEntry (root_entry section) (root_keys section) 0 65536 refl (λ number entry. root_right number entry section)

-- the data of a document without a fault of its sections
pub AreInRange-data_of : (document : Members) → sections_faults document ≡ [] → AreInRange (data_of document)
unfolding data_of
AreInRange-data_of document none =
    let right : AllByRecursion (λ section. section_faults document section ≡ []) file_format = flat_map_none (section_faults document) file_format none in
    let after : AllByRecursion (λ section. section_faults document section ≡ []) (drop 2 file_format) = right.1.1 in
    record {
      title = entries_right (IsWords 1 40) (text_for top_keys fields.Title) top_keys title_right document right.0 0 document (omega arith);
      server = entries_right IsServer server_entry server_keys server_right document right.1.0 0 no_members (one_table document _);
      levels = section_right IsLevelData level_entry level_keys 1 256 refl level_right document after.0;
      remotes = section_right IsRemoteEntry remote_entry remote_keys 0 16384 refl remote_right document after.1.0;
      pools = section_right IsPoolEntry pool_entry pool_keys 0 256 refl pool_right document after.1.1.0;
      devices = section_right IsDeviceEntry device_entry device_keys 0 64 refl device_right document after.1.1.1.0;
      buses = section_right IsBusEntry bus_entry bus_keys 0 1024 refl bus_right document after.1.1.1.1.0;
      air = roots_right sections.Air document after.1.1.1.1.1.0;
      preview = roots_right sections.Preview document after.1.1.1.1.1.1.0;
      displays = section_right IsDisplayEntry display_entry display_keys 0 4096 refl display_right document after.1.1.1.1.1.1.1.0;
      panels = section_right IsPanelEntry panel_entry panel_keys 1 64 refl panel_right document after.1.1.1.1.1.1.1.1.0;
    }
