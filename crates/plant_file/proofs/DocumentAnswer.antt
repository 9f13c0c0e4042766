-- What the sections of a document answer, one behind the other.
use Rattle.std.proofs.Common.{◌≡◌, ℕ, List, [], ◌∷◌, map, Result, Ok, Err, refl, sym, ◌∙◌, inl, inr}
use Rattle.toml.specs.Data.{Members}
use Rattle.plant_file.specs.declared.fault.Section.TheVariants as sections
use Rattle.plant_file.specs.declared.fault.Field.TheVariants as fields
use Rattle.plant_file.specs.declared.fault.PlantFault.{PlantFault}
use Rattle.plant_file.specs.Rows.{SectionKeys}
use Rattle.plant_file.specs.Format.{top_keys, server_keys, level_keys, remote_keys, pool_keys, device_keys, bus_keys, root_keys, display_keys, panel_keys, file_format}
use Rattle.plant_file.specs.Document.{section_entries, text_for}
use Rattle.plant_file.specs.FirstFault.{first_fault, unless_fault, Answers}
use Rattle.plant_file.specs.KeyFaults.{section_faults, sections_faults}
use Rattle.plant_file.specs.FileData.{Server, LevelData, RemoteEntry, PoolEntry, DeviceEntry, BusEntry, RootEntry, DisplayEntry, PanelEntry}
use Rattle.plant_file.specs.Reading.{server_entry, level_entry, remote_entry, pool_entry, device_entry, bus_entry, root_entry, display_entry, panel_entry, only_entry, data_of}
use Rattle.plant_file.specs.ReadingInside.{only_answer, section_answer, sections_answer}
use Rattle.plant_file.proofs.ReadingInside.{behind, stops, value}

-- a section without a fault
pub sections-Ok : {X Y : Type 0} (x : List X) (as_data : Members → X) (section : SectionKeys) (document : Members) (read : Y) (more : List SectionKeys) → Ok x ≡ section_answer as_data section document
    → sections_answer read document (section ∷ more) ≡ sections_answer read document more
unfolding section_answer sections_answer
sections-Ok x as_data section document read more is = behind _ x read (section_faults document section) _ is

pub section-value : {X : Type 0} (x : List X) (as_data : Members → X) (section : SectionKeys) (document : Members) → Ok x ≡ section_answer as_data section document → map as_data (section_entries section document) ≡ x
unfolding section_answer
section-value x as_data section document is = value _ x (section_faults document section) is

pub only-Ok : {X Y : Type 0} (x : X) (as_data : Members → X) (section : SectionKeys) (document : Members) (read : Y) (more : List SectionKeys) → Ok x ≡ only_answer as_data section document
    → sections_answer read document (section ∷ more) ≡ sections_answer read document more
unfolding only_answer sections_answer
only-Ok x as_data section document read more is = behind _ x read (section_faults document section) _ is

pub only-value : {X : Type 0} (x : X) (as_data : Members → X) (section : SectionKeys) (document : Members) → Ok x ≡ only_answer as_data section document → as_data (only_entry section document) ≡ x
unfolding only_answer
only-value x as_data section document is = value _ x (section_faults document section) is

-- a fault of a section, or want of memory, is that of the document
pub sections-fails : {X Y : Type 0} (fault : PlantFault) (as_data : Members → X) (section : SectionKeys) (document : Members) (read : Y) (more : List SectionKeys) (wanted : Result Y PlantFault) → wanted ≡ sections_answer read document (section ∷ more)
    → Answers (Err fault) (section_answer as_data section document)
    → Answers (Err fault) wanted
unfolding section_answer sections_answer
sections-fails fault as_data section document read more wanted left (inl is) = inl (sym (left ∙ stops _ fault read (section_faults document section) _ is))
sections-fails fault as_data section document read more wanted left (inr none) = inr cc

pub only-fails : {X Y : Type 0} (fault : PlantFault) (as_data : Members → X) (section : SectionKeys) (document : Members) (read : Y) (more : List SectionKeys) (wanted : Result Y PlantFault) → wanted ≡ sections_answer read document (section ∷ more)
    → Answers (Err fault) (only_answer as_data section document)
    → Answers (Err fault) wanted
unfolding only_answer sections_answer
only-fails fault as_data section document read more wanted left (inl is) = inl (sym (left ∙ stops _ fault read (section_faults document section) _ is))
only-fails fault as_data section document read more wanted left (inr none) = inr cc

pub sections-none : {Y : Type 0} (document : Members) (read : Y) → sections_answer read document [] ≡ Ok read
unfolding sections_answer
sections-none document read = refl

-- the data, of what was read of each section
pub data-read : (document : Members) (title : List ℕ) (server : Server) (levels : List LevelData) (remotes : List RemoteEntry) (pools : List PoolEntry) (devices : List DeviceEntry) (buses : List BusEntry) (air : List RootEntry) (preview : List RootEntry) (displays : List DisplayEntry) (panels : List PanelEntry)
    → text_for top_keys fields.Title document ≡ title
    → server_entry (only_entry server_keys document) ≡ server
    → map level_entry (section_entries level_keys document) ≡ levels
    → map remote_entry (section_entries remote_keys document) ≡ remotes
    → map pool_entry (section_entries pool_keys document) ≡ pools
    → map device_entry (section_entries device_keys document) ≡ devices
    → map bus_entry (section_entries bus_keys document) ≡ buses
    → map (root_entry sections.Air) (section_entries (root_keys sections.Air) document) ≡ air
    → map (root_entry sections.Preview) (section_entries (root_keys sections.Preview) document) ≡ preview
    → map display_entry (section_entries display_keys document) ≡ displays
    → map panel_entry (section_entries panel_keys document) ≡ panels
    → data_of document ≡ record { title = title; server = server; levels = levels; remotes = remotes; pools = pools; devices = devices; buses = buses; air = air; preview = preview; displays = displays; panels = panels }
unfolding data_of
data-read document title server levels remotes pools devices buses air preview displays panels title_is server_is levels_is remotes_is pools_is devices_is buses_is air_is preview_is displays_is panels_is =
    rw (title_is, server_is, levels_is, remotes_is, pools_is, devices_is, buses_is, air_is, preview_is, displays_is, panels_is) refl

-- all sections of a document
pub sections-all : (document : Members) → unless_fault (data_of document) (first_fault (sections_faults document)) ≡ sections_answer (data_of document) document file_format
unfolding sections_answer
sections-all document = refl
