-- The first places of the sections: of the levels, of the devices, and of a whole file.
use Rattle.std.proofs.Common.{◌≡◌, List, map, option_map, sym, ap, ◌∙◌, append_assoc}
use Rattle.std.proofs.lemmas.Simd.{map-map}
use Rattle.plant_file.specs.declared.fault.Section.TheVariants as sections
use Rattle.plant_file.specs.declared.fault.Field.TheVariants as fields
use Rattle.plant_file.specs.declared.fault.PlantFault.TheVariants.{Twice}
use Rattle.plant_file.specs.FirstFault.{first_fault}
use Rattle.plant_file.specs.FileData.{LevelData, FileData}
use Rattle.plant_file.specs.declared.entries.DeviceEntry.{DeviceEntry}
use Rattle.plant_file.specs.KeyFaults.{place}
use Rattle.plant_rules.specs.Rules.{key_if, has_twice, twice_at, level_key, level_twice, output_key, device_twice, twice_faults}
use Rattle.plant_rules.specs.RulesInside.{first_place, first_twice, earlier, names_twice, twice_place}
use Rattle.plant_file.proofs.FirstFault.{first_fault-append}
use Rattle.plant_rules.proofs.RulesLemmas.{first_fault-rule_faults, option_map-option_or}
use Rattle.plant_rules.proofs.EarlierLemmas.{both, first_place-both}
use Rattle.plant_rules.proofs.TwiceLemmas.{first_place-twice_at}

-- a level's rule is that of its key, and then that of its names
level_twice-parts : (before : List LevelData) (level : LevelData) → level_twice before level ≡ both (twice_at fields.Level level_key) (λ _. names_twice) before level
level_twice-parts before level = append_assoc (twice_at fields.Level level_key before level) (key_if (has_twice level.source_names) fields.SourceNames) (key_if (has_twice level.destination_names) fields.DestinationNames)

pub first_place-levels : (levels : List LevelData) → first_place sections.Level level_twice levels ≡ earlier (first_place sections.Level (twice_at fields.Level level_key) levels) (first_place sections.Level (λ _. names_twice) levels)
first_place-levels levels =
    (λ i. first_place sections.Level (λ before level. level_twice-parts before level i) levels)
    ∙ first_place-both sections.Level (twice_at fields.Level level_key) (λ _. names_twice) levels

-- devices of one name, by the list of their names
first_place-names : (devices : List DeviceEntry) → first_place sections.Device (twice_at fields.Name (λ device. device.name)) devices ≡ first_place sections.Device (twice_at fields.Name (λ name. name)) (map (λ device. device.name) devices)
first_place-names devices =
    first_place-twice_at (λ (device : DeviceEntry). device.name) sections.Device fields.Name devices
    ∙ ap (λ names. option_map (λ n. place sections.Device n fields.Name) (first_twice names)) (sym (map-map (λ name. name) (λ (device : DeviceEntry). device.name) devices))
    ∙ sym (first_place-twice_at (λ name. name) sections.Device fields.Name (map (λ (device : DeviceEntry). device.name) devices))

pub first_place-devices : (devices : List DeviceEntry) → first_place sections.Device device_twice devices ≡ earlier (first_place sections.Device (twice_at fields.Name (λ name. name)) (map (λ device. device.name) devices)) (first_place sections.Device (twice_at fields.Source output_key) devices)
first_place-devices devices =
    first_place-both sections.Device (twice_at fields.Name (λ device. device.name)) (twice_at fields.Source output_key) devices
    ∙ ap (λ names. earlier names (first_place sections.Device (twice_at fields.Source output_key) devices)) (first_place-names devices)

pub first_fault-twice_faults : (file : FileData) → first_fault (twice_faults file) ≡ option_map Twice (twice_place file)
unfolding twice_faults twice_place
first_fault-twice_faults file = simp (first_fault-append, first_fault-rule_faults, option_map-option_or)
