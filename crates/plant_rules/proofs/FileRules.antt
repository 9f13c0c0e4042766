-- Data without a fault are a plant file: no two entries are the same, and each names what the plant has.
use Rattle.std.proofs.Common.{◌≡◌, ℕ, List, [], map, All, MatchOption, Option, Some, None, false, true, Result, Ok, Err, subst}
use Rattle.std.proofs.lemmas.Bool.{eqb-false}
use Rattle.std.specs.Result.{ForOk}
use Rattle.toml.specs.Data.{Members}
use Rattle.plant_file.specs.declared.fault.Section.{Section}
use Rattle.plant_file.specs.declared.fault.Field.{Field}
use Rattle.plant_file.specs.declared.fault.Section.TheVariants as sections
use Rattle.plant_file.specs.declared.fault.Field.TheVariants as fields
use Rattle.plant_file.specs.declared.fault.PlantFault.{PlantFault}
use Rattle.plant_file.specs.declared.fault.PlantFault.TheVariants.{Twice, NoSuchThing, NoPool, NotLocal}
use Rattle.plant_file.specs.Limits.{all_sources_limit, all_destinations_limit}
use Rattle.plant_file.specs.KeyFaults.{place, sections_faults}
use Rattle.plant_file.specs.Reading.{data_of}
use Rattle.plant_file.specs.DataOfText.{document_answer}
use Rattle.plant_file.specs.FileData.{LevelData, FileData}
use Rattle.plant_file.specs.declared.entries.RemoteEntry.{RemoteEntry}
use Rattle.plant_file.specs.declared.entries.PoolEntry.{PoolEntry}
use Rattle.plant_file.specs.declared.entries.DeviceEntry.{DeviceEntry}
use Rattle.plant_file.specs.declared.entries.SwitchEntry.{SwitchEntry}
use Rattle.plant_file.specs.declared.entries.BusEntry.{BusEntry}
use Rattle.plant_rules.specs.Rules.{sum_faults, twice_faults, rule_faults, level_key, remote_key, pool_key, output_key, bus_key, root_key, display_key, panel_key, level_twice, device_twice, twice_at}
use Rattle.plant_rules.specs.Links.{unknown_faults, not_local_faults, no_pool_faults, remote_unknown, pool_unknown, device_unknown, bus_unknown, switch_unknown, destination_unknown, is_remote, has_pool, main_level}
use Rattle.plant_rules.specs.PlantFile.{data_faults, file_of, file_in, file_of_text}
use Rattle.plant_file.specs.Ranges.{AreInRange}
use Rattle.plant_rules.specs.IsFile.{AllDiffer, IsLinkedRemote, IsLinkedPool, IsLinkedDevice, IsLinkedSwitch, IsLinkedBus, IsMainDestination, IsFile}
use Rattle.plant_rules.proofs.LinkRules.{root_unknown, display_unknown, remote_remote, device_remote, remote_unpooled}
use Rattle.plant_file.proofs.NoFault.{append_none}
use Rattle.plant_file.proofs.KeyRanges.{range_right}
use Rattle.plant_file.proofs.SectionRanges.{AreInRange-data_of}
use Rattle.plant_rules.proofs.FileOf.{file_of-Ok}
use Rattle.plant_rules.proofs.NoRuleBroken.{key_if_none, key_unless_none, rule_none, each_none, twice_none, has_twice_none}

module _ (file : FileData) where
  -- what the entries are that name only what the plant has
  remote_linked : (remote : RemoteEntry) → remote_unknown file remote ≡ [] → is_remote file remote.from remote.level remote.from_source ≡ false →
      has_pool file remote.from remote.matrix remote.level ≡ true → IsLinkedRemote file remote
  remote_linked remote none local pool =
      let origin = append_none _ _ none in
      let other = append_none _ _ origin.0 in
      let from = append_none _ _ other.0 in
      let own = append_none _ _ from.0 in
      record {
        own = key_unless_none _ fields.Source own.1;
        other = eqb-false remote.from remote.matrix (key_if_none _ fields.From other.1);
        origin = key_unless_none _ fields.FromSource origin.1;
        local = local;
        pool = pool;
      }

  pool_linked : (pool : PoolEntry) → pool_unknown file pool ≡ [] → IsLinkedPool file pool
  pool_linked pool none =
      let other = append_none _ _ none in
      let ends = append_none _ _ other.0 in
      record {
        from = key_unless_none _ fields.From ends.0;
        to = key_unless_none _ fields.To ends.1;
        other = eqb-false pool.from pool.to (key_if_none _ fields.To other.1);
      }

  device_linked : (device : DeviceEntry) → device_unknown file device ≡ [] → is_remote file device.matrix main_level device.source ≡ false → IsLinkedDevice file device
  device_linked device none local = record { output = key_unless_none _ fields.Source (append_none _ _ none).1; local = local }

  destination_linked : (matrix destination : ℕ) → destination_unknown file matrix destination ≡ [] → IsMainDestination file matrix destination
  destination_linked matrix destination none = key_unless_none _ fields.Destination (append_none _ _ none).1

  switch_linked : (switch : Option SwitchEntry) → switch_unknown file switch ≡ [] → MatchOption switch Unit (IsLinkedSwitch file)
  switch_linked None none = tt
  switch_linked (Some switch) none = key_unless_none _ fields.SwitchDestination (append_none _ _ none).1

  bus_linked : (bus : BusEntry) → bus_unknown file bus ≡ [] → IsLinkedBus file bus
  bus_linked bus none =
      let switch = append_none _ _ none in
      let own = append_none _ _ switch.0 in
      record {
        device = key_unless_none _ fields.Device own.0;
        destination = destination_linked bus.matrix bus.destination own.1;
        switch = switch_linked bus.switch switch.1;
      }

-- entries of which none has the key of one in front of it have different keys
apart : {X : Type 0} (section : Section) (field : Field) (same : X → List ℕ) (entries : List X) → rule_faults Twice section (twice_at field same) entries ≡ [] → AllDiffer (map same entries)
apart section field same entries none = twice_none field same entries (rule_none Twice section (twice_at field same) entries none)

levels_apart : (levels : List LevelData) → rule_faults Twice sections.Level level_twice levels ≡ [] →
    AllDiffer (map level_key levels) × All (λ level. AllDiffer level.source_names × AllDiffer level.destination_names) levels
levels_apart levels none =
    let keys = rule_none Twice sections.Level level_twice levels none in (
      twice_none fields.Level level_key levels (λ k d within. (append_none _ _ (append_none _ _ (keys k d within)).0).0),
      λ k d within.
          let names = append_none _ _ (keys k d within) in
          (has_twice_none _ (key_if_none _ fields.SourceNames (append_none _ _ names.0).1), has_twice_none _ (key_if_none _ fields.DestinationNames names.1)),
    )

devices_apart : (devices : List DeviceEntry) → rule_faults Twice sections.Device device_twice devices ≡ [] →
    AllDiffer (map (λ device. device.name) devices) × AllDiffer (map output_key devices)
devices_apart devices none =
    let keys = rule_none Twice sections.Device device_twice devices none in (
      twice_none fields.Name (λ device. device.name) devices (λ k d within. (append_none _ _ (keys k d within)).0),
      twice_none fields.Source output_key devices (λ k d within. (append_none _ _ (keys k d within)).1),
    )

-- data within their ranges that have no fault
pub IsFile-from_none : (file : FileData) → AreInRange file → data_faults file ≡ [] → IsFile file
unfolding sum_faults twice_faults unknown_faults not_local_faults no_pool_faults
IsFile-from_none file ranges none =
    let pooled = append_none _ _ none in
    let local = append_none _ _ pooled.0 in
    let known = append_none _ _ local.0 in
    let differ = append_none _ _ known.0 in
    let sums = append_none _ _ differ.0 in
    let panels = append_none _ _ differ.1 in
    let displays = append_none _ _ panels.0 in
    let preview = append_none _ _ displays.0 in
    let air = append_none _ _ preview.0 in
    let buses = append_none _ _ air.0 in
    let devices = append_none _ _ buses.0 in
    let pools = append_none _ _ devices.0 in
    let levels = append_none _ _ pools.0 in
    let levels_differ = levels_apart file.levels levels.0 in
    let devices_differ = devices_apart file.devices devices.1 in
    let known_displays = append_none _ _ known.1 in
    let known_preview = append_none _ _ known_displays.0 in
    let known_air = append_none _ _ known_preview.0 in
    let known_buses = append_none _ _ known_air.0 in
    let known_devices = append_none _ _ known_buses.0 in
    let known_pools = append_none _ _ known_devices.0 in
    let local_devices = append_none _ _ local.1 in
    record {
      ranges = ranges;
      sources = (range_right (place sections.Level 0 fields.Sources) _ 1 all_sources_limit sums.0).1;
      destinations = (range_right (place sections.Level 0 fields.Destinations) _ 1 all_destinations_limit sums.1).1;
      levels_differ = levels_differ.0;
      names_differ = levels_differ.1;
      remotes_differ = apart sections.Remote fields.Source remote_key file.remotes levels.1;
      pools_differ = apart sections.Pool fields.Level pool_key file.pools pools.1;
      devices_differ = devices_differ.0;
      outputs_differ = devices_differ.1;
      buses_differ = apart sections.Bus fields.Destination bus_key file.buses buses.1;
      air_differs = apart sections.Air fields.Destination root_key file.air air.1;
      preview_differs = apart sections.Preview fields.Destination root_key file.preview preview.1;
      displays_differ = apart sections.Display fields.Index display_key file.displays displays.1;
      ports_differ = apart sections.Panel fields.Port panel_key file.panels panels.1;
      remotes = λ k d within. remote_linked file _
          (each_none NoSuchThing sections.Remote (remote_unknown file) file.remotes known_pools.0 k d within)
          (key_if_none _ fields.FromSource (each_none NotLocal sections.Remote (remote_remote file) file.remotes local_devices.0 k d within))
          (key_unless_none _ fields.From (each_none NoPool sections.Remote (remote_unpooled file) file.remotes pooled.1 k d within));
      pools = λ k d within. pool_linked file _ (each_none NoSuchThing sections.Pool (pool_unknown file) file.pools known_pools.1 k d within);
      devices = λ k d within. device_linked file _
          (each_none NoSuchThing sections.Device (device_unknown file) file.devices known_devices.1 k d within)
          (key_if_none _ fields.Source (each_none NotLocal sections.Device (device_remote file) file.devices local_devices.1 k d within));
      buses = λ k d within. bus_linked file _ (each_none NoSuchThing sections.Bus (bus_unknown file) file.buses known_buses.1 k d within);
      air = λ k d within. destination_linked file _ _ (each_none NoSuchThing sections.Air (root_unknown file) file.air known_air.1 k d within);
      preview = λ k d within. destination_linked file _ _ (each_none NoSuchThing sections.Preview (root_unknown file) file.preview known_preview.1 k d within);
      displays = λ k d within. destination_linked file _ _ (each_none NoSuchThing sections.Display (display_unknown file) file.displays known_displays.1 k d within);
    }

-- the plant of a document, and of a text
IsFile-file_of : (document : Members) → ForOk (file_of document) IsFile
IsFile-file_of document file is =
    let known = file_of-Ok document file is in
    let parts = append_none (sections_faults document) (data_faults (data_of document)) known.1 in
    subst IsFile known.0 (IsFile-from_none (data_of document) (AreInRange-data_of document parts.0) parts.1)

IsFile-file_in : (document : Result Members PlantFault) → ForOk (file_in document) IsFile
IsFile-file_in (Ok document) file is = IsFile-file_of document file is
IsFile-file_in (Err fault) file is = cc

pub IsFile-file_of_text : (text : List ℕ) → ForOk (file_of_text text) IsFile
unfolding file_of_text
IsFile-file_of_text text file is = IsFile-file_in (document_answer text) file is
