-- A plant file's data have no fault.
use Rattle.std.proofs.Common.{◌≡◌, ℕ, pos, ◌≤◌, ◌==◌, ◌&&◌, nat_lt, true, List, [], ◌∷◌, length, All, sum_by, map, Option, Some, None, MatchOption, refl, arith, ne_eqb, le_trans}
use Rattle.std.proofs.lemmas.Bool.{and_parts}
use Rattle.std.proofs.lemmas.List.Sums.{get_or-le-sum_by}
use Rattle.plant_file.specs.declared.fault.Section.{Section}
use Rattle.plant_file.specs.declared.fault.Section.TheVariants as sections
use Rattle.plant_file.specs.declared.fault.Field.{Field}
use Rattle.plant_file.specs.declared.fault.Field.TheVariants as fields
use Rattle.plant_file.specs.declared.fault.Place.{Place}
use Rattle.plant_file.specs.declared.fault.PlantFault.TheVariants.{Twice, NoSuchThing, NoPool, NotLocal}
use Rattle.plant_file.specs.Limits.{all_sources_limit, all_destinations_limit}
use Rattle.plant_file.specs.KeyFaults.{place, range_faults}
use Rattle.plant_file.specs.FileData.{LevelData, FileData}
use Rattle.plant_file.specs.declared.entries.RemoteEntry.{RemoteEntry}
use Rattle.plant_file.specs.declared.entries.PoolEntry.{PoolEntry}
use Rattle.plant_file.specs.declared.entries.DeviceEntry.{DeviceEntry}
use Rattle.plant_file.specs.declared.entries.SwitchEntry.{SwitchEntry}
use Rattle.plant_file.specs.declared.entries.BusEntry.{BusEntry}
use Rattle.plant_rules.specs.Rules.{sum_faults, twice_faults, rule_faults, level_key, level_twice, device_twice, output_key, twice_at, remote_key, pool_key, bus_key, root_key, display_key, panel_key}
use Rattle.plant_rules.specs.Links.{has_level, has_source, has_destination, main_level, unknown_faults, not_local_faults, no_pool_faults, remote_unknown, pool_unknown, device_unknown, bus_unknown, switch_unknown, destination_unknown}
use Rattle.plant_rules.specs.PlantFile.{data_faults}
use Rattle.plant_file.specs.Ranges.{IsLevelData}
use Rattle.plant_rules.specs.IsFile.{AllDiffer, IsLinkedRemote, IsLinkedPool, IsLinkedDevice, IsLinkedSwitch, IsLinkedBus, IsMainDestination, IsFile}
use Rattle.plant_rules.proofs.LinkRules.{root_unknown, display_unknown, remote_remote, device_remote, remote_unpooled}
use Rattle.plant_rules.proofs.RulesHold.{append_empty, range_empty, key_if_empty, key_unless_empty, rule_empty, each_empty, twice_empty, has_twice_empty, any_weaker}

module _ (file : FileData) where
  -- who has a source or a destination of a level has the level
  level_of_source : (matrix level source : ℕ) → has_source file matrix level source ≡ true → has_level file matrix level ≡ true
  level_of_source matrix level source =
      any_weaker (λ (at : LevelData). at.matrix == matrix && at.level == level && nat_lt source at.sources) (λ (at : LevelData). at.matrix == matrix && at.level == level) (λ at there. (and_parts _ _ there).0) file.levels

  level_of_destination : (matrix level destination : ℕ) → has_destination file matrix level destination ≡ true → has_level file matrix level ≡ true
  level_of_destination matrix level destination =
      any_weaker (λ (at : LevelData). at.matrix == matrix && at.level == level && nat_lt destination at.destinations) (λ (at : LevelData). at.matrix == matrix && at.level == level) (λ at there. (and_parts _ _ there).0) file.levels

  remote_known : (remote : RemoteEntry) → IsLinkedRemote file remote → remote_unknown file remote ≡ []
  remote_known remote linked =
      append_empty (append_empty (append_empty (append_empty
      (key_unless_empty _ fields.Matrix (level_of_source remote.matrix remote.level remote.source linked.own))
      (key_unless_empty _ fields.Source linked.own))
      (key_unless_empty _ fields.From (level_of_source remote.from remote.level remote.from_source linked.origin)))
      (key_if_empty _ fields.From (ne_eqb remote.from remote.matrix linked.other)))
      (key_unless_empty _ fields.FromSource linked.origin)

  pool_known : (pool : PoolEntry) → IsLinkedPool file pool → pool_unknown file pool ≡ []
  pool_known pool linked =
      append_empty (append_empty (key_unless_empty _ fields.From linked.from) (key_unless_empty _ fields.To linked.to))
      (key_if_empty _ fields.To (ne_eqb pool.from pool.to linked.other))

  device_known : (device : DeviceEntry) → IsLinkedDevice file device → device_unknown file device ≡ []
  device_known device linked =
      append_empty (key_unless_empty _ fields.Matrix (level_of_source device.matrix main_level device.source linked.output)) (key_unless_empty _ fields.Source linked.output)

  destination_known : (matrix destination : ℕ) → IsMainDestination file matrix destination → destination_unknown file matrix destination ≡ []
  destination_known matrix destination linked =
      append_empty (key_unless_empty _ fields.Matrix (level_of_destination matrix main_level destination linked)) (key_unless_empty _ fields.Destination linked)

  switch_known : (switch : Option SwitchEntry) → MatchOption switch Unit (IsLinkedSwitch file) → switch_unknown file switch ≡ []
  switch_known None linked = refl
  switch_known (Some switch) linked =
      append_empty (key_unless_empty _ fields.SwitchLevel (level_of_destination switch.matrix switch.level switch.destination linked)) (key_unless_empty _ fields.SwitchDestination linked)

  bus_known : (bus : BusEntry) → IsLinkedBus file bus → bus_unknown file bus ≡ []
  bus_known bus linked =
      append_empty (append_empty (key_unless_empty _ fields.Device linked.device) (destination_known bus.matrix bus.destination linked.destination))
      (switch_known bus.switch linked.switch)

-- a sum that is at most so many is at least one, since there is a level, and each has some
sum_holds : (at : Place) (count : LevelData → ℕ) (most : ℕ) (levels : List LevelData) → 1 ≤ length levels → ((level : LevelData) → IsLevelData level → 1 ≤ count level) →
    All IsLevelData levels → sum_by count levels ≤ most → range_faults at (pos (sum_by count levels)) 1 most ≡ []
sum_holds at count most [] some each right within = absurd (omega arith)
sum_holds at count most (level ∷ more) some each right within =
    range_empty at _ 1 most (le_trans (each level (right 0 level (omega arith))) (get_or-le-sum_by count (level ∷ more) 0 level (omega arith))) within

-- entries with different keys
apart_empty : {X : Type 0} (section : Section) (field : Field) (same : X → List ℕ) (entries : List X) → AllDiffer (map same entries) → rule_faults Twice section (twice_at field same) entries ≡ []
apart_empty section field same entries differ = rule_empty Twice section (twice_at field same) entries (twice_empty field same entries differ)

levels_empty : (levels : List LevelData) → AllDiffer (map level_key levels) → All (λ level. AllDiffer level.source_names × AllDiffer level.destination_names) levels →
    rule_faults Twice sections.Level level_twice levels ≡ []
levels_empty levels differ names =
    rule_empty Twice sections.Level level_twice levels (λ k d within.
    append_empty (append_empty (twice_empty fields.Level level_key levels differ k d within)
    (key_if_empty _ fields.SourceNames (has_twice_empty _ (names k d within).0)))
    (key_if_empty _ fields.DestinationNames (has_twice_empty _ (names k d within).1)))

devices_empty : (devices : List DeviceEntry) → AllDiffer (map (λ device. device.name) devices) → AllDiffer (map output_key devices) → rule_faults Twice sections.Device device_twice devices ≡ []
devices_empty devices names outputs =
    rule_empty Twice sections.Device device_twice devices (λ k d within.
    append_empty (twice_empty fields.Name (λ device. device.name) devices names k d within) (twice_empty fields.Source output_key devices outputs k d within))

module _ (file : FileData) (is : IsFile file) where
  sums_hold : sum_faults file ≡ []
  unfolding sum_faults
  sums_hold =
      append_empty (sum_holds (place sections.Level 0 fields.Sources) (λ level. level.sources) all_sources_limit file.levels is.ranges.levels.0.0 (λ level right. right.sources.0) is.ranges.levels.1 is.sources)
      (sum_holds (place sections.Level 0 fields.Destinations) (λ level. level.destinations) all_destinations_limit file.levels is.ranges.levels.0.0 (λ level right. right.destinations.0) is.ranges.levels.1 is.destinations)

  twice_hold : twice_faults file ≡ []
  unfolding twice_faults
  twice_hold =
      append_empty (append_empty (append_empty (append_empty (append_empty (append_empty (append_empty (append_empty
      (levels_empty file.levels is.levels_differ is.names_differ)
      (apart_empty sections.Remote fields.Source remote_key file.remotes is.remotes_differ))
      (apart_empty sections.Pool fields.Level pool_key file.pools is.pools_differ))
      (devices_empty file.devices is.devices_differ is.outputs_differ))
      (apart_empty sections.Bus fields.Destination bus_key file.buses is.buses_differ))
      (apart_empty sections.Air fields.Destination root_key file.air is.air_differs))
      (apart_empty sections.Preview fields.Destination root_key file.preview is.preview_differs))
      (apart_empty sections.Display fields.Index display_key file.displays is.displays_differ))
      (apart_empty sections.Panel fields.Port panel_key file.panels is.ports_differ)

  unknown_hold : unknown_faults file ≡ []
  unfolding unknown_faults
  unknown_hold =
      append_empty (append_empty (append_empty (append_empty (append_empty (append_empty
      (each_empty NoSuchThing sections.Remote (remote_unknown file) file.remotes (λ k d within. remote_known file _ (is.remotes k d within)))
      (each_empty NoSuchThing sections.Pool (pool_unknown file) file.pools (λ k d within. pool_known file _ (is.pools k d within))))
      (each_empty NoSuchThing sections.Device (device_unknown file) file.devices (λ k d within. device_known file _ (is.devices k d within))))
      (each_empty NoSuchThing sections.Bus (bus_unknown file) file.buses (λ k d within. bus_known file _ (is.buses k d within))))
      (each_empty NoSuchThing sections.Air (root_unknown file) file.air (λ k d within. destination_known file _ _ (is.air k d within))))
      (each_empty NoSuchThing sections.Preview (root_unknown file) file.preview (λ k d within. destination_known file _ _ (is.preview k d within))))
      (each_empty NoSuchThing sections.Display (display_unknown file) file.displays (λ k d within. destination_known file _ _ (is.displays k d within)))

  not_local_hold : not_local_faults file ≡ []
  unfolding not_local_faults
  not_local_hold =
      append_empty
      (each_empty NotLocal sections.Remote (remote_remote file) file.remotes (λ k d within. key_if_empty _ fields.FromSource (is.remotes k d within).local))
      (each_empty NotLocal sections.Device (device_remote file) file.devices (λ k d within. key_if_empty _ fields.Source (is.devices k d within).local))

  no_pool_hold : no_pool_faults file ≡ []
  unfolding no_pool_faults
  no_pool_hold = each_empty NoPool sections.Remote (remote_unpooled file) file.remotes (λ k d within. key_unless_empty _ fields.From (is.remotes k d within).pool)

  -- the data of a plant file have no fault
  pub data_hold : data_faults file ≡ []
  data_hold = append_empty (append_empty (append_empty (append_empty sums_hold twice_hold) unknown_hold) not_local_hold) no_pool_hold
