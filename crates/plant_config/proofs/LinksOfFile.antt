-- The pools, mixers and displays of a file's plant are within their limits, and name what the plant has.
use Rattle.std.proofs.Common.{Bool, ◌≡◌, ℕ, ◌+◌, ◌<◌, ◌≤◌, nat_eq, bytes_eq, List, [], ◌∷◌, All, MatchOption, length, get_or, map, option_map, Option, Some, None, true, refl, sym, ap, ◌∙◌, subst, arith}
use Rattle.std.specs.List.{IsDistinct, enumerate_from}
use Rattle.std.proofs.lemmas.Bool.{eq-eqb, eqb-true}
use Rattle.std.proofs.lemmas.Bool.Decides.{Decides-eqb, same_from_decides}
use Rattle.std.proofs.lemmas.List.{length-map}
use Rattle.std.proofs.lemmas.List.Elements.{All-map, All-filter}
use Rattle.std.proofs.lemmas.List.FromFn.{length-enumerate_from}
use Rattle.std.proofs.lemmas.List.Sorted.{IsPermutation-map}
use Rattle.std.proofs.lemmas.Map.Keys.{IsDistinct-IsPermutation}
use Rattle.plant_file.specs.FileData.{FileData}
use Rattle.plant_file.specs.declared.entries.DeviceEntry.{DeviceEntry}
use Rattle.plant_file.specs.declared.entries.SwitchEntry.{SwitchEntry}
use Rattle.plant_file.specs.declared.entries.BusEntry.{BusEntry}
use Rattle.plant_file.specs.declared.entries.RootEntry.{RootEntry}
use Rattle.plant_file.specs.Ranges.{IsSwitchEntry, IsBusEntry, AreEntries}
use Rattle.plant_rules.specs.Rules.{output_key, bus_key, root_key}
use Rattle.plant_rules.specs.Links.{has_source, has_destination}
use Rattle.plant_rules.specs.IsFile.{IsLinkedDevice, IsLinkedBus, IsLinkedSwitch, IsMainDestination, IsFile}
use Rattle.plant_config.specs.declared.records.Pool.{Pool}
use Rattle.plant_config.specs.declared.records.Device.{Device}
use Rattle.plant_config.specs.declared.records.Bus.{Bus}
use Rattle.plant_config.specs.Plant.{dest_numbers, source_numbers}
use Rattle.plant_config.specs.IsPlant.{IsMainSource, IsPool, IsDevice, IsSwitch, IsMainDest, IsBus, IsDisplay, AllPlaced, AreLinked}
use Rattle.plant_config.specs.PlantOfFile.{in_order, levels_of, source_number, dest_number, pool_in, named_buses, device_in, switch_in, bus_in, device_buses, root_in, display_in, plant_of_file}
use Rattle.plant_config.proofs.Differ.{numbers_differ}
use Rattle.plant_config.proofs.Pieces.{placed_at, placed_from_first, all_pieces}
use Rattle.plant_config.proofs.NumbersOfFile.{IsNumber, number_below, number_tells, number_of_place}
use Rattle.plant_config.proofs.LevelsOfFile.{map-map, moved, levels_rise, dests_follow}
use Rattle.plant_config.proofs.SourcesOfFile.{source_is, source_is_local}
use Rattle.plant_config.proofs.BusesOfFile.{buses_by_device, map-buses, device_has_its_buses, buses_moved, length-buses}

-- as many entries of the plant as of the file, each of them so
entries : {X Y : Type 0} (IsOne : Y → Type 0) (f : X → Y) (least most : ℕ) (xs : List X) → (least ≤ length xs) × (length xs ≤ most) → All (λ x. IsOne (f x)) xs → AreEntries IsOne least most (map f xs)
entries IsOne f least most xs many all = (rw (length-map xs f) many, All-map IsOne f xs all)

module _ (file : FileData) (is : IsFile file) where
  -- a destination's number leads to its place
  dest_is : (matrix level dest : ℕ) → has_destination file matrix level dest ≡ true → IsNumber dest_numbers (levels_of file) matrix level dest (dest_number (levels_of file) matrix level dest)
  dest_is = number_of_place dest_numbers (λ level. level.destinations) file.levels (in_order file.levels) (moved file is) (levels_rise file is) (dests_follow file is) (λ level. refl) (λ level. refl)

  main_dest : (matrix dest : ℕ) → IsMainDestination file matrix dest → IsMainDest (plant_of_file file) (dest_number (levels_of file) matrix 0 dest)
  unfolding plant_of_file
  main_dest matrix dest has = let number = dest_is matrix 0 dest has in rw number.found number.same_level

  -- destinations of level 0 with one number are the same
  main_tells : (matrix dest matrix' dest' : ℕ) → IsMainDestination file matrix dest → IsMainDestination file matrix' dest' → dest_number (levels_of file) matrix 0 dest ≡ dest_number (levels_of file) matrix' 0 dest' → (matrix ≡ matrix') × (dest ≡ dest')
  main_tells matrix dest matrix' dest' has has' same =
      let these = subst (IsNumber dest_numbers (levels_of file) matrix 0 dest) same (dest_is matrix 0 dest has) in
      let tells = number_tells dest_numbers (levels_of file) matrix 0 dest matrix' 0 dest' _ these (dest_is matrix' 0 dest' has') in
      (tells.0, tells.2)

  root_dests : (roots : List RootEntry) → All (λ root. IsMainDestination file root.matrix root.destination) roots → (0 ≤ length roots) × (length roots ≤ 65536) → AreEntries (IsMainDest (plant_of_file file)) 0 65536 (map (root_in (levels_of file)) roots)
  root_dests roots all many = entries (IsMainDest (plant_of_file file)) (root_in (levels_of file)) 0 65536 roots many (λ k d inside. main_dest _ _ (all k d inside))

  roots_differ : (roots : List RootEntry) → All (λ root. IsMainDestination file root.matrix root.destination) roots → IsDistinct bytes_eq (map root_key roots) → IsDistinct nat_eq (map (root_in (levels_of file)) roots)
  roots_differ roots all differ =
      numbers_differ root_key (λ root. IsMainDestination file root.matrix root.destination) (root_in (levels_of file))
      (λ one other is_one is_other same.
      let tells = main_tells one.matrix one.destination other.matrix other.destination is_one is_other same in
      λ s. tells.0 s ∷ tells.1 s ∷ []) roots all differ

  pools : AreEntries IsPool 0 256 (map pool_in file.pools)
  pools = entries IsPool pool_in 0 256 file.pools is.ranges.pools.0 (λ k d inside.
      let pool = is.ranges.pools.1 k d inside in
      record { from = pool.from; to = pool.to; other = (is.pools k d inside).other; ties = pool.ties; reserve = pool.reserve })

  pools_differ : IsDistinct bytes_eq (map (λ (pool : Pool). pool.from ∷ pool.to ∷ pool.level ∷ []) (map pool_in file.pools))
  pools_differ = subst (IsDistinct bytes_eq) (sym (map-map _ pool_in file.pools)) is.pools_differ

  main_source : (matrix source : ℕ) → has_source file matrix 0 source ≡ true → IsMainSource (plant_of_file file) (source_number (levels_of file) matrix 0 source)
  unfolding plant_of_file
  main_source matrix source has = let number = source_is file is matrix 0 source has in rw number.found number.same_level

  abbrev output : DeviceEntry → ℕ
  output device = source_number (levels_of file) device.matrix 0 device.source

  map-outputs : (from : ℕ) (devices : List DeviceEntry) →
      map (λ (device : Device). device.output) (map (λ (numbered : ℕ × DeviceEntry). device_in (levels_of file) file.devices file.buses numbered.0 numbered.1) (enumerate_from from devices)) ≡ map output devices
  map-outputs from [] = refl
  map-outputs from (device ∷ devices) = ap (λ rest. output device ∷ rest) (map-outputs (from + 1) devices)

  outputs_differ : IsDistinct nat_eq (map (λ (device : Device). device.output) (plant_of_file file).devices)
  unfolding plant_of_file
  outputs_differ =
      subst (IsDistinct nat_eq) (sym (map-outputs 0 file.devices))
      (numbers_differ output_key (IsLinkedDevice file) output
      (λ one other is_one is_other same.
      let these = subst (IsNumber source_numbers (levels_of file) one.matrix 0 one.source) same (source_is file is one.matrix 0 one.source is_one.output) in
      let tells = number_tells source_numbers (levels_of file) one.matrix 0 one.source other.matrix 0 other.source _ these (source_is file is other.matrix 0 other.source is_other.output) in
      λ s. tells.0 s ∷ tells.2 s ∷ []) file.devices is.devices is.outputs_differ)

  each_device : AllPlaced (IsDevice (plant_of_file file)) (plant_of_file file).devices
  unfolding plant_of_file
  each_device =
      placed_at (IsDevice (plant_of_file file)) (plant_of_file file).devices
      (placed_from_first (IsDevice (plant_of_file file)) (λ (numbered : ℕ × DeviceEntry). device_in (levels_of file) file.devices file.buses numbered.0 numbered.1) 0 file.devices (λ k d inside.
      let device : DeviceEntry = get_or file.devices k d in
      let linked = is.devices k d inside in
      let e : k ≡ 0 + k = omega arith in
      subst (λ n. IsDevice (plant_of_file file) n (device_in (levels_of file) file.devices file.buses k device)) e (record {
        output = source_is_local file is device.matrix 0 device.source linked.output linked.local;
        main = main_source device.matrix device.source linked.output;
        buses = device_has_its_buses file k d inside;
      })))

  length-devices : length (plant_of_file file).devices ≡ length file.devices
  unfolding plant_of_file
  length-devices = length-map (enumerate_from 0 file.devices) _ ∙ length-enumerate_from 0 file.devices

  switch_so : (switch : Option SwitchEntry) → MatchOption switch Unit IsSwitchEntry → MatchOption switch Unit (IsLinkedSwitch file) → MatchOption (option_map (switch_in (levels_of file)) switch) Unit (IsSwitch (plant_of_file file))
  unfolding plant_of_file
  switch_so None within linked = tt
  switch_so (Some switch) within linked =
      let number = dest_is switch.matrix switch.level switch.destination linked in
      record {
        dest = number_below dest_numbers (levels_of file) switch.matrix switch.level switch.destination _ (dests_follow file is) number;
        other = let level = number.same_level in rw number.found (omega (arith, level, within.other));
      }

  bus_so : (number : ℕ) → number < length file.devices → (bus : BusEntry) → IsBusEntry bus → IsLinkedBus file bus → IsBus (plant_of_file file) (bus_in (levels_of file) number bus)
  bus_so number below bus within linked = record {
    device = rw length-devices below;
    dest = main_dest bus.matrix bus.destination linked.destination;
    switch = switch_so bus.switch within.switch linked.switch;
  }

  buses : AreEntries (IsBus (plant_of_file file)) 0 1024 (plant_of_file file).buses
  unfolding plant_of_file
  buses = (
    rw (length-buses file is) is.ranges.buses.0,
    all_pieces (device_buses (levels_of file) file.buses) (λ device. length (named_buses file.buses device)) (λ n device. length-map (named_buses file.buses device) (bus_in (levels_of file) n)) (IsBus (plant_of_file file)) 0 file.devices (λ k d inside.
        let device : DeviceEntry = get_or file.devices k d in
        let e : k ≡ 0 + k = omega arith in
        subst (λ n. All (IsBus (plant_of_file file)) (device_buses (levels_of file) file.buses n device)) e
        (All-map (IsBus (plant_of_file file)) (bus_in (levels_of file) k) (named_buses file.buses device) (λ i b below.
        let named : BusEntry → Bool = λ bus. bytes_eq bus.device device.name in
        bus_so k inside _ (All-filter named IsBusEntry file.buses is.ranges.buses.1 i b below) (All-filter named (IsLinkedBus file) file.buses is.buses i b below)))),
  )

  buses_differ : IsDistinct nat_eq (map (λ (bus : Bus). bus.dest) (plant_of_file file).buses)
  unfolding plant_of_file
  buses_differ =
      let dest : BusEntry → ℕ = λ bus. dest_number (levels_of file) bus.matrix 0 bus.destination in
      let differ = numbers_differ bus_key (IsLinkedBus file) dest
      (λ one other is_one is_other same.
      let tells = main_tells one.matrix one.destination other.matrix other.destination is_one.destination is_other.destination same in
      λ s. tells.0 s ∷ tells.1 s ∷ []) file.buses is.buses is.buses_differ in
      subst (IsDistinct nat_eq) (sym (map-buses file (λ bus. bus.dest) dest (λ number bus. refl) 0 file.devices))
      (IsDistinct-IsPermutation nat_eq flips (map dest file.buses) (map dest (buses_by_device file file.devices)) (IsPermutation-map dest file.buses (buses_by_device file file.devices) (buses_moved file is)) differ)
    where
      flips : (x y : ℕ) → nat_eq x y ≡ nat_eq y x
      flips x y = same_from_decides (nat_eq x y) (nat_eq y x) (Decides-eqb x y) (λ e. sym (eqb-true y x e), λ e. eq-eqb y x (sym e))

  displays : AreEntries (IsDisplay (plant_of_file file)) 0 4096 (map (display_in (levels_of file)) file.displays)
  displays = entries (IsDisplay (plant_of_file file)) (display_in (levels_of file)) 0 4096 file.displays is.ranges.displays.0 (λ k d inside.
      let display = is.ranges.displays.1 k d inside in
      record { screen = display.screen; index = display.index; watch = main_dest _ _ (is.displays k d inside) })

  pub are_linked : AreLinked (plant_of_file file)
  unfolding plant_of_file
  are_linked = record {
    pools = pools;
    pools_differ = pools_differ;
    each_device = each_device;
    devices = rw length-devices is.ranges.devices.0.1;
    outputs_differ = outputs_differ;
    buses = buses;
    buses_differ = buses_differ;
    air = root_dests file.air is.air is.ranges.air.0;
    air_differs = roots_differ file.air is.air is.air_differs;
    preview = root_dests file.preview is.preview is.ranges.preview.0;
    preview_differs = roots_differ file.preview is.preview is.preview_differs;
    displays = displays;
    displays_differ = subst (IsDistinct bytes_eq) (sym (map-map _ (display_in (levels_of file)) file.displays)) is.displays_differ;
  }
