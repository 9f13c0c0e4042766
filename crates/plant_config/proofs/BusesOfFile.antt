-- The buses of a file's plant: each device's stand together, and they are those of the file in another order.
use Rattle.std.proofs.Common.{◌≡◌, ℕ, ◌+◌, ◌<◌, ◌==◌, bytes_eq, List, [], ◌∷◌, ◌++◌, length, get_or, map, filter, flat_map, refl, sym, ap, ap₂, ◌∙◌, arith, IsPermutation}
use Rattle.std.specs.List.{enumerate_from}
use Rattle.std.proofs.lemmas.Bool.{false_from_ne_true}
use Rattle.std.proofs.lemmas.List.{length-map, map-append}
use Rattle.std.proofs.lemmas.List.Elements.{All-map}
use Rattle.std.proofs.lemmas.List.Sorted.{length_permutation}
use Rattle.std.proofs.lemmas.Slice.Eq.{bytes_eq-Decides}
use Rattle.plant_file.specs.FileData.{FileData}
use Rattle.plant_file.specs.declared.entries.DeviceEntry.{DeviceEntry}
use Rattle.plant_file.specs.declared.entries.BusEntry.{BusEntry}
use Rattle.plant_rules.specs.IsFile.{IsFile}
use Rattle.plant_config.specs.declared.records.Bus.{Bus}
use Rattle.plant_config.specs.IsPlant.{buses_of}
use Rattle.plant_config.specs.PlantOfFile.{levels_of, named_buses, device_in, bus_in, device_buses, plant_of_file}
use Rattle.plant_config.proofs.Groups.{grouped}
use Rattle.plant_config.proofs.Differ.{pairs_differ}
use Rattle.plant_config.proofs.Pieces.{piece_is, piece_tagged}
use Rattle.plant_config.proofs.Searches.{list_any-wider}

module _ (file : FileData) where
  -- the buses of the file, by their devices
  abbrev pub buses_by_device : List DeviceEntry → List BusEntry
  buses_by_device devices = flat_map (named_buses file.buses) devices

  -- what a bus has of its entry
  pub map-buses : {Y : Type 0} (of_bus : Bus → Y) (of_entry : BusEntry → Y) → ((number : ℕ) (bus : BusEntry) → of_bus (bus_in (levels_of file) number bus) ≡ of_entry bus) →
      (from : ℕ) (devices : List DeviceEntry) →
      map of_bus (flat_map (λ (numbered : ℕ × DeviceEntry). device_buses (levels_of file) file.buses numbered.0 numbered.1) (enumerate_from from devices)) ≡ map of_entry (buses_by_device devices)
  map-buses of_bus of_entry same from [] = refl
  map-buses of_bus of_entry same from (device ∷ devices) =
      let rest = flat_map (λ (numbered : ℕ × DeviceEntry). device_buses (levels_of file) file.buses numbered.0 numbered.1) (enumerate_from (from + 1) devices) in
      map-append of_bus (device_buses (levels_of file) file.buses from device) rest
      ∙ ap₂ ◌++◌ (each (named_buses file.buses device)) (map-buses of_bus of_entry same (from + 1) devices)
      ∙ sym (map-append of_entry (named_buses file.buses device) (buses_by_device devices))
    where
      each : (buses : List BusEntry) → map of_bus (map (bus_in (levels_of file) from) buses) ≡ map of_entry buses
      each [] = refl
      each (bus ∷ buses) = let here = same from bus in let more = each buses in λ s. here s ∷ more s

  -- the buses of a device are those that say so
  pub device_has_its_buses : (number : ℕ) (d : DeviceEntry) → number < length file.devices →
      buses_of (plant_of_file file) (device_in (levels_of file) file.devices file.buses number (get_or file.devices number d)) ≡ filter (λ bus. bus.device == number) (plant_of_file file).buses
  unfolding plant_of_file
  device_has_its_buses number d inside =
      let size : DeviceEntry → ℕ = λ device. length (named_buses file.buses device) in
      let sized : (n : ℕ) (device : DeviceEntry) → length (device_buses (levels_of file) file.buses n device) ≡ size device = λ n device. length-map (named_buses file.buses device) (bus_in (levels_of file) n) in
      let here = piece_is (device_buses (levels_of file) file.buses) size sized 0 file.devices number d inside in
      let there = piece_tagged (device_buses (levels_of file) file.buses) size sized (λ bus. bus.device)
      (λ n device. All-map (λ bus. bus.device ≡ n) (bus_in (levels_of file) n) (named_buses file.buses device) (λ k d below. refl)) 0 file.devices number d inside in
      let e : 0 + number ≡ number = omega arith in
      here ∙ sym there ∙ ap (λ n. filter (λ (bus : Bus). bus.device == n) (plant_of_file file).buses) e

module _ (file : FileData) (is : IsFile file) where
  -- each bus is of one device
  pub buses_moved : IsPermutation file.buses (buses_by_device file file.devices)
  buses_moved =
      grouped (λ (device : DeviceEntry) (bus : BusEntry). bytes_eq bus.device device.name) file.devices file.buses
      (λ i j d before inside bus first. false_from_ne_true _ (λ second.
      let one = (bytes_eq-Decides bus.device (get_or file.devices i d).name).0 first in
      let two = (bytes_eq-Decides bus.device (get_or file.devices j d).name).0 second in
      pairs_differ (λ (device : DeviceEntry). device.name) file.devices is.devices_differ i j d before inside (sym one ∙ two)))
      (λ k d inside.
      let bus : BusEntry = get_or file.buses k d in
      list_any-wider (λ device. bytes_eq device.name bus.device) (λ device. bytes_eq bus.device device.name)
      (λ device passes. (bytes_eq-Decides bus.device device.name).1 (sym ((bytes_eq-Decides device.name bus.device).0 passes))) file.devices (is.buses k d inside).device)

  pub length-buses : length (plant_of_file file).buses ≡ length file.buses
  unfolding plant_of_file
  length-buses =
      sym (length-map (plant_of_file file).buses (λ bus. bus.dest))
      ∙ ap length (map-buses file (λ bus. bus.dest) (λ bus. (bus_in (levels_of file) 0 bus).dest) (λ number bus. refl) 0 file.devices)
      ∙ length-map (buses_by_device file file.devices) (λ bus. (bus_in (levels_of file) 0 bus).dest)
      ∙ length_permutation file.buses (buses_by_device file file.devices) buses_moved
