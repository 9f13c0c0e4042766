-- The entries of a document that have no fault are within the ranges of the data.
use Rattle.std.proofs.Common.{◌≡◌, ℕ, ◌<◌, ◌≤◌, [], Option, Some, None, IsSome, suc, refl, arith, MatchOption, option_map}
use Rattle.std.specs.Option.{option_or}
use Rattle.std.proofs.Math.Dec.{leb-zero}
use Rattle.std.specs.List.{AllByRecursion}
use Rattle.toml.specs.Data.{Data, Members}
use Rattle.plant_file.specs.declared.fault.Section.{Section}
use Rattle.plant_file.specs.declared.fault.Field.TheVariants as fields
use Rattle.plant_file.specs.Format.{top_keys, server_keys, level_keys, remote_keys, pool_keys, device_keys, bus_keys, root_keys, display_keys, panel_keys}
use Rattle.plant_file.specs.KeyFaults.{entry_faults}
use Rattle.plant_file.specs.Document.{found_at, text_for, as_number}
use Rattle.plant_file.specs.FileData.{SwitchEntry}
use Rattle.plant_file.specs.Reading.{server_entry, level_entry, remote_entry, pool_entry, device_entry, bus_entry, root_entry, display_entry, panel_entry}
use Rattle.plant_file.specs.Ranges.{IsWords, IsServer, IsLevelData, IsRemoteEntry, IsPoolEntry, IsDeviceEntry, IsSwitchEntry, IsBusEntry, IsRootEntry, IsDisplayEntry, IsPanelEntry}
use Rattle.plant_file.proofs.NameRanges.{names_are}
use Rattle.plant_file.proofs.KeyRanges.{entry_right, IsRight}

-- from one to the other way to write a bound
below : {number high : ℕ} → number ≤ high → number < suc high
below within = omega arith

-- a number that nothing stands for where it is absent
of_found : (count : ℕ) (found : Option Data) → count ≤ as_number found → count ≤ as_number (option_or found None)
of_found count (Some value) within = within
of_found count None within = within

-- a switch, where its matrix is there
there : (found : Option Data) (switch : SwitchEntry) → (IsSome found → IsSwitchEntry switch) → MatchOption (option_map (λ value. switch) found) Unit IsSwitchEntry
there None switch right = tt
there (Some value) switch right = right refl

module _ (number : ℕ) (entry : Members) where
  pub title_right : entry_faults top_keys number entry ≡ [] → IsWords 1 40 (text_for top_keys fields.Title entry)
  title_right none = (entry_right top_keys number entry refl none).0

  pub server_right : entry_faults server_keys number entry ≡ [] → IsServer (server_entry entry)
  server_right none =
      let keys : AllByRecursion (IsRight entry) server_keys.keys = entry_right server_keys number entry refl none in
      record {
        listen = keys.0;
        display = keys.1.0;
        idle_ms = keys.1.1.0;
        idle_limit = keys.1.1.1.0;
        turns = keys.1.1.1.1.0;
        sessions = keys.1.1.1.1.1.0;
        refresh_every = keys.1.1.1.1.1.1.0;
        brightness = keys.1.1.1.1.1.1.1.0;
      }

  pub level_right : entry_faults level_keys number entry ≡ [] → IsLevelData (level_entry entry)
  level_right none =
      let keys : AllByRecursion (IsRight entry) level_keys.keys = entry_right level_keys number entry (simp leb-zero) none in
      record {
        at = (below keys.0.1, below keys.1.0.1);
        sources = keys.1.1.0;
        destinations = keys.1.1.1.0;
        source_names = names_are 83 (omega arith, omega arith) _ _ (omega (arith, keys.1.1.0.1)) (of_found _ (found_at fields.Sources entry) keys.1.1.1.1.0.0) keys.1.1.1.1.0.1;
        destination_names = names_are 68 (omega arith, omega arith) _ _ keys.1.1.1.0.1 (of_found _ (found_at fields.Destinations entry) keys.1.1.1.1.1.0.0) keys.1.1.1.1.1.0.1;
      }

  pub remote_right : entry_faults remote_keys number entry ≡ [] → IsRemoteEntry (remote_entry entry)
  remote_right none =
      let keys : AllByRecursion (IsRight entry) remote_keys.keys = entry_right remote_keys number entry refl none in
      record {
        at = (below keys.0.1, below keys.1.0.1);
        source = below keys.1.1.0.1;
        from = below keys.1.1.1.0.1;
        from_source = below keys.1.1.1.1.0.1;
      }

  pub pool_right : entry_faults pool_keys number entry ≡ [] → IsPoolEntry (pool_entry entry)
  pool_right none =
      let keys : AllByRecursion (IsRight entry) pool_keys.keys = entry_right pool_keys number entry (simp leb-zero) none in
      record {
        from = (below keys.0.1, below keys.1.1.0.1);
        to = (below keys.1.0.1, below keys.1.1.0.1);
        ties = keys.1.1.1.0;
        reserve = of_found _ (found_at fields.Ties entry) keys.1.1.1.1.0.1;
      }

  pub device_right : entry_faults device_keys number entry ≡ [] → IsDeviceEntry (device_entry entry)
  device_right none =
      let keys : AllByRecursion (IsRight entry) device_keys.keys = entry_right device_keys number entry refl none in
      record { name = keys.0; matrix = below keys.1.0.1; source = below keys.1.1.0.1 }

  pub bus_right : entry_faults bus_keys number entry ≡ [] → IsBusEntry (bus_entry entry)
  bus_right none =
      let keys : AllByRecursion (IsRight entry) bus_keys.keys = entry_right bus_keys number entry refl none in
      record {
        device = keys.0;
        matrix = below keys.1.0.1;
        destination = below keys.1.1.0.1;
        switch = there _ _ (λ is. record {
          at = (below (keys.1.1.1.0 is).1, below (keys.1.1.1.1.0 is).1);
          other = (keys.1.1.1.1.0 is).0;
          destination = below (keys.1.1.1.1.1.0 is).1;
        });
      }

  pub root_right : (section : Section) → entry_faults (root_keys section) number entry ≡ [] → IsRootEntry (root_entry section entry)
  root_right section none =
      let keys : AllByRecursion (IsRight entry) (root_keys section).keys = entry_right (root_keys section) number entry refl none in
      record { matrix = below keys.0.1; destination = below keys.1.0.1 }

  pub display_right : entry_faults display_keys number entry ≡ [] → IsDisplayEntry (display_entry entry)
  display_right none =
      let keys : AllByRecursion (IsRight entry) display_keys.keys = entry_right display_keys number entry refl none in
      record { screen = keys.0; index = keys.1.0; matrix = below keys.1.1.0.1; destination = below keys.1.1.1.0.1 }

  pub panel_right : entry_faults panel_keys number entry ≡ [] → IsPanelEntry (panel_entry entry)
  panel_right none =
      let keys : AllByRecursion (IsRight entry) panel_keys.keys = entry_right panel_keys number entry refl none in
      record { device = keys.0.1; port = keys.1.0 }
