-- The faults of documents, computed: each kind at its place, and which of two comes first.
use Rattle.std.proofs.Common.{◌≡◌, pos, [], ◌∷◌, replicate, true, Err, refl, codes}
use Rattle.toml.specs.Data.{string, boolean, table, no_members}
use Rattle.plant_file.specs.declared.fault.Section.TheVariants as sections
use Rattle.plant_file.specs.declared.fault.Field.TheVariants as fields
use Rattle.plant_file.specs.declared.fault.PlantFault.TheVariants.{Missing, WrongType, OutOfRange, Twice, NoSuchThing, NoPool, NotLocal}
use Rattle.plant_file.specs.KeyFaults.{place}
use Rattle.plant_file.specs.FileData.{LevelData, FileData}
use Rattle.plant_rules.specs.Rules.{sum_faults}
use Rattle.plant_rules.specs.PlantFile.{file_of}
use Rattle.plant_rules.proofs.FileSamples.{file_on_literals, keys, tables, n, level, remote, pool, keeping, device, root, title, panels, house, bus_with, level_with_names}

-- with it they must be there
switch_level_missing : file_of (bus_with ((codes "switch_matrix", n 0) ∷ [])) ≡ Err (Missing (place sections.Bus 0 fields.SwitchLevel))
unfolding file_on_literals
switch_level_missing = refl

-- Faults of keys, the first of which is answered.
title_missing : file_of no_members ≡ Err (Missing (place sections.Top 0 fields.Title))
unfolding file_on_literals
title_missing = refl

bus_is_a_table : file_of (house ((codes "bus", table no_members) ∷ [])) ≡ Err (WrongType (place sections.Bus 0 fields.Whole))
unfolding file_on_literals
bus_is_a_table = refl

device_is_a_number : file_of (house ((codes "device", tables (((codes "name", n 7) ∷ []) ∷ [])) ∷ [])) ≡ Err (WrongType (place sections.Device 0 fields.Name))
unfolding file_on_literals
device_is_a_number = refl

no_level : file_of (keys (title ∷ panels ∷ [])) ≡ Err (OutOfRange (place sections.Level 0 fields.Whole) (pos 0) (pos 1) (pos 256))
unfolding file_on_literals
no_level = refl

level_of_matrix_16 : file_of (keys (title ∷ (codes "level", tables (level 0 0 3 ∷ level 16 0 3 ∷ [])) ∷ panels ∷ [])) ≡ Err (OutOfRange (place sections.Level 1 fields.Matrix) (pos 16) (pos 0) (pos 15))
unfolding file_on_literals
level_of_matrix_16 = refl

no_title : file_of (keys ((codes "title", string []) ∷ [])) ≡ Err (OutOfRange (place sections.Top 0 fields.Title) (pos 0) (pos 1) (pos 40))
unfolding file_on_literals
no_title = refl

title_of_utf8 : file_of (keys ((codes "title", string (65 ∷ 195 ∷ 164 ∷ [])) ∷ [])) ≡ Err (OutOfRange (place sections.Top 0 fields.Title) (pos 195) (pos 32) (pos 126))
unfolding file_on_literals
title_of_utf8 = refl

three_names_of_two : file_of (level_with_names (string (codes "A") ∷ string (codes "B") ∷ string (codes "C") ∷ [])) ≡ Err (OutOfRange (place sections.Level 0 fields.SourceNames) (pos 3) (pos 0) (pos 2))
unfolding file_on_literals
three_names_of_two = refl

name_of_no_bytes : file_of (level_with_names (string (codes "A") ∷ string (codes "") ∷ [])) ≡ Err (OutOfRange (place sections.Level 0 fields.SourceNames) (pos 0) (pos 1) (pos 12))
unfolding file_on_literals
name_of_no_bytes = refl

name_is_a_number : file_of (level_with_names (string (codes "A") ∷ n 1 ∷ [])) ≡ Err (WrongType (place sections.Level 0 fields.SourceNames))
unfolding file_on_literals
name_is_a_number = refl

-- A reserve is held to its own range, and then to the entry's ties.
reserve_1025 : file_of (house ((codes "pool", tables (keeping 1025 ∷ [])) ∷ [])) ≡ Err (OutOfRange (place sections.Pool 0 fields.Reserve) (pos 1025) (pos 0) (pos 1024))
unfolding file_on_literals
reserve_1025 = refl

reserve_above_the_ties : file_of (house ((codes "pool", tables (keeping 2 ∷ [])) ∷ [])) ≡ Err (OutOfRange (place sections.Pool 0 fields.Reserve) (pos 2) (pos 0) (pos 1))
unfolding file_on_literals
reserve_above_the_ties = refl

-- Too many sources in all: 65 levels of 1023 are more than 65536.
abbrev large : LevelData
large = record { matrix = 0; level = 0; sources = 1023; destinations = 1; source_names = []; destination_names = [] }

too_many_sources : (file : FileData) → file.levels ≡ replicate 65 large → sum_faults file ≡ OutOfRange (place sections.Level 0 fields.Sources) (pos 66495) (pos 1) (pos 65536) ∷ []
unfolding file_on_literals
too_many_sources file are = rw are refl

-- Faults of the entries together.
levels_twice : file_of (keys (title ∷ (codes "level", tables (level 0 0 3 ∷ level 0 0 3 ∷ [])) ∷ panels ∷ [])) ≡ Err (Twice (place sections.Level 1 fields.Level))
unfolding file_on_literals
levels_twice = refl

-- the name of source 0 is the default one of source 1
default_name_twice : file_of (level_with_names (string (codes "S1") ∷ [])) ≡ Err (Twice (place sections.Level 0 fields.SourceNames))
unfolding file_on_literals
default_name_twice = refl

remotes_twice : file_of (house ((codes "remote", tables (remote 1 2 0 1 ∷ remote 1 2 0 0 ∷ [])) ∷ (codes "pool", tables (pool 0 1 ∷ [])) ∷ [])) ≡ Err (Twice (place sections.Remote 1 fields.Source))
unfolding file_on_literals
remotes_twice = refl

pools_twice : file_of (house ((codes "pool", tables (pool 0 1 ∷ pool 1 0 ∷ pool 0 1 ∷ [])) ∷ [])) ≡ Err (Twice (place sections.Pool 2 fields.Level))
unfolding file_on_literals
pools_twice = refl

devices_twice : file_of (house ((codes "device", tables (device (codes "A") 0 ∷ device (codes "B") 0 ∷ [])) ∷ [])) ≡ Err (Twice (place sections.Device 1 fields.Source))
unfolding file_on_literals
devices_twice = refl

air_twice : file_of (house ((codes "air", tables (root 0 1 ∷ root 1 1 ∷ root 0 1 ∷ [])) ∷ [])) ≡ Err (Twice (place sections.Air 2 fields.Destination))
unfolding file_on_literals
air_twice = refl

remote_of_its_own_matrix : file_of (house ((codes "remote", tables (remote 1 2 1 1 ∷ [])) ∷ [])) ≡ Err (NoSuchThing (place sections.Remote 0 fields.From))
unfolding file_on_literals
remote_of_its_own_matrix = refl

remote_of_no_source : file_of (house ((codes "remote", tables (remote 1 2 0 3 ∷ [])) ∷ [])) ≡ Err (NoSuchThing (place sections.Remote 0 fields.FromSource))
unfolding file_on_literals
remote_of_no_source = refl

pool_to_nowhere : file_of (house ((codes "pool", tables (pool 0 2 ∷ [])) ∷ [])) ≡ Err (NoSuchThing (place sections.Pool 0 fields.To))
unfolding file_on_literals
pool_to_nowhere = refl

preview_of_no_destination : file_of (house ((codes "preview", tables (root 1 2 ∷ root 1 3 ∷ [])) ∷ [])) ≡ Err (NoSuchThing (place sections.Preview 1 fields.Destination))
unfolding file_on_literals
preview_of_no_destination = refl

-- The second remote stands for the first one, which no pool leads to.
remote_of_a_remote : file_of (house ((codes "remote", tables (remote 1 2 0 2 ∷ remote 0 1 1 2 ∷ [])) ∷ (codes "pool", tables (pool 1 0 ∷ [])) ∷ [])) ≡ Err (NotLocal (place sections.Remote 1 fields.FromSource))
unfolding file_on_literals
remote_of_a_remote = refl

device_is_remote : file_of (house ((codes "remote", tables (remote 0 1 1 2 ∷ [])) ∷ (codes "pool", tables (pool 1 0 ∷ [])) ∷ (codes "device", tables (device (codes "A") 1 ∷ [])) ∷ [])) ≡ Err (NotLocal (place sections.Device 0 fields.Source))
unfolding file_on_literals
device_is_remote = refl

pool_the_other_way : file_of (house ((codes "remote", tables (remote 1 2 0 1 ∷ [])) ∷ (codes "pool", tables (pool 1 0 ∷ [])) ∷ [])) ≡ Err (NoPool (place sections.Remote 0 fields.From))
unfolding file_on_literals
pool_the_other_way = refl

switch_of_no_level : file_of (bus_with ((codes "switch_matrix", n 0) ∷ (codes "switch_level", n 1) ∷ (codes "switch_destination", n 0) ∷ [])) ≡ Err (NoSuchThing (place sections.Bus 0 fields.SwitchLevel))
unfolding file_on_literals
switch_of_no_level = refl

-- Of two faults the first in the order of the checks is answered: in an entry that of the earlier key; that of an
-- earlier section; a key's before `Twice`; `Twice` before `NoSuchThing`.
type_before_missing : file_of (house ((codes "display", tables (((codes "screen", boolean true) ∷ []) ∷ [])) ∷ [])) ≡ Err (WrongType (place sections.Display 0 fields.Screen))
unfolding file_on_literals
type_before_missing = refl

missing_before_later_type : file_of (house ((codes "display", tables (((codes "index", boolean true) ∷ []) ∷ [])) ∷ [])) ≡ Err (Missing (place sections.Display 0 fields.Screen))
unfolding file_on_literals
missing_before_later_type = refl

earlier_section : file_of (house ((codes "display", n 1) ∷ (codes "bus", n 1) ∷ [])) ≡ Err (WrongType (place sections.Bus 0 fields.Whole))
unfolding file_on_literals
earlier_section = refl

key_before_twice : file_of (keys (title ∷ (codes "level", tables (level 0 0 3 ∷ level 0 0 3 ∷ [])) ∷ [])) ≡ Err (OutOfRange (place sections.Panel 0 fields.Whole) (pos 0) (pos 1) (pos 64))
unfolding file_on_literals
key_before_twice = refl

twice_before_unknown : file_of (house ((codes "remote", tables (remote 1 9 0 1 ∷ [])) ∷ (codes "air", tables (root 0 1 ∷ root 0 1 ∷ [])) ∷ [])) ≡ Err (Twice (place sections.Air 1 fields.Destination))
unfolding file_on_literals
twice_before_unknown = refl
