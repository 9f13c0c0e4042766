-- Words for the steps from a plant file to its plant: what is read so far, and what the maps have that are made on the way.
use denote.Ref.{Bor}
use Rattle.std.specs.Prelude.{◌≡◌, ℕ, ◌≤◌, ◌==◌, nat_lt, bytes_eq, List, [], ◌∷◌, All, length, map, filter, sum_by, if◌then◌else◌, Option, Some, None}
use Rattle.std.specs.Option.{option_or}
use Rattle.std.specs.List.{enumerate_from, position}
use Rattle.std.specs.Ordering.{nat_cmp, ordering_then}
use Rattle.std.specs.declared.cmp.Ordering.{Ordering}
use Rattle.std.specs.BTreeMap.{BTreeMap, get}
use Rattle.plant_file.specs.Limits.{pool_limit, level_source_limit, all_sources_limit, all_destinations_limit}
use Rattle.plant_file.specs.FileData.{LevelData, FileData}
use Rattle.plant_file.specs.declared.entries.RemoteEntry.{RemoteEntry}
use Rattle.plant_file.specs.declared.entries.PoolEntry.{PoolEntry}
use Rattle.plant_file.specs.declared.entries.DeviceEntry.{DeviceEntry}
use Rattle.plant_file.specs.declared.entries.BusEntry.{BusEntry}
use Rattle.plant_rules.specs.Rules.{pool_key}
use Rattle.plant_config.specs.PlantOfFile.{order, source_number, pool_number, remote_at, source_with, device_in}
use Rattle.plant_config.specs.declared.records.Level.{Level}
use Rattle.plant_config.specs.declared.records.Source.{Source}
use Rattle.plant_config.specs.declared.records.Device.{Device}

-- what a list of references points to
abbrev pub shown : List (Bor LevelData) → List LevelData
shown levels = map (λ level. level.now) levels

-- The levels have few enough sources and destinations for a plant.
pub record AreFew (levels : List LevelData) : Type 0 where
  pub sources : sum_by (λ level. level.sources) levels ≤ all_sources_limit
  pub destinations : sum_by (λ level. level.destinations) levels ≤ all_destinations_limit

-- the levels at this place of the order
abbrev pub at_place : ℕ → List LevelData → List LevelData
at_place place levels = filter (λ level. order level == place) levels

-- the levels of a lower order than this
abbrev pub below : ℕ → List LevelData → List LevelData
below at levels = filter (λ level. nat_lt (order level) at) levels

-- The first numbers of a level are within the limits of a plant.
pub record IsLow (level : Level) : Type 0 where
  pub source : level.first_source ≤ all_sources_limit
  pub dest : level.first_dest ≤ all_destinations_limit

abbrev pub AreLow : List Level → Type 0
AreLow = All IsLow

-- the devices of a file that are these first ones of them
abbrev pub devices_from : List Level → List DeviceEntry → List BusEntry → List DeviceEntry
    → List Device
devices_from levels devices buses front =
    map (λ (numbered : ℕ × DeviceEntry). device_in levels devices buses numbered.0 numbered.1)
    (enumerate_from 0 front)

-- the order of the keys of the maps
abbrev pub place_cmp : ℕ × ℕ × ℕ → ℕ × ℕ × ℕ → Ordering
place_cmp x y = ordering_then (ordering_then (nat_cmp x.0 y.0) (nat_cmp x.1 y.1)) (nat_cmp x.2 y.2)

-- the keys of a remote and of a pool
abbrev pub place_of : RemoteEntry → ℕ × ℕ × ℕ
place_of remote = (remote.matrix, remote.level, remote.source)

abbrev pub way_of : PoolEntry → ℕ × ℕ × ℕ
way_of pool = (pool.from, pool.to, pool.level)

-- the remote of a key
abbrev pub remote_among : List RemoteEntry → ℕ × ℕ × ℕ → Option RemoteEntry
remote_among remotes at = remote_at remotes at.0 at.1 at.2

-- the number of the pool that leads from a matrix to a matrix at a level
abbrev pub pool_among : List PoolEntry → ℕ × ℕ × ℕ → Option ℕ
pool_among pools at = position (λ pool. bytes_eq (pool_key pool) (at.0 ∷ at.1 ∷ at.2 ∷ [])) pools

-- A map has what a function says.
abbrev pub Maps : {X : Type 0} → BTreeMap (ℕ × ℕ × ℕ) X
    → (ℕ × ℕ × ℕ → Option X) → Type 0
Maps made function = (at : ℕ × ℕ × ℕ) → get place_cmp made at ≡ function at

-- what a key has after a value came to another one that had none
abbrev pub added : {X : Type 0} → Option X → ℕ × ℕ × ℕ → X → ℕ × ℕ × ℕ
    → Option X
added before key value at =
    option_or before
    (if bytes_eq (key.0 ∷ key.1 ∷ key.2 ∷ []) (at.0 ∷ at.1 ∷ at.2 ∷ []) then Some value
    else None)

-- A value came to a map, unless its key had one.
abbrev pub AddsTo : {X : Type 0} → BTreeMap (ℕ × ℕ × ℕ) X
    → BTreeMap (ℕ × ℕ × ℕ) X → ℕ × ℕ × ℕ → X → Type 0
AddsTo old new key value =
    (at : ℕ × ℕ × ℕ) → get place_cmp new at ≡ added (get place_cmp old at) key value at

-- What is known of a file: that its levels' numbers fit, and its remotes and its pools by what tells them apart.
pub record Knows (file : FileData) (levels : List Level)
    (by_place : BTreeMap (ℕ × ℕ × ℕ) RemoteEntry) (by_way : BTreeMap (ℕ × ℕ × ℕ) ℕ) : Type 0 where
  pub low : AreLow levels
  pub remotes : Maps by_place (remote_among file.remotes)
  pub few : length file.pools ≤ pool_limit
  pub pools : Maps by_way (pool_among file.pools)

-- A level's sources are numbered from 0 on, within 16 bits.
abbrev pub HasFewSources : LevelData → Type 0
HasFewSources level = length level.source_names ≤ level_source_limit

-- where a remote source comes from: its origin and its pool
abbrev pub behind : List Level → FileData → RemoteEntry → ℕ × Option ℕ
behind levels file remote = (
  source_number levels remote.from remote.level remote.from_source,
  Some (pool_number file remote),
)

-- where a source of a level comes from
abbrev pub origin_with : List Level → FileData → LevelData → ℕ → Option RemoteEntry
    → ℕ × Option ℕ
origin_with levels file level number None =
    (source_number levels level.matrix level.level number, None)
origin_with levels file level number (Some remote) = behind levels file remote

abbrev pub origin_in : List Level → FileData → LevelData → ℕ → ℕ × Option ℕ
origin_in levels file level number =
    origin_with levels file level number (remote_at file.remotes level.matrix level.level number)

-- a source of this name, by where it comes from
abbrev pub with_origin : List ℕ → ℕ × Option ℕ → Source
with_origin name origin = record { name = name; origin = origin.0; pool = origin.1 }

-- the sources of a level that have these names
abbrev pub sources_from : List Level → FileData → LevelData → List (List ℕ) → List Source
sources_from levels file level names =
    map (λ (named : ℕ × List ℕ). source_with levels file level named.1 named.0
    (remote_at file.remotes level.matrix level.level named.0)) (enumerate_from 0 names)
