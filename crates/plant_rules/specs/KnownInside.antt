-- That tables know what a plant file has.
use Rattle.std.specs.Prelude.{◌≡◌, ℕ, false, ◌==◌, ◌&&◌, nat_lt, max, bytes_eq, List, Option, is_some, unwrap_or}
use Rattle.std.specs.declared.cmp.Ordering.{Ordering}
use Rattle.std.specs.Ordering.{nat_cmp, ordering_then}
use Rattle.std.specs.Cmp.Lexicographic.{slice_cmp}
use Rattle.std.specs.Option.{option_map_or}
use Rattle.std.specs.List.{list_any}
use Rattle.std.specs.BTreeMap.{BTreeMap}
use Rattle.std.specs.BTreeMap as map
use Rattle.std.specs.BTreeSet.{BTreeSet}
use Rattle.std.specs.BTreeSet as set
use Rattle.plant_rules.specs.declared.known.Counts.{Counts}
use Rattle.plant_file.specs.FileData.{LevelData, FileData}
use Rattle.plant_file.specs.declared.entries.RemoteEntry.{RemoteEntry}
use Rattle.plant_file.specs.declared.entries.PoolEntry.{PoolEntry}
use Rattle.plant_file.specs.declared.entries.DeviceEntry.{DeviceEntry}

-- the order of pairs, and of triples
abbrev pub pair_cmp : ℕ × ℕ → ℕ × ℕ → Ordering
pair_cmp one other = ordering_then (nat_cmp one.0 other.0) (nat_cmp one.1 other.1)

abbrev pub triple_cmp : ℕ × ℕ × ℕ → ℕ × ℕ × ℕ → Ordering
triple_cmp one other =
    ordering_then (ordering_then (nat_cmp one.0 other.0) (nat_cmp one.1 other.1))
    (nat_cmp one.2 other.2)

-- the order of names
abbrev pub name_cmp : List ℕ → List ℕ → Ordering
name_cmp = slice_cmp nat_cmp

-- what is known of a level, none at first, and of one more entry of it
abbrev pub no_counts : Counts
no_counts = record { sources = 0; destinations = 0 }

abbrev pub widened : Option Counts → LevelData → Counts
widened before level =
    let counts = unwrap_or before no_counts in
    record {
      sources = max counts.sources level.sources;
      destinations = max counts.destinations level.destinations;
    }

-- A table has a matrix and level exactly where there is such a level.
abbrev pub KnowsEachLevel : BTreeMap (ℕ × ℕ) Counts → List LevelData → Type 0
KnowsEachLevel known levels = (m l : ℕ)
    → is_some (map.get pair_cmp known (m, l))
    ≡ list_any (λ at. at.matrix == m && at.level == l) levels

-- The sources that it counts of them are those that some such level has, and so are the destinations.
abbrev pub KnowsEachSource : BTreeMap (ℕ × ℕ) Counts → List LevelData → Type 0
KnowsEachSource known levels = (m l s : ℕ)
    → option_map_or (λ counts. nat_lt s counts.sources) (map.get pair_cmp known (m, l)) false
    ≡ list_any (λ at. at.matrix == m && at.level == l && nat_lt s at.sources) levels

abbrev pub KnowsEachDestination : BTreeMap (ℕ × ℕ) Counts → List LevelData → Type 0
KnowsEachDestination known levels = (m l d : ℕ)
    → option_map_or (λ counts. nat_lt d counts.destinations) (map.get pair_cmp known (m, l)) false
    ≡ list_any (λ at. at.matrix == m && at.level == l && nat_lt d at.destinations) levels

-- A table knows levels by matrix and level, with as many sources and destinations as some level there has.
pub record KnowsLevels (known : BTreeMap (ℕ × ℕ) Counts) (levels : List LevelData) : Type 0 where
  pub level : KnowsEachLevel known levels
  pub source : KnowsEachSource known levels
  pub destination : KnowsEachDestination known levels

-- what tells remotes apart, and pools
abbrev pub remote_place : RemoteEntry → ℕ × ℕ × ℕ
remote_place remote = (remote.matrix, remote.level, remote.source)

abbrev pub pool_place : PoolEntry → ℕ × ℕ × ℕ
pool_place pool = (pool.from, pool.to, pool.level)

-- A set knows remotes, pools and devices by what tells them apart.
abbrev pub KnowsRemotes : BTreeSet (ℕ × ℕ × ℕ) → List RemoteEntry → Type 0
KnowsRemotes known remotes = (m l s : ℕ)
    → set.contains triple_cmp known (m, l, s)
    ≡ list_any (λ remote. remote.matrix == m && remote.level == l && remote.source == s) remotes

abbrev pub KnowsPools : BTreeSet (ℕ × ℕ × ℕ) → List PoolEntry → Type 0
KnowsPools known pools = (f t l : ℕ)
    → set.contains triple_cmp known (f, t, l)
    ≡ list_any (λ pool. pool.from == f && pool.to == t && pool.level == l) pools

abbrev pub KnowsDevices : BTreeSet (List ℕ) → List DeviceEntry → Type 0
KnowsDevices known devices = (name : List ℕ)
    → set.contains name_cmp known name ≡ list_any (λ device. bytes_eq device.name name) devices

-- Tables know a plant file.
pub record IsKnown (levels : BTreeMap (ℕ × ℕ) Counts) (remotes pools : BTreeSet (ℕ × ℕ × ℕ))
    (devices : BTreeSet (List ℕ)) (file : FileData) : Type 0 where
  pub levels_known : KnowsLevels levels file.levels
  pub remotes_known : KnowsRemotes remotes file.remotes
  pub pools_known : KnowsPools pools file.pools
  pub devices_known : KnowsDevices devices file.devices
