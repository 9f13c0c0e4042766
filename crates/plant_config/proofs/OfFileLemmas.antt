-- What the parts of a plant are with one entry of its file more.
use Rattle.std.proofs.Common.{◌≡◌, ℕ, ◌+◌, ◌<◌, sum_by, Bor, All, bytes_eq, List, [], ◌∷◌, ◌++◌, length, get_or, take, map, flat_map, Option, Some, None, refl, sym, ap, subst, ◌∙◌}
use Rattle.std.proofs.lemmas.List.{take_more, get_or-map, length-map, map-append, append-nil}
use Rattle.std.specs.List.{enumerate_from}
use Rattle.std.proofs.lemmas.List.Concat.{flat_map-append}
use Rattle.std.proofs.lemmas.List.Folds.{find-append}
use Rattle.plant_file.specs.FileData.{FileData, LevelData}
use Rattle.plant_file.specs.declared.entries.RemoteEntry.{RemoteEntry}
use Rattle.plant_file.specs.declared.entries.PoolEntry.{PoolEntry}
use Rattle.plant_file.specs.declared.entries.DeviceEntry.{DeviceEntry}
use Rattle.plant_file.specs.declared.entries.BusEntry.{BusEntry}
use Rattle.plant_rules.specs.Rules.{remote_key, pool_key}
use Rattle.plant_rules.specs.Links.{main_level}
use Rattle.plant_config.specs.declared.records.Level.{Level}
use Rattle.plant_config.specs.declared.records.Device.{Device}
use Rattle.plant_config.specs.PlantOfFile.{source_number, source_with, remote_at, named_buses, device_in, device_buses, buses_in}
use Rattle.plant_config.specs.OfFileInside.{shown, place_of, way_of, remote_among, pool_among, added, devices_from, sources_from, with_origin, origin_with, origin_in}
use Rattle.plant_config.proofs.OneMore.{enumerate_from-more, position-more}

pub remote_among-more : (remotes : List RemoteEntry) (i : ℕ) (d : RemoteEntry) (at : ℕ × ℕ × ℕ) → i < length remotes →
    let remote = get_or remotes i d in
    remote_among (take (i + 1) remotes) at ≡ added (remote_among (take i remotes) at) (place_of remote) remote at
remote_among-more remotes i d at low =
    ap (λ front. remote_among front at) (take_more remotes i d low)
    ∙ find-append (λ remote. bytes_eq (remote_key remote) (at.0 ∷ at.1 ∷ at.2 ∷ [])) (take i remotes) (get_or remotes i d ∷ [])

pub pool_among-more : (pools : List PoolEntry) (i : ℕ) (d : PoolEntry) (at : ℕ × ℕ × ℕ) → i < length pools →
    pool_among (take (i + 1) pools) at ≡ added (pool_among (take i pools) at) (way_of (get_or pools i d)) i at
pool_among-more pools i d at low = position-more (λ pool. bytes_eq (pool_key pool) (at.0 ∷ at.1 ∷ at.2 ∷ [])) pools i d low

pub devices_from-more : (levels : List Level) (devices : List DeviceEntry) (buses : List BusEntry) (i : ℕ) (d : DeviceEntry) → i < length devices →
    devices_from levels devices buses (take (i + 1) devices) ≡ devices_from levels devices buses (take i devices) ++ device_in levels devices buses i (get_or devices i d) ∷ []
devices_from-more levels devices buses i d low =
    let made = λ (numbered : ℕ × DeviceEntry). device_in levels devices buses numbered.0 numbered.1 in
    ap (map made) (enumerate_from-more devices i d low) ∙ map-append made (enumerate_from 0 (take i devices)) ((i, get_or devices i d) ∷ [])

pub device_in-is : (levels : List Level) (devices : List DeviceEntry) (buses : List BusEntry) (number : ℕ) (device : DeviceEntry) (output first count : ℕ) →
    output ≡ source_number levels device.matrix main_level device.source → first ≡ sum_by (λ other. length (named_buses buses other)) (take number devices) → count ≡ length (named_buses buses device) →
    let made : Device = record { output = output; first_bus = first; buses = count } in
    made ≡ device_in levels devices buses number device
device_in-is levels devices buses number device output first count p q r = λ i. record { output = p i; first_bus = q i; buses = r i }

pub buses_in-more : (levels : List Level) (devices : List DeviceEntry) (buses : List BusEntry) (i : ℕ) (d : DeviceEntry) → i < length devices →
    buses_in levels (take (i + 1) devices) buses ≡ buses_in levels (take i devices) buses ++ device_buses levels buses i (get_or devices i d)
buses_in-more levels devices buses i d low =
    let made = λ (numbered : ℕ × DeviceEntry). device_buses levels buses numbered.0 numbered.1 in
    ap (flat_map made) (enumerate_from-more devices i d low) ∙ flat_map-append made (enumerate_from 0 (take i devices)) ((i, get_or devices i d) ∷ [])
    ∙ ap (λ last. buses_in levels (take i devices) buses ++ last) (append-nil (device_buses levels buses i (get_or devices i d)))

source_with-parts : (levels : List Level) (file : FileData) (level : LevelData) (name : List ℕ) (number : ℕ) (remote : Option RemoteEntry) →
    source_with levels file level name number remote ≡ with_origin name (origin_with levels file level number remote)
source_with-parts levels file level name number None = refl
source_with-parts levels file level name number (Some remote) = refl

pub sources_from-more : (levels : List Level) (file : FileData) (level : LevelData) (names : List (List ℕ)) (i : ℕ) (d : List ℕ) → i < length names →
    sources_from levels file level (take (i + 1) names) ≡ sources_from levels file level (take i names) ++ with_origin (get_or names i d) (origin_in levels file level i) ∷ []
sources_from-more levels file level names i d low =
    let made = λ (named : ℕ × List ℕ). source_with levels file level named.1 named.0 (remote_at file.remotes level.matrix level.level named.0) in
    ap (map made) (enumerate_from-more names i d low) ∙ map-append made (enumerate_from 0 (take i names)) ((i, get_or names i d) ∷ [])
    ∙ ap (λ last. sources_from levels file level (take i names) ++ last ∷ []) (source_with-parts levels file level (get_or names i d) i (remote_at file.remotes level.matrix level.level i))

-- what holds of all that a list of references points to holds of one of them
pub at_shown : (P : LevelData → Type 0) (levels : List (Bor LevelData)) (i : ℕ) (d : Bor LevelData) → i < length levels → All P (shown levels) → P (get_or levels i d).now
at_shown P levels i d low all =
    let at = λ (level : Bor LevelData). level.now in
    subst P (get_or-map at levels i d d.now low) (all i d.now (subst (λ count. i < count) (sym (length-map levels at)) low))
