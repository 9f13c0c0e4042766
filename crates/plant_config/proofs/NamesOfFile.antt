-- The sources and destinations of a file's plant have their names, and each source its origin.
use Rattle.std.proofs.Common.{◌≡◌, ℕ, ◌+◌, ◌<◌, ◌==◌, ◌&&◌, bytes_eq, List, [], ◌∷◌, All, length, get_or, map, slice_get, option_map, Option, Some, None, refl, sym, ap, ◌∙◌, subst}
use Rattle.std.specs.List.{IsDistinct, enumerate_from}
use Rattle.std.proofs.lemmas.List.Elements.{All-map}
use Rattle.std.proofs.lemmas.Option.{slice_get-map}
use Rattle.plant_file.specs.FileData.{LevelData, FileData}
use Rattle.plant_file.specs.declared.entries.RemoteEntry.{RemoteEntry}
use Rattle.plant_file.specs.declared.entries.PoolEntry.{PoolEntry}
use Rattle.plant_file.specs.Ranges.{IsName}
use Rattle.plant_rules.specs.Rules.{remote_key, pool_key}
use Rattle.plant_rules.specs.IsFile.{IsLinkedRemote, AllDiffer, IsFile}
use Rattle.plant_config.specs.declared.records.Source.{Source}
use Rattle.plant_config.specs.Plant.{Numbering, PlantData, dest_numbers, source_numbers, destinations_of}
use Rattle.plant_config.specs.IsPlant.{IsSomeSo, AllPlaced, IsOf, Leads, IsRemote, IsSource, AreTold, AreNamed}
use Rattle.plant_config.specs.PlantOfFile.{in_order, placed, levels_of, source_number, remote_at, pool_number, source_with, sources_at, pool_in, plant_of_file}
use Rattle.plant_config.proofs.Found.{All-find, find-passes}
use Rattle.plant_config.proofs.Groups.{All-flat_map}
use Rattle.plant_config.proofs.Pieces.{placed_at}
use Rattle.plant_config.proofs.LevelPieces.{IsWhole, length-pieces, pieces_are}
use Rattle.plant_config.proofs.NumbersOfFile.{IsNumber, find-from_list_any}
use Rattle.plant_config.proofs.LevelsOfFile.{sources_follow, dests_follow, all_in_order}
use Rattle.plant_config.proofs.Searches.{slice_get-position, list_any-wider, key_from_tests, parts_of_key}
use Rattle.plant_config.proofs.SourcesOfFile.{source_is, source_in_level, source_is_local, all_whole, all_sources_so, length-sources}

-- a number leads to its matrix and its level
pub number_of : (numbers : Numbering) (plant : PlantData) (matrix level place number : ℕ) → IsNumber numbers plant.levels matrix level place number →
    (other_matrix other_level : ℕ) → matrix ≡ other_matrix → level ≡ other_level → IsOf numbers plant other_matrix other_level number
number_of numbers plant matrix level place number is other_matrix other_level same_matrix same_level =
    rw is.found (is.same_matrix ∙ same_matrix, is.same_level ∙ same_level)

name_with : (file : FileData) (level : LevelData) (name : List ℕ) (source : ℕ) (remote : Option RemoteEntry) → (source_with (levels_of file) file level name source remote).name ≡ name
name_with file level name source None = refl
name_with file level name source (Some remote) = refl

names_with : (file : FileData) (level : LevelData) (from : ℕ) (names : List (List ℕ)) →
    map (λ (source : Source). source.name) (map (λ (named : ℕ × List ℕ). source_with (levels_of file) file level named.1 named.0 (remote_at file.remotes level.matrix level.level named.0)) (enumerate_from from names)) ≡ names
names_with file level from [] = refl
names_with file level from (name ∷ names) =
    let here = name_with file level name from (remote_at file.remotes level.matrix level.level from) in
    let rest = names_with file level (from + 1) names in
    λ s. here s ∷ rest s

module _ (file : FileData) (is : IsFile file) where
  -- the pool of a remote is the one that the remote's matrices and level tell
  pool_of_remote : (remote : RemoteEntry) → IsLinkedRemote file remote →
      (pool : PoolEntry) × (slice_get (plant_of_file file).pools (pool_number file remote) ≡ Some (pool_in pool)) × (pool.from ≡ remote.from) × (pool.to ≡ remote.matrix) × (pool.level ≡ remote.level)
  unfolding plant_of_file
  pool_of_remote remote linked =
      let test : PoolEntry → _ = λ pool. bytes_eq (pool_key pool) (remote.from ∷ remote.matrix ∷ remote.level ∷ []) in
      let found = find-from_list_any test file.pools
      (list_any-wider (λ pool. pool.from == remote.from && pool.to == remote.matrix && pool.level == remote.level) test
      (λ pool passes. key_from_tests pool.from pool.to pool.level remote.from remote.matrix remote.level passes) file.pools linked.pool) in
      let pool : PoolEntry = found.0 in
      let key = parts_of_key pool.from pool.to pool.level remote.from remote.matrix remote.level (find-passes test file.pools pool found.1) in
      (pool, slice_get-map pool_in file.pools (pool_number file remote) ∙ ap (option_map pool_in) (slice_get-position test file.pools ∙ found.1), key.0, key.1, key.2)

  some_so : {X : Type 0} (found : Option X) (x : X) (IsSo : X → Type 0) → found ≡ Some x → IsSo x → IsSomeSo found IsSo
  some_so found x IsSo same so = rw same so

  remote_so : (remote : RemoteEntry) (pool : PoolEntry) (number matrix level place : ℕ) → IsLinkedRemote file remote →
      slice_get (plant_of_file file).pools (pool_number file remote) ≡ Some (pool_in pool) → pool.from ≡ remote.from → pool.to ≡ matrix → (pool.level ≡ remote.level) × (remote.level ≡ level) →
      IsNumber source_numbers (levels_of file) matrix level place number →
      IsNumber source_numbers (levels_of file) remote.from remote.level remote.from_source (source_number (levels_of file) remote.from remote.level remote.from_source) →
      IsRemote (plant_of_file file) (source_number (levels_of file) remote.from remote.level remote.from_source) number (pool_number file remote)
  unfolding plant_of_file
  remote_so remote pool number matrix level place linked at_pool from to level_is number_is origin_is =
      let plant = plant_of_file file in
      let origin = source_number (levels_of file) remote.from remote.level remote.from_source in
      record {
        local = source_is_local file is remote.from remote.level remote.from_source linked.origin linked.local;
        tied = some_so (slice_get plant.pools (pool_number file remote)) (pool_in pool) (Leads plant origin number) at_pool (record {
          from = number_of source_numbers plant remote.from remote.level remote.from_source origin origin_is pool.from pool.level (sym from) (sym level_is.0);
          to = number_of source_numbers plant matrix level place number number_is pool.to pool.level (sym to) (sym (level_is.0 ∙ level_is.1));
        });
      }

  source_so : (k : ℕ) (d : LevelData) → k < length file.levels → (place : ℕ) (name : List ℕ) → place < (get_or file.levels k d).sources → IsName name →
      let at : LevelData = get_or file.levels k d in
      (remote : Option RemoteEntry) → remote_at file.remotes at.matrix at.level place ≡ remote →
      IsSource (plant_of_file file) (source_numbers.first (placed file.levels at) + place) (source_with (levels_of file) file at name place remote)
  source_so k d inside place name below named None found = record { name = named; origin = (source_in_level file is k d inside place below).1 }
  source_so k d inside place name below named (Some remote) found =
      let at : LevelData = get_or file.levels k d in
      let test : RemoteEntry → _ = λ remote. bytes_eq (remote_key remote) (at.matrix ∷ at.level ∷ place ∷ []) in
      let linked : IsLinkedRemote file remote = All-find (IsLinkedRemote file) test file.remotes remote is.remotes found in
      let key = parts_of_key remote.matrix remote.level remote.source at.matrix at.level place (find-passes test file.remotes remote found) in
      let here = source_in_level file is k d inside place below in
      let number = subst (IsNumber source_numbers (levels_of file) at.matrix at.level place) here.1 here.0 in
      let origin = source_is file is remote.from remote.level remote.from_source linked.origin in
      let pool = pool_of_remote remote linked in
      record {
        name = named;
        origin = remote_so remote pool.0 (source_numbers.first (placed file.levels at) + place) at.matrix at.level place linked pool.1 pool.2 (pool.3 ∙ key.0) (pool.4, key.1) number origin;
      }

  each_source : AllPlaced (IsSource (plant_of_file file)) (plant_of_file file).sources
  each_source =
      placed_at (IsSource (plant_of_file file)) (plant_of_file file).sources
      (all_sources_so file is (IsSource (plant_of_file file)) (λ k d inside place name below named. source_so k d inside place name below named _ refl))

  whole_dests : All (IsWhole dest_numbers (placed file.levels) (λ level. level.destination_names)) (in_order file.levels)
  whole_dests = all_in_order file is (IsWhole dest_numbers (placed file.levels) (λ level. level.destination_names)) (λ k d inside. (is.ranges.levels.1 k d inside).destination_names.0)

  length-dests : length (plant_of_file file).dest_names ≡ destinations_of (plant_of_file file)
  unfolding plant_of_file
  length-dests = length-pieces dest_numbers (placed file.levels) (λ level. level.destination_names) (in_order file.levels) whole_dests

  each_dest : All IsName (plant_of_file file).dest_names
  unfolding plant_of_file
  each_dest =
      All-flat_map IsName (λ level. level.destination_names) (in_order file.levels)
      (all_in_order file is (λ level. All IsName level.destination_names) (λ k d inside. (is.ranges.levels.1 k d inside).destination_names.1))

  told : All (AreTold (plant_of_file file)) (levels_of file)
  unfolding plant_of_file
  told =
      All-map (AreTold (plant_of_file file)) (placed file.levels) (in_order file.levels) (λ k d inside.
      let at : LevelData = get_or (in_order file.levels) k d in
      let differ = all_in_order file is (λ level. AllDiffer level.source_names × AllDiffer level.destination_names) is.names_differ k d inside in
      let sources = pieces_are source_numbers (placed file.levels) (sources_at (levels_of file) file) (in_order file.levels) (sources_follow file is) (all_whole file is) k d inside in
      let dests = pieces_are dest_numbers (placed file.levels) (λ level. level.destination_names) (in_order file.levels) (dests_follow file is) whole_dests k d inside in
      record {
        sources = subst (IsDistinct bytes_eq) (sym (ap (map (λ (source : Source). source.name)) sources ∙ names_with file at 0 at.source_names)) differ.0;
        dests = subst (IsDistinct bytes_eq) (sym dests) differ.1;
      })

  pub are_named : AreNamed (plant_of_file file)
  unfolding plant_of_file
  are_named = record {
    sources = length-sources file is;
    each_source = each_source;
    dests = length-dests;
    each_dest = each_dest;
    told = told;
  }
