-- The sources of a file's plant: each has its name and its origin.
use Rattle.std.proofs.Common.{◌≡◌, ℕ, ◌+◌, ◌<◌, ◌==◌, ◌&&◌, true, false, bytes_eq, List, [], ◌∷◌, All, IfSome, IsSome, length, get_or, slice_get, is_none, Option, Some, None, zero, suc, refl, sym, ◌∙◌, subst, arith}
use Rattle.std.specs.Option.{option_map_or}
use Rattle.std.specs.List.{enumerate_from}
use Rattle.std.proofs.lemmas.Bool.{true≢false}
use Rattle.std.proofs.lemmas.List.{length-map}
use Rattle.std.proofs.lemmas.List.FromFn.{length-enumerate_from}
use Rattle.std.proofs.lemmas.Option.{IfSome_then, none-some}
use Rattle.plant_file.specs.FileData.{LevelData, FileData}
use Rattle.plant_file.specs.declared.entries.RemoteEntry.{RemoteEntry}
use Rattle.plant_file.specs.Ranges.{IsName}
use Rattle.plant_rules.specs.Rules.{remote_key}
use Rattle.plant_rules.specs.Links.{has_source, is_remote}
use Rattle.plant_rules.specs.IsFile.{IsFile}
use Rattle.plant_config.specs.declared.records.Source.{Source}
use Rattle.plant_config.specs.Plant.{source_numbers, sources_of}
use Rattle.plant_config.specs.IsPlant.{is_local}
use Rattle.plant_config.specs.PlantOfFile.{in_order, placed, levels_of, source_number, remote_at, source_with, sources_at, plant_of_file}
use Rattle.plant_config.proofs.Pieces.{ArePlacedFrom, placed_at, placed_from_first}
use Rattle.plant_config.proofs.LevelPieces.{IsWhole, length-pieces, placed_pieces}
use Rattle.plant_config.proofs.NumbersOfFile.{IsNumber, number_below, number_tells, number_of_place, number_in_level}
use Rattle.plant_config.proofs.LevelsOfFile.{moved, levels_rise, sources_follow, all_in_order}
use Rattle.plant_config.proofs.Searches.{find-narrower, tests_from_key}

module _ (file : FileData) (is : IsFile file) where
  -- a source's number leads to its place
  pub source_is : (matrix level source : ℕ) → has_source file matrix level source ≡ true → IsNumber source_numbers (levels_of file) matrix level source (source_number (levels_of file) matrix level source)
  source_is = number_of_place source_numbers (λ level. level.sources) file.levels (in_order file.levels) (moved file is) (levels_rise file is) (sources_follow file is) (λ level. refl) (λ level. refl)

  pub source_in_level : (k : ℕ) (d : LevelData) → k < length file.levels → (source : ℕ) → source < (get_or file.levels k d).sources →
      let at : LevelData = get_or file.levels k d in
      IsNumber source_numbers (levels_of file) at.matrix at.level source (source_number (levels_of file) at.matrix at.level source)
      × (source_number (levels_of file) at.matrix at.level source ≡ source_numbers.first (placed file.levels at) + source)
  source_in_level = number_in_level source_numbers (λ level. level.sources) file.levels (in_order file.levels) (moved file is) (levels_rise file is) (sources_follow file is) (λ level. refl) (λ level. refl)

  -- a source that is no remote one has no remote
  no_remote : (matrix level source : ℕ) → is_remote file matrix level source ≡ false → remote_at file.remotes matrix level source ≡ None
  no_remote matrix level source none =
      find-narrower (λ remote. bytes_eq (remote_key remote) (matrix ∷ level ∷ source ∷ [])) (λ remote. remote.matrix == matrix && remote.level == level && remote.source == source)
      (λ remote passes. tests_from_key remote.matrix remote.level remote.source matrix level source passes) file.remotes none

  -- each level has as many sources as it says
  whole : (level : LevelData) → length level.source_names ≡ level.sources → length (sources_at (levels_of file) file level) ≡ level.sources
  whole level many = length-map (enumerate_from 0 level.source_names) _ ∙ length-enumerate_from 0 level.source_names ∙ many

  pub all_whole : All (IsWhole source_numbers (placed file.levels) (sources_at (levels_of file) file)) (in_order file.levels)
  all_whole = all_in_order file is (IsWhole source_numbers (placed file.levels) (sources_at (levels_of file) file)) (λ k d inside. whole (get_or file.levels k d) (is.ranges.levels.1 k d inside).source_names.0)

  pub length-sources : length (plant_of_file file).sources ≡ sources_of (plant_of_file file)
  unfolding plant_of_file
  length-sources = length-pieces source_numbers (placed file.levels) (sources_at (levels_of file) file) (in_order file.levels) all_whole

  -- what holds of each source by its level and its number there holds of all by their numbers
  pub all_sources_so : (P : ℕ → Source → Type 0) →
      ((k : ℕ) (d : LevelData) → k < length file.levels → (place : ℕ) (name : List ℕ) → place < (get_or file.levels k d).sources → IsName name →
      let at : LevelData = get_or file.levels k d in
      P (source_numbers.first (placed file.levels at) + place) (source_with (levels_of file) file at name place (remote_at file.remotes at.matrix at.level place))) →
      ArePlacedFrom P 0 (plant_of_file file).sources
  unfolding plant_of_file
  all_sources_so P each =
      placed_pieces source_numbers (placed file.levels) (sources_at (levels_of file) file) P 0 (in_order file.levels) (sources_follow file is) all_whole
      (all_in_order file is (λ level. ArePlacedFrom P (source_numbers.first (placed file.levels level)) (sources_at (levels_of file) file level)) (λ k d inside.
      let level = is.ranges.levels.1 k d inside in
      let at : LevelData = get_or file.levels k d in
      placed_from_first P _ (source_numbers.first (placed file.levels at)) at.source_names (λ place name below.
      let many = level.source_names.0 in
      each k d inside place _ (omega (arith, many, below)) (level.source_names.1 place name below))))

  -- a source is local, where its place isn't a remote's
  abbrev IsLocalWhere : ℕ → Source → Type 0
  IsLocalWhere number source =
      (matrix level place : ℕ) → IsNumber source_numbers (levels_of file) matrix level place number → is_remote file matrix level place ≡ false → is_none source.pool ≡ true

  local_with : (level : LevelData) (name : List ℕ) (place : ℕ) (remote : Option RemoteEntry) → remote ≡ None → is_none (source_with (levels_of file) file level name place remote).pool ≡ true
  local_with level name place None none = refl
  local_with level name place (Some remote) none = absurd (none-some remote (sym none))

  local_sources : ArePlacedFrom IsLocalWhere 0 (plant_of_file file).sources
  local_sources = all_sources_so IsLocalWhere (λ k d inside place name below named matrix level source number local.
      let at : LevelData = get_or file.levels k d in
      let here = source_in_level k d inside place below in
      let same = number_tells source_numbers (levels_of file) at.matrix at.level place matrix level source _ (subst (IsNumber source_numbers (levels_of file) at.matrix at.level place) here.1 here.0) number in
      local_with at name place (remote_at file.remotes at.matrix at.level place)
      (no_remote at.matrix at.level place ((λ s. is_remote file (same.0 s) (same.1 s) (same.2 s)) ∙ local)))

  option_local : (found : Option Source) → IsSome found → IfSome found (λ source. is_none source.pool ≡ true) → option_map_or (λ (source : Source). is_none source.pool) found false ≡ true
  option_local None some local = absurd (true≢false (sym some))
  option_local (Some source) some local = local

  -- a source of the file that is no remote one is local
  pub source_is_local : (matrix level source : ℕ) → has_source file matrix level source ≡ true → is_remote file matrix level source ≡ false → is_local (plant_of_file file) (source_number (levels_of file) matrix level source) ≡ true
  unfolding plant_of_file
  source_is_local matrix level source has local =
      let number = source_is matrix level source has in
      let all = (plant_of_file file).sources in
      let below = number_below source_numbers (levels_of file) matrix level source _ (sources_follow file is) number in
      let many = length-sources in
      option_local (slice_get all (source_number (levels_of file) matrix level source))
      (within-some all (source_number (levels_of file) matrix level source) (omega (arith, below, many)))
      (IfSome_then (slice_get all (source_number (levels_of file) matrix level source)) (placed_at IsLocalWhere all local_sources (source_number (levels_of file) matrix level source)) (λ found so. so matrix level source number local))
    where
      within-some : (xs : List Source) (k : ℕ) → k < length xs → IsSome (slice_get xs k)
      within-some [] k below = absurd (omega arith)
      within-some (x ∷ xs) zero below = refl
      within-some (x ∷ xs) (suc k) below = within-some xs k (omega arith)
