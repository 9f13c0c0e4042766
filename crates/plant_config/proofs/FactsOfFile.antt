-- What the data of a file without a fault say for the steps to its plant.
use Rattle.std.proofs.Common.{ℕ, ◌*◌, ◌==◌, ◌≤◌, le_trans, Bool, not, List, [], ◌∷◌, get_or, All, filter, flat_map, sum_by, refl, arith}
use Rattle.std.specs.List.{range_with_len}
use Rattle.std.proofs.lemmas.List.Elements.{All-nil, All-append, All-filter, All-weaker, All-map}
use Rattle.std.proofs.lemmas.List.Filters.{sum_by-filter_both}
use Rattle.plant_file.specs.FileData.{FileData, LevelData}
use Rattle.plant_file.specs.Limits.{matrix_limit, level_limit}
use Rattle.plant_file.specs.Ranges.{IsLevelData}
use Rattle.plant_rules.specs.IsFile.{IsFile}
use Rattle.plant_config.specs.PlantOfFile.{placed, in_order, levels_of, order}
use Rattle.plant_config.specs.OfFileInside.{IsLow, AreLow, HasFewSources}

sum_by-filter-le : {X : Type 0} (count : X → ℕ) (test : X → Bool) (xs : List X) → sum_by count (filter test xs) ≤ sum_by count xs
sum_by-filter-le count test xs = omega (arith, sum_by-filter_both test (λ x. not (test x)) (λ _. refl) count xs)

IsLow-placed : (file : FileData) → IsFile file → (level : LevelData) → IsLow (placed file.levels level)
IsLow-placed file is level = record {
  source = le_trans (sum_by-filter-le (λ other. other.sources) _ file.levels) is.sources;
  dest = le_trans (sum_by-filter-le (λ other. other.destinations) _ file.levels) is.destinations;
}

-- the first numbers of a plant's levels are within the limits
pub AreLow-levels : (file : FileData) → IsFile file → AreLow (levels_of file)
AreLow-levels file is =
    All-map IsLow (placed file.levels) (in_order file.levels) (λ k d h. IsLow-placed file is (get_or (in_order file.levels) k d))

All-flat_map : {X Y : Type 0} (P : Y → Type 0) (f : X → List Y) → ((x : X) → All P (f x)) → (xs : List X) → All P (flat_map f xs)
All-flat_map P f each [] = All-nil P
All-flat_map P f each (x ∷ xs) = All-append P (f x) (flat_map f xs) (each x) (All-flat_map P f each xs)

HasFewSources-in : (level : LevelData) → IsLevelData level → HasFewSources level
HasFewSources-in level is = omega (arith, is.source_names.0, is.sources.1)

-- the sources of each level of a file are within their limit
pub few_sources : (file : FileData) → IsFile file → All HasFewSources (in_order file.levels)
few_sources file is =
    let all = All-weaker IsLevelData HasFewSources HasFewSources-in file.levels is.ranges.levels.1 in
    All-flat_map {X = ℕ} HasFewSources (λ number. filter (λ level. order level == number) file.levels) (λ number. All-filter (λ level. order level == number) HasFewSources file.levels all)
    (range_with_len 0 (matrix_limit * level_limit))
