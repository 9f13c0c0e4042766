-- What a plant file's ranges bound: how many sources and destinations all levels have.
use Rattle.std.proofs.Common.{ℕ, ◌<◌, ◌≤◌, ◌^◌, List, sum_by, length, arith}
use Rattle.std.specs.List.{All}
use Rattle.std.proofs.lemmas.List.Elements.{All-weaker}
use Rattle.std.proofs.lemmas.List.Sums.{sum_by-le}
use Rattle.plant_file.specs.FileData.{LevelData}
use Rattle.plant_file.specs.Limits.{all_levels_limit}
use Rattle.plant_file.specs.Ranges.{IsLevelData, AreEntries}

-- the sum of a number of each level that is at most 65536
abbrev IsSmall : (LevelData → ℕ) → LevelData → Type 0
IsSmall number level = number level ≤ 65536

sum_by-small : (number : LevelData → ℕ) (levels : List LevelData) → All (IsSmall number) levels → length levels ≤ all_levels_limit → sum_by number levels < 2 ^ 32
sum_by-small number levels small few = omega (arith, sum_by-le number 65536 levels small, few)

pub sum_by-sources : (levels : List LevelData) → AreEntries IsLevelData 1 all_levels_limit levels → sum_by (λ level. level.sources) levels < 2 ^ 32
sum_by-sources levels ranges =
    sum_by-small (λ level. level.sources) levels (All-weaker IsLevelData (IsSmall (λ level. level.sources)) (λ level is. omega (arith, is.sources.1)) levels ranges.1) ranges.0.1

pub sum_by-destinations : (levels : List LevelData) → AreEntries IsLevelData 1 all_levels_limit levels → sum_by (λ level. level.destinations) levels < 2 ^ 32
sum_by-destinations levels ranges =
    sum_by-small (λ level. level.destinations) levels (All-weaker IsLevelData (IsSmall (λ level. level.destinations)) (λ level is. is.destinations.1) levels ranges.1) ranges.0.1
