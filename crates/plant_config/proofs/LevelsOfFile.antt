-- The levels of a file's plant are within their limits, in order, and numbered.
use Rattle.std.proofs.Common.{◌≡◌, ℕ, ◌+◌, ◌≤◌, ◌==◌, List, [], ◌∷◌, All, length, map, filter, sum_by, refl, sym, ap, ◌∙◌, subst, arith, IsPermutation}
use Rattle.std.specs.List.Sorted.{IsStrictlyIncreasing}
use Rattle.std.proofs.lemmas.List.{length-map}
use Rattle.std.proofs.lemmas.List.Elements.{All-map}
use Rattle.std.proofs.lemmas.List.Sorted.{All-permutation, length_permutation, sum_by-IsPermutation}
use Rattle.std.proofs.lemmas.List.Sums.{sum_by-cons}
use Rattle.plant_file.specs.FileData.{LevelData, FileData}
use Rattle.plant_rules.specs.IsFile.{IsFile}
use Rattle.plant_config.specs.Plant.{dest_numbers, source_numbers, AreNumberedFrom}
use Rattle.plant_config.specs.IsPlant.{IsLevel, rank}
use Rattle.plant_config.specs.PlantOfFile.{order, in_order, placed, levels_of}
use Rattle.plant_config.proofs.OrderOfLevels.{one_each, reordered, order_increases, numbers_follow}

pub map-map : {X Y Z : Type 0} (f : Y → Z) (g : X → Y) (xs : List X) → map f (map g xs) ≡ map (λ x. f (g x)) xs
map-map f g [] = refl
map-map f g (x ∷ xs) = ap (λ rest. f (g x) ∷ rest) (map-map f g xs)

pub sum_by-map : {X Y : Type 0} (f : Y → ℕ) (g : X → Y) (xs : List X) → sum_by f (map g xs) ≡ sum_by (λ x. f (g x)) xs
sum_by-map f g [] = refl
sum_by-map f g (x ∷ xs) =
    sum_by-cons f (g x) (map g xs) ∙ ap (λ n. f (g x) + n) (sum_by-map f g xs) ∙ sym (sum_by-cons (λ x. f (g x)) x xs)

module _ (file : FileData) (is : IsFile file) where
  single : (number : ℕ) → length (filter (λ level. order level == number) file.levels) ≤ 1
  single = one_each file.levels (λ k d inside. (is.ranges.levels.1 k d inside).at.1) is.levels_differ

  pub moved : IsPermutation file.levels (in_order file.levels)
  moved = reordered 256 file.levels (λ k d inside. let level = is.ranges.levels.1 k d inside in omega (arith, level.at.0, level.at.1))

  pub levels_rise : IsStrictlyIncreasing (map rank (levels_of file))
  levels_rise = subst IsStrictlyIncreasing (sym (map-map rank (placed file.levels) (in_order file.levels))) (order_increases file.levels single 256)

  pub dests_follow : AreNumberedFrom dest_numbers 0 (levels_of file)
  dests_follow = numbers_follow file.levels single dest_numbers (λ level. level.destinations) (λ level. refl) (λ level. refl) 256

  pub sources_follow : AreNumberedFrom source_numbers 0 (levels_of file)
  sources_follow = numbers_follow file.levels single source_numbers (λ level. level.sources) (λ level. refl) (λ level. refl) 256

  -- what holds of each level of the file holds of each in order
  pub all_in_order : (P : LevelData → Type 0) → All P file.levels → All P (in_order file.levels)
  all_in_order P all = All-permutation P file.levels (in_order file.levels) moved all

  pub each_level : All IsLevel (levels_of file)
  each_level = All-map IsLevel (placed file.levels) (in_order file.levels) (all_in_order (λ level. IsLevel (placed file.levels level)) (λ k d inside.
      let level = is.ranges.levels.1 k d inside in
      record {
        matrix = level.at.0;
        level = level.at.1;
        destinations = record { some = level.destinations.0; most = level.destinations.1 };
        sources = record { some = level.sources.0; most = level.sources.1 };
      }))

  pub length-levels_of : length (levels_of file) ≡ length file.levels
  length-levels_of = length-map (in_order file.levels) (placed file.levels) ∙ length_permutation file.levels (in_order file.levels) moved

  pub all_dests : sum_by dest_numbers.count (levels_of file) ≡ sum_by (λ level. level.destinations) file.levels
  all_dests = sum_by-map dest_numbers.count (placed file.levels) (in_order file.levels) ∙ sum_by-IsPermutation (λ level. level.destinations) file.levels (in_order file.levels) moved

  pub all_sources : sum_by source_numbers.count (levels_of file) ≡ sum_by (λ level. level.sources) file.levels
  all_sources = sum_by-map source_numbers.count (placed file.levels) (in_order file.levels) ∙ sum_by-IsPermutation (λ level. level.sources) file.levels (in_order file.levels) moved
