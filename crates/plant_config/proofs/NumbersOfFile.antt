-- The numbers that a file's plant gives: each leads back to its place in the file.
use Rattle.std.proofs.Common.{◌≡◌, ℕ, ◌+◌, ◌<◌, ◌==◌, ◌&&◌, nat_lt, Bool, true, false, cond, List, [], ◌∷◌, length, get_or, map, filter, find, sum_by, unwrap_or, Some, refl, sym, ap, ◌∙◌, subst, subst₂, arith, IsPermutation}
use Rattle.std.specs.List.{list_any}
use Rattle.std.specs.List.Sorted.{IsStrictlyIncreasing}
use Rattle.std.proofs.lemmas.Bool.{and_from, and_parts, eq-eqb, eqb-true, lt-ltb, ltb-true, true≢false}
use Rattle.std.proofs.lemmas.List.Elements.{All-map}
use Rattle.std.proofs.lemmas.List.Folds.{list_any_at}
use Rattle.std.proofs.lemmas.List.Sorted.{list_any-IsPermutation}
use Rattle.std.proofs.lemmas.Option.{same_Some}
use Rattle.plant_file.specs.FileData.{LevelData}
use Rattle.plant_config.specs.declared.records.Level.{Level}
use Rattle.plant_config.specs.Plant.{Numbering, AreNumberedFrom}
use Rattle.plant_config.specs.IsPlant.{rank}
use Rattle.plant_config.specs.Sites.{has_number, number_among, level_among}
use Rattle.plant_config.specs.PlantOfFile.{order, placed}
use Rattle.plant_config.proofs.Found.{All-find, find-passes}
use Rattle.plant_config.proofs.Order.{find-is_at}
use Rattle.plant_config.proofs.Numbering.{find-IsWithin, find-has_number}

-- a search finds where some element passes
pub find-from_list_any : {X : Type 0} (test : X → Bool) (xs : List X) → list_any test xs ≡ true → (x : X) × (find test xs ≡ Some x)
find-from_list_any test [] some = absurd (true≢false (sym some))
find-from_list_any test (x ∷ xs) some =
    elim (test x) as (λ b. test x ≡ b → (y : _) × (cond b (Some x) (find test xs) ≡ Some y)) [
      | true ↦ λ passes. (x, refl)
      | false ↦ λ fails. find-from_list_any test xs (let rest : list_any test (x ∷ xs) ≡ true = some in rw fails at rest)
    ] refl

list_any-map : {X Y : Type 0} (test : Y → Bool) (f : X → Y) (xs : List X) → list_any test (map f xs) ≡ list_any (λ x. test (f x)) xs
list_any-map test f [] = refl
list_any-map test f (x ∷ xs) = rw (list_any-map test f xs) refl

-- This number is that of a place: its level has the place's matrix and level, and the number is so far behind its first.
pub record IsNumber (numbers : Numbering) (levels : List Level) (matrix level place number : ℕ) : Type 0 where
  pub at : Level
  pub found : find (has_number numbers number) levels ≡ Some at
  pub same_matrix : at.matrix ≡ matrix
  pub same_level : at.level ≡ level
  pub behind : numbers.first at + place ≡ number
  pub within : place < numbers.count at

-- a level has a place's matrix and level, and so many that the place is among them
abbrev pub has_place : (Level → ℕ) → ℕ → ℕ → ℕ → Level → Bool
has_place count matrix level place at = at.matrix == matrix && at.level == level && nat_lt place (count at)

module _ (numbers : Numbering) (levels : List Level) where
  pub number_found : IsStrictlyIncreasing (map rank levels) → AreNumberedFrom numbers 0 levels → (matrix level place : ℕ) →
      list_any (has_place numbers.count matrix level place) levels ≡ true →
      IsNumber numbers levels matrix level place (unwrap_or (number_among numbers levels matrix level place) 0)
  number_found rising follow matrix level place some =
      let test = has_place numbers.count matrix level place in
      let found = find-from_list_any test levels some in
      let at : Level = found.0 in
      let passes = and_parts (at.matrix == matrix && at.level == level) (nat_lt place (numbers.count at)) (find-passes test levels at found.1) in
      let keys = and_parts (at.matrix == matrix) (at.level == level) passes.0 in
      let same_matrix = eqb-true at.matrix matrix keys.0 in
      let same_level = eqb-true at.level level keys.1 in
      let below = ltb-true place (numbers.count at) passes.1 in
      let among : level_among levels matrix level ≡ Some at =
      subst₂ (λ m l. level_among levels m l ≡ Some at) same_matrix same_level (find-is_at test levels at rising found.1) in
      let value : unwrap_or (number_among numbers levels matrix level place) 0 ≡ numbers.first at + place = rw (among, passes.1) refl in
      subst (IsNumber numbers levels matrix level place) (sym value) (record {
        at = at;
        found = find-has_number numbers test 0 levels at (numbers.first at + place) follow found.1 (omega arith) (omega (arith, below));
        same_matrix = same_matrix;
        same_level = same_level;
        behind = refl;
        within = below;
      })

  pub number_below : (matrix level place number : ℕ) → AreNumberedFrom numbers 0 levels → IsNumber numbers levels matrix level place number → number < sum_by numbers.count levels
  number_below matrix level place number follow is =
      let inside = find-IsWithin numbers (has_number numbers number) 0 levels is.at follow is.found in
      omega (arith, inside.1, is.behind, is.within)

  -- two places of one number are the same
  pub number_tells : (matrix level place matrix' level' place' number : ℕ) → IsNumber numbers levels matrix level place number → IsNumber numbers levels matrix' level' place' number →
      (matrix ≡ matrix') × (level ≡ level') × (place ≡ place')
  number_tells matrix level place matrix' level' place' number is other =
      let same : is.at ≡ other.at = same_Some _ _ (sym is.found ∙ other.found) in
      let first = ap numbers.first same in (
        sym is.same_matrix ∙ ap (λ at. at.matrix) same ∙ other.same_matrix,
        sym is.same_level ∙ ap (λ at. at.level) same ∙ other.same_level,
        omega (arith, is.behind, other.behind, first),
      )

-- how many the levels in front of a place in the order have
abbrev pub count_below : (LevelData → ℕ) → List LevelData → ℕ → ℕ
count_below count levels number = sum_by count (filter (λ other. nat_lt (order other) number) levels)

module _ (numbers : Numbering) (count : LevelData → ℕ) (levels sorted : List LevelData)
    (moved : IsPermutation levels sorted)
    (rising : IsStrictlyIncreasing (map rank (map (placed levels) sorted)))
    (follow : AreNumberedFrom numbers 0 (map (placed levels) sorted))
    (first_is : (level : LevelData) → numbers.first (placed levels level) ≡ count_below count levels (order level))
    (count_is : (level : LevelData) → numbers.count (placed levels level) ≡ count level) where
  abbrev number : ℕ → ℕ → ℕ → ℕ
  number matrix level place = unwrap_or (number_among numbers (map (placed levels) sorted) matrix level place) 0

  -- a place of the file has its number
  pub number_of_place : (matrix level place : ℕ) → list_any (λ at. at.matrix == matrix && at.level == level && nat_lt place (count at)) levels ≡ true →
      IsNumber numbers (map (placed levels) sorted) matrix level place (number matrix level place)
  number_of_place matrix level place has =
      number_found numbers (map (placed levels) sorted) rising follow matrix level place
      (list_any-map (has_place numbers.count matrix level place) (placed levels) sorted
      ∙ sym (list_any-IsPermutation (λ at. has_place numbers.count matrix level place (placed levels at)) levels sorted moved)
      ∙ list_any-same levels
      ∙ has)
    where
      list_any-same : (those : List LevelData) → list_any (λ at. has_place numbers.count matrix level place (placed levels at)) those ≡ list_any (λ at. at.matrix == matrix && at.level == level && nat_lt place (count at)) those
      list_any-same [] = refl
      list_any-same (at ∷ rest) = rw (list_any-same rest, count_is at) refl

  -- the numbers of a level are those from its first one on
  pub number_in_level : (k : ℕ) (d : LevelData) → k < length levels → (place : ℕ) → place < count (get_or levels k d) →
      let at : LevelData = get_or levels k d in
      IsNumber numbers (map (placed levels) sorted) at.matrix at.level place (number at.matrix at.level place)
      × (number at.matrix at.level place ≡ numbers.first (placed levels at) + place)
  number_in_level k d inside place below =
      let at : LevelData = get_or levels k d in
      let here = number_of_place at.matrix at.level place
      (list_any_at (λ other. other.matrix == at.matrix && other.level == at.level && nat_lt place (count other)) levels k d inside
      (and_from _ _ (and_from _ _ (eq-eqb at.matrix at.matrix refl) (eq-eqb at.level at.level refl)) (lt-ltb _ _ below))) in
      let first : numbers.first here.at ≡ count_below count levels (rank here.at) =
      All-find (λ at. numbers.first at ≡ count_below count levels (rank at)) _ (map (placed levels) sorted) here.at
      (All-map (λ at. numbers.first at ≡ count_below count levels (rank at)) (placed levels) sorted (λ k d inside. first_is (get_or sorted k d))) here.found in
      let same : rank here.at ≡ order at = omega (arith, here.same_matrix, here.same_level) in
      (here, sym here.behind ∙ ap (λ n. n + place) (first ∙ ap (count_below count levels) same ∙ sym (first_is at)))
