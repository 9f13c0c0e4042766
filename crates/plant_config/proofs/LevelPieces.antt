-- What the levels of a plant have, joined in their order: each level's is where its numbers say.
use Rattle.std.proofs.Common.{◌≡◌, ℕ, ◌+◌, List, [], ◌∷◌, ◌++◌, All, length, map, take, drop, flat_map, sum_by, refl, sym, ap, subst, arith, append_assoc}
use Rattle.std.proofs.lemmas.List.{length-append, take_at, drop_at}
use Rattle.std.proofs.lemmas.List.Elements.{All-nil, All-cons, All-head, All-tail}
use Rattle.std.proofs.lemmas.List.Sums.{sum_by-cons}
use Rattle.plant_file.specs.FileData.{LevelData}
use Rattle.plant_config.specs.declared.records.Level.{Level}
use Rattle.plant_config.specs.Plant.{Numbering, AreNumberedFrom}
use Rattle.plant_config.proofs.Pieces.{ArePlacedFrom, placed_append}

module _ (numbers : Numbering) (place : LevelData → Level) {A : Type 0} (piece : LevelData → List A) where
  -- as many as the level has
  abbrev pub IsWhole : LevelData → Type 0
  IsWhole level = length (piece level) ≡ numbers.count (place level)

  pub length-pieces : (levels : List LevelData) → All IsWhole levels → length (flat_map piece levels) ≡ sum_by numbers.count (map place levels)
  length-pieces [] whole = refl
  length-pieces (level ∷ more) whole =
      let rest = length-pieces more (All-tail IsWhole level more whole) in
      let here = All-head IsWhole level more whole in
      rw (length-append (piece level) (flat_map piece more), sum_by-cons numbers.count (place level) (map place more)) (omega (arith, rest, here))

  pub placed_pieces : (P : ℕ → A → Type 0) (from : ℕ) (levels : List LevelData) → AreNumberedFrom numbers from (map place levels) → All IsWhole levels →
      All (λ level. ArePlacedFrom P (numbers.first (place level)) (piece level)) levels → ArePlacedFrom P from (flat_map piece levels)
  placed_pieces P from [] follow whole placed = tt
  placed_pieces P from (level ∷ more) follow whole placed =
      let Here : LevelData → Type 0 = λ level. ArePlacedFrom P (numbers.first (place level)) (piece level) in
      let next : from + numbers.count (place level) ≡ from + length (piece level) = ap (λ n. from + n) (sym (All-head IsWhole level more whole)) in
      placed_append P from (piece level) (flat_map piece more)
      (subst (λ n. ArePlacedFrom P n (piece level)) follow.0 (All-head Here level more placed))
      (subst (λ n. ArePlacedFrom P n (flat_map piece more)) next
      (placed_pieces P (from + numbers.count (place level)) more follow.1 (All-tail IsWhole level more whole) (All-tail Here level more placed)))

  pieces_behind : (front : List A) (levels : List LevelData) → AreNumberedFrom numbers (length front) (map place levels) → All IsWhole levels →
      All (λ level. take (numbers.count (place level)) (drop (numbers.first (place level)) (front ++ flat_map piece levels)) ≡ piece level) levels
  pieces_behind front [] follow whole = All-nil _
  pieces_behind front (level ∷ more) follow whole =
      let here = All-head IsWhole level more whole in
      let long : length front + numbers.count (place level) ≡ length (front ++ piece level) = rw length-append (ap (λ n. length front + n) (sym here)) in
      let rest = pieces_behind (front ++ piece level) more (subst (λ n. AreNumberedFrom numbers n (map place more)) long follow.1) (All-tail IsWhole level more whole) in
      All-cons (λ at. take (numbers.count (place at)) (drop (numbers.first (place at)) (front ++ flat_map piece (level ∷ more))) ≡ piece at) level more
      (rw (drop_at front (flat_map piece (level ∷ more)) (numbers.first (place level)) (sym follow.0)) (take_at (piece level) (flat_map piece more) (numbers.count (place level)) here))
      (subst (λ all. All (λ at. take (numbers.count (place at)) (drop (numbers.first (place at)) all) ≡ piece at) more) (append_assoc front (piece level) (flat_map piece more)) rest)

  pub pieces_are : (levels : List LevelData) → AreNumberedFrom numbers 0 (map place levels) → All IsWhole levels →
      All (λ level. take (numbers.count (place level)) (drop (numbers.first (place level)) (flat_map piece levels)) ≡ piece level) levels
  pieces_are levels follow whole = pieces_behind [] levels follow whole
