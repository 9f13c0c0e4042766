-- How levels are noted: by place one behind the other from the last on, and by the numbers of what they have; and where
-- none is noted.
use Rattle.std.proofs.Common.{◌≡◌, ◌≢◌, ℕ, ◌+◌, ◌-◌, ◌<◌, ◌≤◌, ◌==◌, nat_le, Bool, true, false, cond, ◌&&◌, List, [], ◌∷◌, ◌++◌, All, length, get_or, drop, map, set, replicate, find, slice_get, Option, Some, None, suc, inl, inr, refl, sym, ap, ◌∙◌, subst, arith, get_or-set_other, get_or-set_same, drop-cons, append_assoc}
use Rattle.std.specs.Option.{option_and_then}
use Rattle.std.proofs.lemmas.Bool.{and_from, and_parts, and_right, cases_lt, eq-eqb, eqb-true, le-leb, le-ltb, lt-ltb}
use Rattle.std.proofs.lemmas.List.{get_or-replicate, get_or_append_left, length-append, length-replicate, length_push}
use Rattle.std.proofs.lemmas.List.Elements.{All-head, All-tail}
use Rattle.std.proofs.lemmas.Option.{slice_get-get_or, slice_get_read}
use Rattle.plant_config.specs.declared.records.Level.{Level}
use Rattle.plant_config.specs.Limits.{matrix_limit, level_limit}
use Rattle.plant_config.specs.Plant.{Numbering, AreNumberedFrom}
use Rattle.plant_config.specs.Sites.{level_among, has_number}
use Rattle.plant_config.specs.LevelsInside.{IsInGrid, place_of, noted_at, AreNotedOf, indices_from, level_by, LeadToLevels}

-- whether a level is that of a matrix and a level number
abbrev is_at : ℕ → ℕ → Level → Bool
is_at matrix number level = level.matrix == matrix && level.level == number

-- a matrix or a level number that a plant has no room for has no level
pub level_among-none : (levels : List Level) (matrix level : ℕ) → All IsInGrid levels → (matrix < matrix_limit → level_limit ≤ level) → level_among levels matrix level ≡ None
level_among-none [] matrix level are outside = refl
level_among-none (first ∷ levels) matrix level are outside =
    let inside = All-head IsInGrid first levels are in
    elim (is_at matrix level first) as (λ b. is_at matrix level first ≡ b → cond b (Some first) (level_among levels matrix level) ≡ None) [
      | true ↦ λ same.
          let parts = and_parts (first.matrix == matrix) (first.level == level) same in
          let m = eqb-true first.matrix matrix parts.0 in
          let l = eqb-true first.level level parts.1 in
          let past : level_limit ≤ level = outside (omega (arith, m, inside.0)) in
          absurd (omega (arith, l, inside.1, past))
      | false ↦ λ other. level_among-none levels matrix level (All-tail IsInGrid first levels are) outside
    ] refl

-- one more level, in front of those that are noted
pub AreNotedOf-more : (levels : List Level) (places : List (Option ℕ)) (index : ℕ) (level : Level) (rest : List Level) → slice_get levels index ≡ Some level → IsInGrid level → place_of level.matrix level.level < length places →
    AreNotedOf levels places rest → AreNotedOf levels (set places (place_of level.matrix level.level) (Some index)) (level ∷ rest)
AreNotedOf-more levels places index level rest there inside within noted matrix number m l =
    elim (is_at matrix number level) as (λ b. is_at matrix number level ≡ b → noted_at levels (set places (place_of level.matrix level.level) (Some index)) (place_of matrix number) ≡ cond b (Some level) (level_among rest matrix number)) [
      | true ↦ λ same.
          let parts = and_parts (level.matrix == matrix) (level.level == number) same in
          let place : place_of matrix number ≡ place_of level.matrix level.level = omega (arith, eqb-true level.matrix matrix parts.0, eqb-true level.level number parts.1) in
          rw place (rw get_or-set_same there)
      | false ↦ λ other.
          let apart : place_of matrix number ≢ place_of level.matrix level.level = λ place.
          let same_level : level.level ≡ number = omega (arith, inside.1) in
          let same_matrix : level.matrix ≡ matrix = omega (arith, inside.1) in
          let same : is_at matrix number level ≡ true = and_from (level.matrix == matrix) (level.level == number) (eq-eqb level.matrix matrix same_matrix) (eq-eqb level.level number same_level) in
          cc
          in
          rw get_or-set_other (noted matrix number m l)
    ] refl

-- the same of the level that stands in front of so many
pub AreNotedOf-at : (levels : List Level) (places : List (Option ℕ)) (index place : ℕ) (d : Level) → All IsInGrid levels → index < length levels → place ≡ place_of (get_or levels index d).matrix (get_or levels index d).level → place < length places →
    AreNotedOf levels places (drop (suc index) levels) → AreNotedOf levels (set places place (Some index)) (drop index levels)
AreNotedOf-at levels places index place d inside below is within noted =
    let level : Level = get_or levels index d in
    let more = AreNotedOf-more levels places index level (drop (suc index) levels) (slice_get-get_or levels index d below) (inside index d below) (omega (arith, is)) noted in
    rw (drop-cons levels index d below, is) more

-- what stands in a list behind another one
slice_get-append_behind : {X : Type 0} (xs ys : List X) (place : ℕ) → slice_get (xs ++ ys) (length xs + place) ≡ slice_get ys place
slice_get-append_behind [] ys place = ap (slice_get ys) (omega arith)
slice_get-append_behind (x ∷ xs) ys place =
    let next : suc (length xs + place) ≡ suc (length xs) + place = omega arith in
    subst (λ n. slice_get (x ∷ (xs ++ ys)) n ≡ slice_get ys place) next (slice_get-append_behind xs ys place)

-- what stands in front of it, where it is the same at each place
slice_get-append_same : {X : Type 0} (count : ℕ) (x : X) (ys : List X) (place : ℕ) → place < count → slice_get (replicate count x ++ ys) place ≡ Some x
slice_get-append_same count x ys place below =
    let many : length (replicate count x) ≡ count = length-replicate count x in
    slice_get_read (replicate count x ++ ys) (length (replicate count x ++ ys)) place x refl (omega (arith, many, length-append (replicate count x) ys))
    (sym (get_or_append_left (replicate count x) ys x place (omega (arith, many)) ∙ get_or-replicate count place x x below))

module _ (numbers : Numbering) where
  -- at each number that levels have from this one on stands the index of the level that has it
  level_by-indices : (front levels : List Level) (from number : ℕ) → AreNumberedFrom numbers from levels → from ≤ number →
      level_by (front ++ levels) (indices_from (length front) (map numbers.count levels)) (number - from) ≡ find (has_number numbers number) levels
  level_by-indices front [] from number follow low = refl
  level_by-indices front (level ∷ more) from number follow low =
      let count : ℕ = numbers.count level in
      let all : List Level = front ++ level ∷ more in
      let rest : List ℕ = indices_from (length front + 1) (map numbers.count more) in
      elim (cases_lt number (from + count)) [
        | inl inside ↦
            let index : slice_get (replicate count (length front) ++ rest) (number - from) ≡ Some (length front) = slice_get-append_same count (length front) rest (number - from) (omega arith) in
            let here : slice_get all (length front) ≡ Some level = subst (λ n. slice_get all n ≡ Some level) (let e : length front + 0 ≡ length front = omega arith in e) (slice_get-append_behind front (level ∷ more) 0) in
            let has : has_number numbers number level ≡ true = and_from _ _ (le-leb (numbers.first level) number (omega (arith, follow.0))) (lt-ltb number (numbers.first level + count) (omega (arith, follow.0, inside))) in
            rw (index, here, has) refl
        | inr behind ↦
            let long : length (replicate count (length front)) + (number - (from + count)) ≡ number - from = omega (arith, length-replicate count (length front)) in
            let index : slice_get (replicate count (length front) ++ rest) (number - from) ≡ slice_get rest (number - (from + count)) =
            subst (λ n. slice_get (replicate count (length front) ++ rest) n ≡ slice_get rest (number - (from + count))) long (slice_get-append_behind (replicate count (length front)) rest (number - (from + count))) in
            let other : has_number numbers number level ≡ false = and_right (nat_le (numbers.first level) number) _ (le-ltb number (numbers.first level + count) (omega (arith, follow.0, behind))) in
            let next = level_by-indices (front ++ level ∷ []) more (from + count) number follow.1 behind in
            rw (index, other)
            (subst (λ n. option_and_then (slice_get all) (slice_get (indices_from n (map numbers.count more)) (number - (from + count))) ≡ find (has_number numbers number) more) (length_push front level)
            (subst (λ levels. level_by levels (indices_from (length (front ++ level ∷ [])) (map numbers.count more)) (number - (from + count)) ≡ find (has_number numbers number) more) (append_assoc front (level ∷ []) more) next))
      ]

  -- indices by the counts of all levels lead to them
  pub LeadToLevels-indices : (levels : List Level) (indices : List ℕ) → AreNumberedFrom numbers 0 levels → indices ≡ indices_from 0 (map numbers.count levels) → LeadToLevels numbers levels indices
  LeadToLevels-indices levels indices follow are number =
      let found = level_by-indices [] levels 0 number follow (omega arith) in
      rw are (subst (λ n. level_by levels (indices_from 0 (map numbers.count levels)) n ≡ find (has_number numbers number) levels) (let e : number - 0 ≡ number = omega arith in e) found)
