-- The levels of a plant are in order, so none of them stands twice.
use Rattle.std.proofs.Common.{◌≡◌, ℕ, ◌+◌, ◌<◌, ◌==◌, Bool, true, false, cond, ◌&&◌, List, [], ◌∷◌, find, map, Some, suc, refl, subst, arith, slice_index}
use Rattle.std.specs.List.Sorted.{IsStrictlyIncreasing}
use Rattle.std.proofs.lemmas.Bool.{and_from, and_parts, eq-eqb, eqb-true}
use Rattle.plant_config.specs.declared.records.Level.{Level}
use Rattle.plant_config.specs.IsPlant.{rank}

-- the levels behind the first are in order too
IsStrictlyIncreasing-rest : (x : ℕ) (xs : List ℕ) → IsStrictlyIncreasing (x ∷ xs) → IsStrictlyIncreasing xs
IsStrictlyIncreasing-rest x xs increasing k below =
    subst (λ next. slice_index xs k < slice_index (x ∷ xs) next) (let e : suc k + 1 ≡ suc (k + 1) = omega arith in e) (increasing (suc k) (omega arith))

-- what is found stands higher than what is before it
find-rank : (lowest : ℕ) (test : Level → Bool) (levels : List Level) (at : Level) → IsStrictlyIncreasing (lowest ∷ map rank levels) → find test levels ≡ Some at → lowest < rank at
find-rank lowest test [] at increasing found = cc
find-rank lowest test (level ∷ levels) at increasing found =
    let next : lowest < rank level = increasing 0 (omega arith) in
    elim (test level) as (λ b. cond b (Some level) (find test levels) ≡ Some at → lowest < rank at) [
      | true ↦ λ h. let same : level ≡ at = cc in subst (λ at. lowest < rank at) same next
      | false ↦ λ h.
          let rest = find-rank (rank level) test levels at (IsStrictlyIncreasing-rest lowest (rank level ∷ map rank levels) increasing) h in
          omega arith
    ] found

abbrev is_at : ℕ → ℕ → Level → Bool
is_at matrix number level = level.matrix == matrix && level.level == number

-- what is found is found by its matrix and its level number
pub find-is_at : (test : Level → Bool) (levels : List Level) (at : Level) → IsStrictlyIncreasing (map rank levels) → find test levels ≡ Some at → find (is_at at.matrix at.level) levels ≡ Some at
find-is_at test [] at increasing found = cc
find-is_at test (level ∷ levels) at increasing found =
    let Finds : Level → Type 0 = λ at. cond (is_at at.matrix at.level level) (Some level) (find (is_at at.matrix at.level) levels) ≡ Some at in
    elim (test level) as (λ b. cond b (Some level) (find test levels) ≡ Some at → Finds at) [
      | true ↦ λ h. let same : level ≡ at = cc in subst Finds same (rw (and_from (level.matrix == level.matrix) (level.level == level.level) (eq-eqb level.matrix level.matrix refl) (eq-eqb level.level level.level refl)) refl)
      | false ↦ λ h.
          let higher = find-rank (rank level) test levels at increasing h in
          let rest = find-is_at test levels at (IsStrictlyIncreasing-rest (rank level) (map rank levels) increasing) h in
          elim (is_at at.matrix at.level level) as (λ b. is_at at.matrix at.level level ≡ b → cond b (Some level) (find (is_at at.matrix at.level) levels) ≡ Some at) [
            | true ↦ λ same.
                let parts = and_parts (level.matrix == at.matrix) (level.level == at.level) same in
                absurd (omega (arith, eqb-true level.matrix at.matrix parts.0, eqb-true level.level at.level parts.1, higher))
            | false ↦ λ other. rest
          ] refl
    ] found
