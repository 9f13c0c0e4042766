-- How the levels of a plant share its numbers, said of destinations and of sources at once.
use Rattle.std.proofs.Common.{◌≡◌, ℕ, ◌+◌, ◌<◌, ◌≤◌, Bool, true, false, cond, List, [], ◌∷◌, find, sum_by, Some, IsSome, inl, inr, refl, subst, arith, rules, nat_lt, nat_le}
use Rattle.std.proofs.lemmas.List.Sums.{sum_by-cons}
use Rattle.std.proofs.lemmas.Bool.{and_from, and_right, and_cases, leb-false, ltb-false, lt-ltb, le-ltb, le-leb}
use Rattle.plant_config.specs.declared.records.Level.{Level}
use Rattle.plant_config.specs.Plant.{Numbering, AreNumberedFrom}
use Rattle.plant_config.specs.Sites.{has_number}

module _ (numbers : Numbering) where
  -- a level that is found has its numbers among those of all levels
  pub find-IsWithin : (test : Level → Bool) (from : ℕ) (levels : List Level) (at : Level) → AreNumberedFrom numbers from levels → find test levels ≡ Some at →
      (from ≤ numbers.first at) × (numbers.first at + numbers.count at ≤ from + sum_by numbers.count levels)
  find-IsWithin test from [] at follow found = cc
  find-IsWithin test from (level ∷ levels) at follow found =
      let IsIn : Level → Type 0 = λ at. (from ≤ numbers.first at) × (numbers.first at + numbers.count at ≤ from + sum_by numbers.count (level ∷ levels)) in
      let total = sum_by-cons numbers.count level levels in
      elim (test level) as (λ b. cond b (Some level) (find test levels) ≡ Some at → IsIn at) [
        | true ↦ λ h. let same : level ≡ at = cc in subst IsIn same (omega (arith, follow.0), omega (arith, follow.0, total))
        | false ↦ λ h.
            let rest = find-IsWithin test (from + numbers.count level) levels at follow.1 h in
            (omega (arith, rest.0), omega (arith, rest.1, total))
      ] found

  -- a level that is found is the one that has each of its numbers
  pub find-has_number : (test : Level → Bool) (from : ℕ) (levels : List Level) (at : Level) (number : ℕ) → AreNumberedFrom numbers from levels → find test levels ≡ Some at →
      numbers.first at ≤ number → number < numbers.first at + numbers.count at → find (has_number numbers number) levels ≡ Some at
  find-has_number test from [] at number follow found low high = cc
  find-has_number test from (level ∷ levels) at number follow found low high =
      let Finds : Level → Type 0 = λ at. numbers.first at ≤ number → number < numbers.first at + numbers.count at → cond (has_number numbers number level) (Some level) (find (has_number numbers number) levels) ≡ Some at in
      elim (test level) as (λ b. cond b (Some level) (find test levels) ≡ Some at → Finds at) [
        | true ↦ λ h. let same : level ≡ at = cc in subst Finds same (λ l g. rw (and_from _ _ (le-leb _ _ l) (lt-ltb _ _ g)) refl)
        | false ↦ λ h l g.
            let rest = find-IsWithin test (from + numbers.count level) levels at follow.1 h in
            let behind : numbers.first level + numbers.count level ≤ number = omega (arith, rest.0, follow.0) in
            rw (and_right (nat_le (numbers.first level) number) _ (le-ltb _ _ behind)) (find-has_number test (from + numbers.count level) levels at number follow.1 h l g)
      ] found low high

  -- some level has each number below the count of all
  pub IsSome-find : (from : ℕ) (levels : List Level) (number : ℕ) → AreNumberedFrom numbers from levels → from ≤ number → number < from + sum_by numbers.count levels → IsSome (find (has_number numbers number) levels)
  IsSome-find from [] number follow low high = absurd (omega arith)
  IsSome-find from (level ∷ levels) number follow low high =
      let total = sum_by-cons numbers.count level levels in
      elim (has_number numbers number level) as (λ b. has_number numbers number level ≡ b → IsSome (cond b (Some level) (find (has_number numbers number) levels))) [
        | true ↦ λ h. search rules
        | false ↦ λ h.
            let behind : from + numbers.count level ≤ number = elim (and_cases (nat_le (numbers.first level) number) (nat_lt number (numbers.first level + numbers.count level)) h) [
              | inl low_fails ↦ absurd (omega (arith, leb-false (numbers.first level) number low_fails, follow.0))
              | inr high_fails ↦ omega (arith, ltb-false number (numbers.first level + numbers.count level) high_fails, follow.0)
            ] in
            IsSome-find (from + numbers.count level) levels number follow.1 behind (omega (arith, total))
      ] refl
