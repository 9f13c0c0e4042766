-- What a search by a key finds, and where.
use Rattle.std.proofs.Common.{◌≡◌, ℕ, ◌+◌, ◌==◌, ◌&&◌, Bool, true, false, cond, not, bytes_eq, List, [], ◌∷◌, get_or, find, slice_get, suc, Some, None, refl, ap, ◌∙◌, subst, arith}
use Rattle.std.specs.List.{list_any, position_or_len}
use Rattle.std.proofs.lemmas.Bool.{and_from, and_parts, both_ways, cond-false, eq-eqb, eqb-true, false_from_ne_true, or_parts}
use Rattle.std.proofs.lemmas.List.Folds.{Any-from_list_any, list_any-from_Any}
use Rattle.std.proofs.lemmas.Slice.Eq.{bytes_eq-Decides}

module _ {X : Type 0} where
  -- at the first place that passes is what a search finds
  pub slice_get-position : (test : X → Bool) (xs : List X) → slice_get xs (position_or_len test xs) ≡ find test xs
  slice_get-position test [] = refl
  slice_get-position test (x ∷ xs) =
      elim (test x) as (λ b. slice_get (x ∷ xs) (cond (not b) (1 + position_or_len test xs) 0) ≡ cond b (Some x) (find test xs)) [
        | true ↦ refl
        | false ↦ let e : suc (position_or_len test xs) ≡ 1 + position_or_len test xs = omega arith in
            subst (λ n. slice_get (x ∷ xs) n ≡ find test xs) e (slice_get-position test xs)
      ]

  module _ (narrow wide : X → Bool) (wider : (x : X) → narrow x ≡ true → wide x ≡ true) where
    pub list_any-wider : (xs : List X) → list_any narrow xs ≡ true → list_any wide xs ≡ true
    list_any-wider xs some =
        let one = Any-from_list_any narrow xs some in
        list_any-from_Any wide xs (one.0, one.1, one.2, one.3, wider one.1 one.4)

    pub find-narrower : (xs : List X) → list_any wide xs ≡ false → find narrow xs ≡ None
    find-narrower [] none = refl
    find-narrower (x ∷ xs) none =
        let parts = or_parts (wide x) (list_any wide xs) none in
        cond-false (narrow x) _ _ (false_from_ne_true _ (λ passes. both_ways _ parts.0 (wider x passes))) ∙ find-narrower xs parts.1

-- three numbers are the same, each tested or all at once
module _ (a b c x y z : ℕ) where
  pub key_from_tests : (a == x && b == y && c == z) ≡ true → bytes_eq (a ∷ b ∷ c ∷ []) (x ∷ y ∷ z ∷ []) ≡ true
  key_from_tests passes =
      let two = and_parts (a == x && b == y) (c == z) passes in
      let one = and_parts (a == x) (b == y) two.0 in
      let first = eqb-true a x one.0 in
      let second = eqb-true b y one.1 in
      let third = eqb-true c z two.1 in
      (bytes_eq-Decides (a ∷ b ∷ c ∷ []) (x ∷ y ∷ z ∷ [])).1 (λ s. first s ∷ second s ∷ third s ∷ [])

  pub parts_of_key : bytes_eq (a ∷ b ∷ c ∷ []) (x ∷ y ∷ z ∷ []) ≡ true → (a ≡ x) × (b ≡ y) × (c ≡ z)
  parts_of_key passes =
      let same = (bytes_eq-Decides (a ∷ b ∷ c ∷ []) (x ∷ y ∷ z ∷ [])).0 passes in
      (ap (λ key. get_or key 0 0) same, ap (λ key. get_or key 1 0) same, ap (λ key. get_or key 2 0) same)

  pub tests_from_key : bytes_eq (a ∷ b ∷ c ∷ []) (x ∷ y ∷ z ∷ []) ≡ true → (a == x && b == y && c == z) ≡ true
  tests_from_key passes =
      let parts = parts_of_key passes in
      and_from _ _ (and_from _ _ (eq-eqb a x parts.0) (eq-eqb b y parts.1)) (eq-eqb c z parts.2)
