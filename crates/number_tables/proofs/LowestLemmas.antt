-- What the lowest number of a set is.
use Rattle.std.proofs.Common.{◌≡◌, ℕ, ◌≤◌, min, List, [], ◌∷◌, Bool, true, false, not, is_some, Option, Some, None, inl, inr, refl, sym, ap, subst, ◌∙◌, arith, eq-eqb, eqb-true}
use Rattle.std.proofs.lemmas.Bool.{cases_lt, or_left, or_right, or_cases, both_ways}
use Rattle.std.specs.List.{list_any}
use Rattle.std.specs.Option.{option_map_or}
use Rattle.std.specs.Cmp.{nat_cmp_total, unsigned_tied}
use Rattle.std.specs.Ordering.{nat_cmp, eq_by_cmp}
use Rattle.std.specs.FinSet.{empty, contains, items, contains-items, contains-empty, same_set, nat_cmp-IsAntisymmetric}
use Rattle.number_tables.specs.Numbers.{Numbers, least, lowest}

-- a number is among these
abbrev among : List ℕ → ℕ → Bool
among xs n = list_any (eq_by_cmp nat_cmp n) xs

abbrev IsLeast : List ℕ → Option ℕ → Type 0
IsLeast xs None = (n : ℕ) → among xs n ≡ false
IsLeast xs (Some m) = (among xs m ≡ true) × ((n : ℕ) → among xs n ≡ true → m ≤ n)

one_more : (x : ℕ) (xs : List ℕ) (o : Option ℕ) → IsLeast xs o → IsLeast (x ∷ xs) (Some (option_map_or (min x) o x))
one_more x xs None none = (
  or_left (eq_by_cmp nat_cmp x x) _ (unsigned_tied x x ∙ eq-eqb x x refl),
  λ n one.
      elim (or_cases (eq_by_cmp nat_cmp n x) (among xs n) one) [
        | inl here ↦ omega (arith, eqb-true n x (sym (unsigned_tied n x) ∙ here))
        | inr there ↦ absurd (both_ways (among xs n) (none n) there)
      ],
)
one_more x xs (Some m) is = (
  elim (cases_lt m x) [
    | inl less ↦
        let least : m ≡ min x m = omega arith in
        subst (λ k. among (x ∷ xs) k ≡ true) least (or_right (eq_by_cmp nat_cmp m x) _ is.0)
    | inr more ↦
        let least : x ≡ min x m = omega arith in
        subst (λ k. among (x ∷ xs) k ≡ true) least (or_left (eq_by_cmp nat_cmp x x) _ (unsigned_tied x x ∙ eq-eqb x x refl))
  ],
  λ n one.
      elim (or_cases (eq_by_cmp nat_cmp n x) (among xs n) one) [
        | inl here ↦ omega (arith, eqb-true n x (sym (unsigned_tied n x) ∙ here))
        | inr there ↦ omega (arith, is.1 n there)
      ],
)

IsLeast-least : (xs : List ℕ) → IsLeast xs (least xs)
IsLeast-least [] = λ n. refl
IsLeast-least (x ∷ xs) = one_more x xs (least xs) (IsLeast-least xs)

-- the lowest number of a set is in it, and no other of them is lower
pub record IsLowest (numbers : Numbers) (number : ℕ) : Type 0 where
  pub has : contains numbers number ≡ true
  pub least : (n : ℕ) → contains numbers n ≡ true → number ≤ n

found : (numbers : Numbers) (o : Option ℕ) → IsLeast (items numbers) o → o ≡ lowest numbers → (number : ℕ) → o ≡ Some number → IsLowest numbers number
found numbers None is same number e = cc
found numbers (Some m) is same number e =
    let equal : m ≡ number = cc in
    subst (IsLowest numbers) equal (record {
      has = contains-items numbers m ∙ is.0;
      least = λ n has. is.1 n (sym (contains-items numbers n) ∙ has);
    })

pub IsLowest-lowest : (numbers : Numbers) (number : ℕ) → lowest numbers ≡ Some number → IsLowest numbers number
IsLowest-lowest numbers number e = found numbers (lowest numbers) (IsLeast-least (items numbers)) refl number e

-- a set without a lowest number has none
pub none_lowest : (numbers : Numbers) → lowest numbers ≡ None → (n : ℕ) → contains numbers n ≡ false
none_lowest numbers e n = contains-items numbers n ∙ none (lowest numbers) (IsLeast-least (items numbers)) e
  where
    none : (o : Option ℕ) → IsLeast (items numbers) o → o ≡ None → among (items numbers) n ≡ false
    none None is e = is n
    none (Some m) is e = cc

-- a set in which this number is the lowest
pub lowest-IsLowest : (numbers : Numbers) (number : ℕ) → IsLowest numbers number → lowest numbers ≡ Some number
lowest-IsLowest numbers number is = go (lowest numbers) refl
  where
    go : (o : Option ℕ) → lowest numbers ≡ o → lowest numbers ≡ Some number
    go None e = absurd (both_ways (contains numbers number) (none_lowest numbers e number) is.has)
    go (Some m) e =
        let here = IsLowest-lowest numbers m e in
        let same : m ≡ number = omega (arith, here.least number is.has, is.least m here.has) in
        e ∙ ap Some same

pub lowest-none : (numbers : Numbers) → ((n : ℕ) → contains numbers n ≡ false) → lowest numbers ≡ None
lowest-none numbers none = go (lowest numbers) refl
  where
    go : (o : Option ℕ) → lowest numbers ≡ o → lowest numbers ≡ None
    go None e = e
    go (Some m) e = absurd (both_ways (contains numbers m) (none m) (IsLowest-lowest numbers m e).has)

-- a set has no lowest number exactly where it has none
pub lowest-empty : lowest empty ≡ None
lowest-empty = lowest-none empty (contains-empty nat_cmp)

pub empty_from_lowest : (numbers : Numbers) → lowest numbers ≡ None → numbers ≡ empty
empty_from_lowest numbers none = same_set nat_cmp_total nat_cmp-IsAntisymmetric numbers empty (λ n. none_lowest numbers none n ∙ sym (contains-empty nat_cmp n))

-- whether there is no lowest number is whether there is none
pub is_none-empty : (numbers : Numbers) (found : Option ℕ) (none : Bool) → found ≡ lowest numbers → is_some found ≡ not none → (none ≡ true → numbers ≡ empty) × (numbers ≡ empty → none ≡ true)
is_none-empty numbers None true is h = (λ _. empty_from_lowest numbers (sym is), λ _. refl)
is_none-empty numbers None false is h = cc
is_none-empty numbers (Some number) true is h = cc
is_none-empty numbers (Some number) false is h = (λ e. cc, λ e. let some : Some number ≡ None = is ∙ ap lowest e ∙ lowest-empty in cc)
