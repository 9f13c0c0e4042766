-- What a search of a range finds: the lowest number that passes, or none.
use Rattle.std.proofs.Common.{◌≡◌, ℕ, ◌+◌, ◌<◌, ◌≤◌, Bool, true, false, cond, find, Option, Some, None, zero, suc, inl, inr, refl, sym, ap, ◌∙◌, arith}
use Rattle.std.proofs.lemmas.Bool.{cases_eq, cases_lt, false≢true}
use Rattle.std.specs.List.{range_with_len}

-- This is the lowest number of a range that passes, or none does.

pub record IsLowest (test : ℕ → Bool) (from count found : ℕ) : Type 0 where
  pub passes : test found ≡ true
  pub low : from ≤ found
  pub high : found < from + count
  pub others : (n : ℕ) → from ≤ n → n < found → test n ≡ false

abbrev pub IsLowestOf : (ℕ → Bool) → ℕ → ℕ → Option ℕ → Type 0
IsLowestOf test from count None = (n : ℕ) → from ≤ n → n < from + count → test n ≡ false
IsLowestOf test from count (Some found) = IsLowest test from count found

pub find_is : (test : ℕ → Bool) (from count : ℕ) → IsLowestOf test from count (find test (range_with_len from count))
find_is test from zero = λ n low high. absurd (omega (arith, low, high))
find_is test from (suc count) = by (test from) refl (find test (range_with_len (from + 1) count)) (find_is test (from + 1) count)
  where
    others : (n bound : ℕ) → test from ≡ false → from ≤ n → ((n : ℕ) → from + 1 ≤ n → n < bound → test n ≡ false) → n < bound → test n ≡ false
    others n bound fails low behind high = elim (cases_eq n from) [
      | inl same ↦ ap test same ∙ fails
      | inr apart ↦ behind n (omega (arith, low, apart)) high
    ]

    by : (b : Bool) → test from ≡ b → (rest : Option ℕ) → IsLowestOf test (from + 1) count rest → IsLowestOf test from (suc count) (cond b (Some from) rest)
    by true is rest lowest = record { passes = is; low = omega arith; high = omega arith; others = λ n low below. absurd (omega (arith, low, below)) }
    by false is None lowest = λ n low high. others n (from + 1 + count) is low lowest (omega (arith, high))
    by false is (Some found) lowest = record {
      passes = lowest.passes;
      low = omega (arith, lowest.low);
      high = omega (arith, lowest.high);
      others = λ n low below. others n found is low lowest.others below;
    }

-- two that are the lowest are one
pub one_lowest : (test : ℕ → Bool) (from count : ℕ) (one other : Option ℕ) → IsLowestOf test from count one → IsLowestOf test from count other → one ≡ other
one_lowest test from count None None a b = refl
one_lowest test from count None (Some y) a b = absurd (false≢true (sym (a y b.low b.high) ∙ b.passes))
one_lowest test from count (Some x) None a b = absurd (false≢true (sym (b x a.low a.high) ∙ a.passes))
one_lowest test from count (Some x) (Some y) a b = ap Some (elim (cases_lt x y) [
  | inl less ↦ absurd (false≢true (sym (b.others x a.low less) ∙ a.passes))
  | inr more ↦ elim (cases_lt y x) [
    | inl less ↦ absurd (false≢true (sym (a.others y b.low less) ∙ b.passes))
    | inr most ↦ omega (arith, more, most)
  ]
])
