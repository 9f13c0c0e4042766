-- How many numbers of a range pass a test, where the test changes at one number.
use Rattle.std.proofs.Common.{◌≡◌, ◌≢◌, ℕ, ◌+◌, ◌<◌, ◌≤◌, Bool, true, false, cond, count_by, zero, suc, inl, inr, refl, ap, ◌∙◌, arith}
use Rattle.std.proofs.lemmas.Bool.{cases_eq}
use Rattle.std.proofs.lemmas.List.Sums.{sum_by-cons}
use Rattle.std.specs.List.{range_with_len}

-- one for a test that is passed
abbrev one_if : Bool → ℕ
one_if b = cond b 1 0

counted : (test : ℕ → Bool) (from count : ℕ) → count_by test (range_with_len from (suc count)) ≡ one_if (test from) + count_by test (range_with_len (from + 1) count)
counted test from count = sum_by-cons (λ x. cond (test x) 1 0) from (range_with_len (from + 1) count)

summed : (a b x y m n : ℕ) → m ≡ a + x → n ≡ b + y → a ≡ b → x ≡ y → m ≡ n
summed a b x y m n p q r s = omega arith

summed_fewer : (a b x y m n : ℕ) → m ≡ a + x → n ≡ b + y → a ≡ b → x + 1 ≡ y → m + 1 ≡ n
summed_fewer a b x y m n p q r s = omega arith

summed_here : (a b x y m n : ℕ) → m ≡ a + x → n ≡ b + y → a ≡ 0 → b ≡ 1 → x ≡ y → m + 1 ≡ n
summed_here a b x y m n p q r s t = omega arith

pub count_alike : (old new : ℕ → Bool) (from count : ℕ) → ((n : ℕ) → from ≤ n → n < from + count → new n ≡ old n) → count_by new (range_with_len from count) ≡ count_by old (range_with_len from count)
count_alike old new from zero alike = refl
count_alike old new from (suc count) alike =
    summed (one_if (new from)) (one_if (old from)) (count_by new (range_with_len (from + 1) count)) (count_by old (range_with_len (from + 1) count)) _ _
    (counted new from count) (counted old from count) (ap one_if (alike from (omega arith) (omega arith)))
    (count_alike old new (from + 1) count (λ n low high. alike n (omega (arith, low)) (omega (arith, high))))

-- one number passes no more
pub count_fewer : (old new : ℕ → Bool) (from count at : ℕ) → from ≤ at → at < from + count → old at ≡ true → new at ≡ false → ((n : ℕ) → n ≢ at → new n ≡ old n) → count_by new (range_with_len from count) + 1 ≡ count_by old (range_with_len from count)
count_fewer old new from zero at low high was is others = absurd (omega arith)
count_fewer old new from (suc count) at low high was is others =
    elim (cases_eq from at) [
      | inl same ↦
          summed_here (one_if (new from)) (one_if (old from)) (count_by new (range_with_len (from + 1) count)) (count_by old (range_with_len (from + 1) count)) _ _
          (counted new from count) (counted old from count) (ap one_if (ap new same ∙ is)) (ap one_if (ap old same ∙ was))
          (count_alike old new (from + 1) count (λ n above high. others n (λ e. absurd (omega (arith, above, e, same)))))
      | inr apart ↦
          summed_fewer (one_if (new from)) (one_if (old from)) (count_by new (range_with_len (from + 1) count)) (count_by old (range_with_len (from + 1) count)) _ _
          (counted new from count) (counted old from count) (ap one_if (others from apart))
          (count_fewer old new (from + 1) count at (omega (arith, low, apart)) (omega (arith, high)) was is others)
    ]
