-- Counts of the numbers below a limit.
use Rattle.std.proofs.Common.{◌≡◌, ℕ, ◌+◌, ◌<◌, Bool, true, false, List, [], ◌∷◌, ◌++◌, cond, refl, sym, ◌∙◌, ap, arith, count_by, zero, suc}
use Rattle.std.specs.List.{range_with_len}
use Rattle.std.proofs.lemmas.List.Sums.{sum_by-cons, sum_by_push}

-- what is so of the same numbers below a limit is counted alike
pub same_counts : (p q : ℕ → Bool) (first count : ℕ) → ((n : ℕ) → n < first + count → p n ≡ q n) → count_by p (range_with_len first count) ≡ count_by q (range_with_len first count)
same_counts p q first zero same = refl
same_counts p q first (suc count) same =
    sum_by-cons (λ (k : ℕ). cond (p k) 1 0) first (range_with_len (first + 1) count)
    ∙ (λ i. cond (same first (omega arith) i) 1 0 + same_counts p q (first + 1) count (λ n below. same n (omega (arith, below))) i)
    ∙ sym (sum_by-cons (λ (k : ℕ). cond (q k) 1 0) first (range_with_len (first + 1) count))

-- one number more
range_push : (a n : ℕ) → range_with_len a (suc n) ≡ range_with_len a n ++ (a + n) ∷ []
range_push a zero = ap (λ (k : ℕ). k ∷ []) (omega arith)
range_push a (suc n) = ap (λ (more : List ℕ). a ∷ more) (range_push (a + 1) n ∙ ap (λ (k : ℕ). range_with_len (a + 1) n ++ k ∷ []) (omega arith))

count_more : (p : ℕ → Bool) (n : ℕ) → count_by p (range_with_len 0 (n + 1)) ≡ count_by p (range_with_len 0 n) + cond (p n) 1 0
count_more p n =
    let next : n + 1 ≡ suc n = omega arith in
    let here : 0 + n ≡ n = omega arith in
    ap (λ (k : ℕ). count_by p (range_with_len 0 k)) next ∙ ap (λ (numbers : List ℕ). count_by p numbers) (range_push 0 n)
    ∙ ap (λ (k : ℕ). count_by p (range_with_len 0 n ++ k ∷ [])) here ∙ sum_by_push (λ (k : ℕ). cond (p k) 1 0) (range_with_len 0 n) n

-- a number that counts, and one that doesn't
pub counted_yes : (p : ℕ → Bool) (n count new : ℕ) → p n ≡ true → new ≡ count + 1 → count ≡ count_by p (range_with_len 0 n) → new ≡ count_by p (range_with_len 0 (n + 1))
counted_yes p n count new counts more so =
    let one : ◌≡◌ {A = ℕ} (cond (p n) 1 0) 1 = ap (λ (b : Bool). cond {A = ℕ} b 1 0) counts in
    omega (arith, one, more, so, count_more p n)

pub counted_no : (p : ℕ → Bool) (n count new : ℕ) → p n ≡ false → new ≡ count → count ≡ count_by p (range_with_len 0 n) → new ≡ count_by p (range_with_len 0 (n + 1))
counted_no p n count new not same so =
    let none : ◌≡◌ {A = ℕ} (cond (p n) 1 0) 0 = ap (λ (b : Bool). cond {A = ℕ} b 1 0) not in
    omega (arith, none, same, so, count_more p n)
