-- What a search of a range finds.
use Rattle.std.proofs.Common.{◌≡◌, ℕ, ◌+◌, ◌<◌, ◌≤◌, Bool, true, false, cond, List, [], ◌∷◌, find, Some, None, zero, suc, inl, inr, refl, sym, ap, ◌∙◌, arith}
use Rattle.std.proofs.lemmas.Bool.{cases_eq}
use Rattle.std.specs.List.{range_with_len}

-- what is found passes
pub found_passes : {X : Type 0} (test : X → Bool) (xs : List X) (found : X) → find test xs ≡ Some found → test found ≡ true
found_passes test [] found e = cc
found_passes test (x ∷ xs) found e = by (test x) refl (found_passes test xs found)
  where
    by : (b : Bool) → test x ≡ b → (find test xs ≡ Some found → test found ≡ true) → test found ≡ true
    by true passes behind =
        let here : Some x ≡ Some found = sym (ap (λ b. cond b (Some x) (find test xs)) passes) ∙ e in
        let same : x ≡ found = cc in
        ap test (sym same) ∙ passes
    by false fails behind = behind (sym (ap (λ b. cond b (Some x) (find test xs)) fails) ∙ e)

-- where nothing is found, no number of the range passes
pub none_passes : (test : ℕ → Bool) (from count : ℕ) → find test (range_with_len from count) ≡ None → (n : ℕ) → from ≤ n → n < from + count → test n ≡ false
none_passes test from zero e n low high = absurd (omega arith)
none_passes test from (suc count) e n low high = by (test from) refl (none_passes test (from + 1) count)
  where
    by : (b : Bool) → test from ≡ b → (find test (range_with_len (from + 1) count) ≡ None → (n : ℕ) → from + 1 ≤ n → n < from + 1 + count → test n ≡ false) → test n ≡ false
    by true passes behind =
        let wrong : Some from ≡ None = sym (ap (λ b. cond b (Some from) (find test (range_with_len (from + 1) count))) passes) ∙ e in
        cc
    by false fails behind =
        let rest : find test (range_with_len (from + 1) count) ≡ None = sym (ap (λ b. cond b (Some from) (find test (range_with_len (from + 1) count))) fails) ∙ e in
        elim (cases_eq n from) [
          | inl same ↦ ap test same ∙ fails
          | inr other ↦ behind rest n (omega (arith, other)) (omega arith)
        ]
