-- The sessions of the first panels, with one more.
use Rattle.std.proofs.Common.{◌≡◌, ℕ, ◌+◌, ◌<◌, inl, inr, List, [], ◌∷◌, ◌++◌, length, sym, subst, arith}
use Rattle.std.specs.Prelude.{slice_index_or}
use Rattle.std.proofs.lemmas.Bool.Decides.{leb_tells}
use Rattle.std.proofs.lemmas.List.{get_or_push, get_or_append_left}

-- What is so of each by its place is so of one more, and of all.
pub each_more : {S : Type 0} (P : ℕ → S → Type 0) (front : List S) (last : S) (count : ℕ) → length front ≡ count → ((place : ℕ) (other : S) → place < count → P place (slice_index_or front place other)) → P count last
    → (place : ℕ) (other : S) → place < count + 1 → P place (slice_index_or (front ++ last ∷ []) place other)
each_more P front last count is each added place other below = elim (leb_tells count place) [
  | inl later ↦
      let same : count ≡ place = omega (arith, below, later.1) in
      subst (λ (s : _). P place s) (sym (get_or_push front last other place (omega (arith, is, same)))) (subst (λ (n : ℕ). P n last) same added)
  | inr earlier ↦
      subst (λ (s : _). P place s) (sym (get_or_append_left front (last ∷ []) other place (omega (arith, is, earlier.1)))) (each place other earlier.1)
]
