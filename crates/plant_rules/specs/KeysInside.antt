-- Keys of one number, of two and of three are compared as their numbers are, one behind the other.
use Rattle.std.proofs.Common.{◌≡◌, ℕ, [], ◌∷◌, bytes_eq, Less, Equal, Greater, refl, sym, ap, ◌∙◌}
use Rattle.std.specs.declared.cmp.Ordering.{Ordering}
use Rattle.std.specs.Ordering.{is_eq, ordering_then, nat_cmp}
use Rattle.std.proofs.lemmas.Map.Text.{is_eq-slice_cmp}

then-Equal : (order : Ordering) → ordering_then order Equal ≡ order
then-Equal Less = refl
then-Equal Equal = refl
then-Equal Greater = refl

then_assoc : (first second third : Ordering)
    → ordering_then (ordering_then first second) third
    ≡ ordering_then first (ordering_then second third)
then_assoc Less second third = refl
then_assoc Equal second third = refl
then_assoc Greater second third = refl

pub number-agrees : (a b : ℕ) → is_eq (nat_cmp a b) ≡ bytes_eq (a ∷ []) (b ∷ [])
number-agrees a b = ap is_eq (sym (then-Equal (nat_cmp a b))) ∙ is_eq-slice_cmp (a ∷ []) (b ∷ [])

pub pair-agrees : (a b c d : ℕ)
    → is_eq (ordering_then (nat_cmp a c) (nat_cmp b d)) ≡ bytes_eq (a ∷ b ∷ []) (c ∷ d ∷ [])
pair-agrees a b c d =
    ap (λ order. is_eq (ordering_then (nat_cmp a c) order))
    (sym (then-Equal (nat_cmp b d))) ∙ is_eq-slice_cmp (a ∷ b ∷ []) (c ∷ d ∷ [])

pub triple-agrees : (a b c d e f : ℕ)
    → is_eq (ordering_then (ordering_then (nat_cmp a d) (nat_cmp b e)) (nat_cmp c f))
    ≡ bytes_eq (a ∷ b ∷ c ∷ []) (d ∷ e ∷ f ∷ [])
triple-agrees a b c d e f =
    ap is_eq (then_assoc (nat_cmp a d) (nat_cmp b e) (nat_cmp c f))
    ∙ ap (λ order. is_eq (ordering_then (nat_cmp a d) (ordering_then (nat_cmp b e) order)))
    (sym (then-Equal (nat_cmp c f)))
    ∙ is_eq-slice_cmp (a ∷ b ∷ c ∷ []) (d ∷ e ∷ f ∷ [])
