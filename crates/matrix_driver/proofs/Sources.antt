-- Comparisons of sources and crosspoints.
use Rattle.std.proofs.Common.{◌≡◌, ℕ, nat_eq, Bool, true, false, Option, Some, None, refl, sym, ap, ◌∙◌, eq-eqb, eqb-true}
use Rattle.std.specs.Option.{option_eq}

pub same_source : (one other : Option ℕ) → option_eq nat_eq one other ≡ true → one ≡ other
same_source None None e = refl
same_source None (Some b) e = cc
same_source (Some a) None e = cc
same_source (Some a) (Some b) e = ap Some (eqb-true a b e)

pub source_itself : (one : Option ℕ) → option_eq nat_eq one one ≡ true
source_itself None = refl
source_itself (Some a) = eq-eqb a a refl

pub source_back : (one other : Option ℕ) → option_eq nat_eq one other ≡ option_eq nat_eq other one
source_back one other = by (option_eq nat_eq one other) refl (option_eq nat_eq other one) refl
  where
    by : (b : Bool) → option_eq nat_eq one other ≡ b → (d : Bool) → option_eq nat_eq other one ≡ d → option_eq nat_eq one other ≡ option_eq nat_eq other one
    by true e true f = e ∙ sym f
    by false e false f = e ∙ sym f
    by true e false f =
        let same = same_source one other e in
        e ∙ sym (source_itself other) ∙ ap (option_eq nat_eq other) (sym same)
    by false e true f =
        let same = same_source other one f in
        ap (λ x. option_eq nat_eq x other) (sym same) ∙ source_itself other ∙ sym f
