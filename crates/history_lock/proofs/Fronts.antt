-- Fronts of one list.
use Rattle.std.proofs.Common.{◌≡◌, ◌+◌, ◌≤◌, List, [], ◌∷◌, ◌++◌, length, refl, ap, sym, ◌∙◌, arith, append_assoc, length-append, filter, Bool}
use Rattle.std.proofs.lemmas.List.Elements.{filter-append}
use Rattle.std.proofs.lemmas.List.{append-nil}
use mathlib.Core.List.{IsPrefix}

module _ {A : Type 0} where
  pub front_self : (xs : List A) → IsPrefix xs xs
  front_self xs = ([], append-nil xs)

  pub front_append : (xs ys : List A) → IsPrefix xs (xs ++ ys)
  front_append xs ys = (ys, refl)

  pub front_trans : (xs ys zs : List A) → IsPrefix xs ys → IsPrefix ys zs → IsPrefix xs zs
  front_trans xs ys zs p q = (p.0 ++ q.0, sym (append_assoc xs p.0 q.0) ∙ (ap (λ w. w ++ q.0) p.1 ∙ q.1))

  -- of two fronts of one list the shorter is a front of the longer
  pub front_shorter : (xs ys zs : List A) → IsPrefix xs zs → IsPrefix ys zs → length xs ≤ length ys → IsPrefix xs ys
  front_shorter [] ys zs p q le = (ys, refl)
  front_shorter (x ∷ xs) [] zs p q le = absurd (omega arith)
  front_shorter (x ∷ xs) (y ∷ ys) [] p q le = absurd (cc (p.1))
  front_shorter (x ∷ xs) (y ∷ ys) (z ∷ zs) p q le =
      let heads : x ≡ y = cc (p.1, q.1) in
      let rest = front_shorter xs ys zs (p.0, cc (p.1)) (q.0, cc (q.1)) (omega arith) in
      (rest.0, cc (heads, rest.1))

  none_left : (xs : List A) → length xs ≡ 0 → xs ≡ []
  none_left [] e = refl
  none_left (x ∷ xs) e = absurd (omega arith)

  -- what a filter finds in a whole and in its front, it finds in each front between
  pub found_between : (p : A → Bool) (xs ys zs : List A) → IsPrefix xs ys → IsPrefix ys zs → filter p zs ≡ filter p xs → filter p zs ≡ filter p ys
  found_between p xs ys zs a b found =
      let z : filter p zs ≡ filter p ys ++ filter p b.0 = ap (filter p) (sym b.1) ∙ filter-append p ys b.0 in
      let y : filter p ys ≡ filter p xs ++ filter p a.0 = ap (filter p) (sym a.1) ∙ filter-append p xs a.0 in
      let more : length (filter p zs) ≡ length (filter p ys) + length (filter p b.0) = ap length z ∙ length-append (filter p ys) (filter p b.0) in
      let some : length (filter p ys) ≡ length (filter p xs) + length (filter p a.0) = ap length y ∙ length-append (filter p xs) (filter p a.0) in
      let none : filter p b.0 ≡ [] = none_left (filter p b.0) (omega (arith, ap length found)) in
      z ∙ (ap (λ r. filter p ys ++ r) none ∙ append-nil (filter p ys))
