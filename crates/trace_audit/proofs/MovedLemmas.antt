-- Lists that are moved as what is made of them.
use Rattle.std.proofs.Common.{◌≡◌, ℕ, List, [], ◌∷◌, map, set, get_or, length, refl, ap, ◌∙◌, arith}
use Rattle.std.specs.List.{swap}
use Rattle.std.specs.List.Sorted.{IsPermutation}
use Rattle.std.proofs.Math.ListN.{length-map, get_or-map}
use Rattle.std.proofs.Math.Seq.{map-set}
use Rattle.std.proofs.lemmas.List.Sorted.{IsPermutation-refl, IsPermutation-trans, IsPermutation-swap, IsPermutation-keeps}

module _ {A B : Type 0} (f : A → B) where
  map-swap : (list : List A) (i j : ℕ) → swap (map f list) i j ≡ map f (swap list i j)
  map-swap [] i j = refl
  map-swap (first ∷ list) i j =
      let one : get_or (map f (first ∷ list)) i (f first) ≡ f (get_or (first ∷ list) i first) = get_or-map f (first ∷ list) i first in
      let other : get_or (map f (first ∷ list)) j (f first) ≡ f (get_or (first ∷ list) j first) = get_or-map f (first ∷ list) j first in
      let inner : map f (set (first ∷ list) i (get_or (first ∷ list) j first)) ≡ set (map f (first ∷ list)) i (f (get_or (first ∷ list) j first)) =
      map-set f (first ∷ list) i (get_or (first ∷ list) j first) in
      let outer : map f (set (set (first ∷ list) i (get_or (first ∷ list) j first)) j (get_or (first ∷ list) i first)) ≡
      set (map f (set (first ∷ list) i (get_or (first ∷ list) j first))) j (f (get_or (first ∷ list) i first)) =
      map-set f (set (first ∷ list) i (get_or (first ∷ list) j first)) j (get_or (first ∷ list) i first) in
      cc

  -- What is made of a list, in another order, is made of the list in another order.
  pub record IsMadeOf (list : List A) (made : List B) : Type 0 where
    pub moved : List A
    pub order : IsPermutation list moved
    pub is : made ≡ map f moved

  pub map-moved : (list : List A) (made : List B) → IsPermutation (map f list) made → IsMadeOf list made
  map-moved list made order =
      IsPermutation-keeps (map f list) (IsMadeOf list) (record { moved = list; order = IsPermutation-refl list; is = refl })
      (λ here i j within below so.
      let long : length here ≡ length so.moved = ap (length {A = B}) so.is ∙ length-map so.moved f in
      record {
        moved = swap so.moved i j;
        order = IsPermutation-trans list so.moved (swap so.moved i j) so.order (IsPermutation-swap so.moved (swap so.moved i j) i j (omega arith) (omega arith) refl);
        is = ap (λ (items : List B). swap items i j) so.is ∙ map-swap so.moved i j;
      }) made order
