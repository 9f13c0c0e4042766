-- Entries whose keys differ: no two of them are the same, and neither are numbers that tell the keys.
use Rattle.std.proofs.Common.{◌≡◌, ◌≢◌, ℕ, ◌<◌, nat_eq, List, [], ◌∷◌, All, AllPairs, length, map, sym, ◌∙◌, arith}
use Rattle.std.specs.List.{IsDistinct}
use Rattle.std.proofs.lemmas.Bool.Decides.{Decides-eqb}
use Rattle.std.proofs.lemmas.List.{get_or-map, length-map}
use Rattle.std.proofs.lemmas.Map.Made.{AllPairs-from_IsDistinct, IsDistinct-from_AllPairs}
use Rattle.std.proofs.lemmas.Slice.Eq.{bytes_eq-Decides}
use Rattle.plant_rules.specs.IsFile.{AllDiffer}

module _ {X : Type 0} (key : X → List ℕ) where
  pub pairs_differ : (xs : List X) → AllDiffer (map key xs) → AllPairs (λ x y. key x ≢ key y) xs
  pairs_differ xs differ i j d before within same =
      let many = length-map xs key in
      AllPairs-from_IsDistinct bytes_eq-Decides (map key xs) differ i j (key d) before (omega (arith, many))
      (get_or-map key xs i d (key d) (omega arith) ∙ same ∙ sym (get_or-map key xs j d (key d) within))

  -- numbers from which the keys follow differ
  pub numbers_differ : (IsOne : X → Type 0) (number : X → ℕ) → ((x y : X) → IsOne x → IsOne y → number x ≡ number y → key x ≡ key y) →
      (xs : List X) → All IsOne xs → AllDiffer (map key xs) → IsDistinct nat_eq (map number xs)
  numbers_differ IsOne number tells [] all differ = IsDistinct-from_AllPairs Decides-eqb [] (λ i j d before within. absurd (omega arith))
  numbers_differ IsOne number tells (one ∷ more) all differ =
      let xs = one ∷ more in
      IsDistinct-from_AllPairs Decides-eqb (map number xs) (λ i j d before within same.
      let many = length-map xs number in
      let there : j < length xs = omega (arith, many) in
      let here : i < length xs = omega (arith, many) in
      pairs_differ xs differ i j one before there
      (tells _ _ (all i one here) (all j one there) (sym (get_or-map number xs i one d here) ∙ same ∙ get_or-map number xs j one d there)))
