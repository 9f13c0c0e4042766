-- Lists joined end to end: where each piece is in the whole, and what is known of each element by its number.
use Rattle.std.proofs.Common.{◌≡◌, ℕ, ◌+◌, ◌<◌, ◌≤◌, ◌==◌, zero, suc, List, [], ◌∷◌, ◌++◌, All, IfSome, length, get_or, map, take, drop, filter, flat_map, sum_by, slice_get, refl, sym, ap, ◌∙◌, subst, arith}
use Rattle.std.specs.List.{enumerate_from}
use Rattle.std.proofs.lemmas.Bool.{eq-eqb, ne_eqb}
use Rattle.std.proofs.lemmas.List.{append-nil, take_at, drop_at, drop-drop}
use Rattle.std.proofs.lemmas.List.Elements.{All-nil, All-append, filter-append}
use Rattle.std.proofs.lemmas.List.Sums.{sum_by-cons}
use Rattle.plant_config.proofs.Groups.{filter_all, filter_none}

-- every element is so, by its number, and the first one has this number
abbrev pub ArePlacedFrom : {X : Type 0} → (ℕ → X → Type 0) → ℕ → List X → Type 0
ArePlacedFrom P from [] = Unit {0}
ArePlacedFrom P from (x ∷ xs) = P from x × ArePlacedFrom P (from + 1) xs

module _ {X : Type 0} (P : ℕ → X → Type 0) where
  pub placed_get : (from : ℕ) (xs : List X) → ArePlacedFrom P from xs → (k : ℕ) → IfSome (slice_get xs k) (P (from + k))
  placed_get from [] placed k = tt
  placed_get from (x ∷ xs) placed zero = let e : from ≡ from + 0 = omega arith in subst (λ n. P n x) e placed.0
  placed_get from (x ∷ xs) placed (suc k) =
      let e : from + 1 + k ≡ from + suc k = omega arith in
      subst (λ n. IfSome (slice_get xs k) (P n)) e (placed_get (from + 1) xs placed.1 k)

  pub placed_append : (from : ℕ) (xs ys : List X) → ArePlacedFrom P from xs → ArePlacedFrom P (from + length xs) ys → ArePlacedFrom P from (xs ++ ys)
  placed_append from [] ys these those = let e : from + 0 ≡ from = omega arith in subst (λ n. ArePlacedFrom P n ys) e those
  placed_append from (x ∷ xs) ys these those =
      let e : from + suc (length xs) ≡ from + 1 + length xs = omega arith in
      (these.0, placed_append (from + 1) xs ys these.1 (subst (λ n. ArePlacedFrom P n ys) e those))

  -- numbered elements, each of which gives one
  pub placed_numbered : {Y : Type 0} (f : ℕ × Y → X) (from start : ℕ) (ys : List Y) →
      ((k : ℕ) (d : Y) → k < length ys → P (from + k) (f (start + k, get_or ys k d))) → ArePlacedFrom P from (map f (enumerate_from start ys))
  placed_numbered f from start [] each = tt
  placed_numbered f from start (y ∷ ys) each =
      let here : from + 0 ≡ from = omega arith in
      let first : start + 0 ≡ start = omega arith in
      let head : P from (f (start, y)) = subst (λ n. P n (f (start, y))) here (subst (λ n. P (from + 0) (f (n, y))) first (each 0 y (omega arith))) in (
        head,
        placed_numbered f (from + 1) (start + 1) ys (λ k d below.
            let next : from + suc k ≡ from + 1 + k = omega arith in
            let second : start + suc k ≡ start + 1 + k = omega arith in
            subst (λ n. P n (f (start + 1 + k, get_or ys k d))) next (subst (λ n. P (from + suc k) (f (n, get_or ys k d))) second (each (suc k) d (omega arith)))),
      )

  -- what is so by its number is so at its place
  pub placed_at : (xs : List X) → ArePlacedFrom P 0 xs → (k : ℕ) → IfSome (slice_get xs k) (P k)
  placed_at xs placed k = let e : 0 + k ≡ k = omega arith in subst (λ n. IfSome (slice_get xs k) (P n)) e (placed_get 0 xs placed k)

  pub placed_from_first : {Y : Type 0} (f : ℕ × Y → X) (from : ℕ) (ys : List Y) →
      ((k : ℕ) (d : Y) → k < length ys → P (from + k) (f (k, get_or ys k d))) → ArePlacedFrom P from (map f (enumerate_from 0 ys))
  placed_from_first f from ys each =
      placed_numbered f from 0 ys (λ k d below. let e : k ≡ 0 + k = omega arith in subst (λ n. P (from + k) (f (n, get_or ys k d))) e (each k d below))

-- what a whole list of pieces has behind those in front of it
pub past_front : {X : Type 0} (front rest : List X) (more : ℕ) → drop (length front + more) (front ++ rest) ≡ drop more rest
past_front front rest more = sym (drop-drop more (length front) (front ++ rest)) ∙ ap (drop more) (drop_at front rest (length front) refl)

module _ {X A : Type 0} (f : ℕ → X → List A) (size : X → ℕ) (sized : (n : ℕ) (x : X) → length (f n x) ≡ size x) where
  abbrev pub all_from : ℕ → List X → List A
  all_from from xs = flat_map (λ (numbered : ℕ × X). f numbered.0 numbered.1) (enumerate_from from xs)

  -- the piece of an element is behind those of the elements in front of it
  pub piece_is : (from : ℕ) (xs : List X) (i : ℕ) (d : X) → i < length xs →
      take (size (get_or xs i d)) (drop (sum_by size (take i xs)) (all_from from xs)) ≡ f (from + i) (get_or xs i d)
  piece_is from [] i d within = absurd (omega arith)
  piece_is from (x ∷ xs) zero d within = let e : from + 0 ≡ from = omega arith in rw e (take_at (f from x) (all_from (from + 1) xs) (size x) (sized from x))
  piece_is from (x ∷ xs) (suc i) d within =
      let e : from + suc i ≡ from + 1 + i = omega arith in
      let behind : sum_by size (x ∷ take i xs) ≡ length (f from x) + sum_by size (take i xs) = sum_by-cons size x (take i xs) ∙ ap (λ n. n + sum_by size (take i xs)) (sym (sized from x)) in
      rw (behind, past_front (f from x) (all_from (from + 1) xs) (sum_by size (take i xs)), e) (piece_is (from + 1) xs i d (omega arith))

  -- what holds of each piece's elements holds of all
  pub all_pieces : (P : A → Type 0) (from : ℕ) (xs : List X) → ((k : ℕ) (d : X) → k < length xs → All P (f (from + k) (get_or xs k d))) → All P (all_from from xs)
  all_pieces P from [] each = All-nil P
  all_pieces P from (x ∷ xs) each =
      let here : from + 0 ≡ from = omega arith in
      All-append P (f from x) (all_from (from + 1) xs) (subst (λ n. All P (f n x)) here (each 0 x (omega arith)))
      (all_pieces P (from + 1) xs (λ k d below. let next : from + suc k ≡ from + 1 + k = omega arith in subst (λ n. All P (f n (get_or xs k d))) next (each (suc k) d (omega arith))))

  module _ (tag : A → ℕ) (tagged : (n : ℕ) (x : X) → All (λ a. tag a ≡ n) (f n x)) where
    later : (from low : ℕ) (xs : List X) → low ≤ from → All (λ a. low ≤ tag a) (all_from from xs)
    later from low [] above = All-nil (λ a. low ≤ tag a)
    later from low (x ∷ xs) above =
        All-append (λ a. low ≤ tag a) (f from x) (all_from (from + 1) xs)
        (λ k d below. let e = tagged from x k d below in omega (arith, e))
        (later (from + 1) low xs (omega arith))

    -- the piece of an element is what is tagged with its number
    pub piece_tagged : (from : ℕ) (xs : List X) (i : ℕ) (d : X) → i < length xs → filter (λ a. tag a == (from + i)) (all_from from xs) ≡ f (from + i) (get_or xs i d)
    piece_tagged from [] i d within = absurd (omega arith)
    piece_tagged from (x ∷ xs) zero d within =
        let e : from + 0 ≡ from = omega arith in
        rw (
          e,
          filter-append (λ a. tag a == from) (f from x) (all_from (from + 1) xs),
          filter_all (λ a. tag a == from) (f from x) (λ k d below. eq-eqb _ _ (tagged from x k d below)),
          filter_none (λ a. tag a == from) (all_from (from + 1) xs) (λ k d below. ne_eqb _ _ (λ same. let high = later (from + 1) (from + 1) xs (omega arith) k d below in omega (arith, same, high))),
        )
        (append-nil (f from x))
    piece_tagged from (x ∷ xs) (suc i) d within =
        let e : from + suc i ≡ from + 1 + i = omega arith in
        rw (
          e,
          filter-append (λ a. tag a == (from + 1 + i)) (f from x) (all_from (from + 1) xs),
          filter_none (λ a. tag a == (from + 1 + i)) (f from x) (λ k d below. ne_eqb _ _ (λ same. let one = tagged from x k d below in omega (arith, same, one))),
        )
        (piece_tagged (from + 1) xs i d (omega arith))
