-- Whether some element of a list passes, and how many do.
use Rattle.std.proofs.Common.{◌≡◌, ℕ, ◌+◌, ◌≤◌, Bool, true, false, cond, ◌&&◌, ◌||◌, List, [], ◌∷◌, map, filter, count_by, slice_get, Some, zero, suc, refl, sym, ap, ◌∙◌, arith}
use Rattle.std.proofs.lemmas.Bool.{false≢true}
use Rattle.std.proofs.lemmas.List.Sums.{sum_by-cons}
use Rattle.std.specs.List.{list_any}

-- the place of an element that passes
pub any_place : {X : Type 0} (p : X → Bool) (xs : List X) → list_any p xs ≡ true → (place : ℕ) × (x : X) × (slice_get xs place ≡ Some x) × (p x ≡ true)
any_place p [] some = absurd (false≢true some)
any_place {X} p (x ∷ xs) some = by (p x) refl some (any_place p xs)
  where
    by : (b : Bool) → p x ≡ b → (b || list_any p xs) ≡ true → (list_any p xs ≡ true → (place : ℕ) × (y : X) × (slice_get xs place ≡ Some y) × (p y ≡ true)) → (place : ℕ) × (y : X) × (slice_get (x ∷ xs) place ≡ Some y) × (p y ≡ true)
    by true passes some behind = (0, x, refl, passes)
    by false fails some behind = let rest = behind some in (suc rest.0, rest.1, rest.2, rest.3)

pub any-map : {X Y : Type 0} (p : Y → Bool) (f : X → Y) (xs : List X) → list_any p (map f xs) ≡ list_any (λ x. p (f x)) xs
any-map p f [] = refl
any-map p f (x ∷ xs) = ap (λ b. p (f x) || b) (any-map p f xs)

pub any-filter : {X : Type 0} (p q : X → Bool) (xs : List X) → list_any p (filter q xs) ≡ list_any (λ x. q x && p x) xs
any-filter p q [] = refl
any-filter p q (x ∷ xs) = by (q x) (any-filter p q xs)
  where
    by : (b : Bool) → list_any p (filter q xs) ≡ list_any (λ x. q x && p x) xs → list_any p (cond b (x ∷ filter q xs) (filter q xs)) ≡ ((b && p x) || list_any (λ x. q x && p x) xs)
    by true rest = ap (λ b. p x || b) rest
    by false rest = rest

pub any_never : {X : Type 0} (xs : List X) → list_any (λ (x : X). false) xs ≡ false
any_never [] = refl
any_never (x ∷ xs) = any_never xs

pub filter_never : {X : Type 0} (xs : List X) → filter (λ (x : X). false) xs ≡ []
filter_never [] = refl
filter_never (x ∷ xs) = filter_never xs

-- what passes one test passes the other
module _ {X : Type 0} (one other : X → Bool) (wider : (x : X) → one x ≡ true → other x ≡ true) where
  pub count_wider : (xs : List X) → count_by one xs ≤ count_by other xs
  count_wider [] = omega arith
  count_wider (x ∷ xs) =
      let here = sum_by-cons (λ x. cond (one x) 1 0) x xs in
      let there = sum_by-cons (λ x. cond (other x) 1 0) x xs in
      by (one x) (other x) refl refl here there (count_wider xs)
    where
      by : (b c : Bool) → one x ≡ b → other x ≡ c → count_by one (x ∷ xs) ≡ cond b 1 0 + count_by one xs → count_by other (x ∷ xs) ≡ cond c 1 0 + count_by other xs → count_by one xs ≤ count_by other xs → count_by one (x ∷ xs) ≤ count_by other (x ∷ xs)
      by true true passes too here there rest = omega (arith, here, there, rest)
      by true false passes fails here there rest = absurd (false≢true (sym fails ∙ wider x passes))
      by false true passes too here there rest = omega (arith, here, there, rest)
      by false false passes too here there rest = omega (arith, here, there, rest)

  -- where no more elements pass the wider test, each that passes the one passes the other
  pub count_same : (xs : List X) → count_by other xs ≡ count_by one xs → (place : ℕ) (x : X) → slice_get xs place ≡ Some x → other x ≡ one x
  count_same [] same place x at = cc
  count_same (y ∷ xs) same place x at =
      let here = sum_by-cons (λ x. cond (one x) 1 0) y xs in
      let there = sum_by-cons (λ x. cond (other x) 1 0) y xs in
      by (one y) (other y) refl refl here there place at (count_wider xs) (λ rest place at. count_same xs rest place x at)
    where
      by : (b c : Bool) → one y ≡ b → other y ≡ c → count_by one (y ∷ xs) ≡ cond b 1 0 + count_by one xs → count_by other (y ∷ xs) ≡ cond c 1 0 + count_by other xs → (place : ℕ) → slice_get (y ∷ xs) place ≡ Some x → count_by one xs ≤ count_by other xs → (count_by other xs ≡ count_by one xs → (place : ℕ) → slice_get xs place ≡ Some x → other x ≡ one x) → other x ≡ one x
      by true false passes fails here there place at more behind = absurd (false≢true (sym fails ∙ wider y passes))
      by false true fails passes here there place at more behind = absurd (omega (arith, here, there, same, more))
      by true true passes too here there zero at more behind = let it : y ≡ x = cc in ap other (sym it) ∙ too ∙ sym passes ∙ ap one it
      by true true passes too here there (suc place) at more behind = behind (omega (arith, here, there, same)) place at
      by false false passes too here there zero at more behind = let it : y ≡ x = cc in ap other (sym it) ∙ too ∙ sym passes ∙ ap one it
      by false false passes too here there (suc place) at more behind = behind (omega (arith, here, there, same)) place at

-- where none is counted, none passes
pub count_none : {X : Type 0} (p : X → Bool) (xs : List X) → count_by p xs ≡ 0 → (place : ℕ) (x : X) → slice_get xs place ≡ Some x → p x ≡ false
count_none p [] none place x at = cc
count_none p (y ∷ xs) none place x at =
    let here = sum_by-cons (λ x. cond (p x) 1 0) y xs in
    by (p y) refl here place at (λ rest place at. count_none p xs rest place x at)
  where
    by : (b : Bool) → p y ≡ b → count_by p (y ∷ xs) ≡ cond b 1 0 + count_by p xs → (place : ℕ) → slice_get (y ∷ xs) place ≡ Some x → (count_by p xs ≡ 0 → (place : ℕ) → slice_get xs place ≡ Some x → p x ≡ false) → p x ≡ false
    by true passes here place at behind = absurd (omega (arith, here, none))
    by false fails here zero at behind = let it : y ≡ x = cc in ap p (sym it) ∙ fails
    by false fails here (suc place) at behind = behind (omega (arith, here, none)) place at
