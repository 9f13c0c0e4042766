-- What stands at the places of a window after a write, and when it has moved on.
use Rattle.std.proofs.Common.{◌≡◌, ◌≢◌, ℕ, ◌+◌, ◌<◌, ◌≤◌, ◌⊎◌, zero, suc, List, [], ◌∷◌, ◌++◌, length, drop, replicate, slice_get, slice_set, Option, Some, None, cond, is_some, count_by, inl, inr, refl, sym, ap, ◌∙◌, arith}
use Rattle.std.proofs.lemmas.List.{length-append, length-drop, length-replicate}
use Rattle.std.proofs.lemmas.List.Sums.{sum_by-cons}

-- what stands at a place after a write is what was written there, or what stood before
pub set_cases : {X : Type 0} (xs : List X) (i n : ℕ) (x v : X) → slice_get (slice_set xs i x) n ≡ Some v → ((n ≡ i) × (v ≡ x)) ⊎ (slice_get xs n ≡ Some v)
set_cases [] i n x v e = inr e
set_cases (y ∷ ys) zero zero x v e =
    let both : Some x ≡ Some v = e in
    let same : v ≡ x = cc both in
    inl (refl, same)
set_cases (y ∷ ys) zero (suc n) x v e = inr e
set_cases (y ∷ ys) (suc i) zero x v e = inr e
set_cases (y ∷ ys) (suc i) (suc n) x v e = elim (set_cases ys i n x v e) [
  | inl here ↦ inl (ap suc here.0, here.1)
  | inr there ↦ inr there
]

pub get-set_same : {X : Type 0} (xs : List X) (i : ℕ) (x : X) → i < length xs → slice_get (slice_set xs i x) i ≡ Some x
get-set_same [] i x within = absurd (omega arith)
get-set_same (y ∷ ys) zero x within = refl
get-set_same (y ∷ ys) (suc i) x within = get-set_same ys i x (omega arith)

pub get-set_other : {X : Type 0} (xs : List X) (i n : ℕ) (x : X) → n ≢ i → slice_get (slice_set xs i x) n ≡ slice_get xs n
get-set_other [] i n x other = refl
get-set_other (y ∷ ys) zero zero x other = absurd (other refl)
get-set_other (y ∷ ys) zero (suc n) x other = refl
get-set_other (y ∷ ys) (suc i) zero x other = refl
get-set_other (y ∷ ys) (suc i) (suc n) x other = get-set_other ys i n x (λ e. other (ap suc e))

-- a write of what stands there changes nothing
pub set_same : {X : Type 0} (xs : List X) (i : ℕ) (x : X) → slice_get xs i ≡ Some x → slice_set xs i x ≡ xs
set_same [] i x e = refl
set_same (y ∷ ys) zero x e =
    let both : Some y ≡ Some x = e in
    let same : y ≡ x = cc both in
    ap (λ first. first ∷ ys) (sym same)
set_same (y ∷ ys) (suc i) x e = ap (λ rest. y ∷ rest) (set_same ys i x e)

pub get-drop : {X : Type 0} (count offset : ℕ) (xs : List X) → slice_get (drop count xs) offset ≡ slice_get xs (count + offset)
get-drop zero offset xs =
    let same : offset ≡ 0 + offset = omega arith in
    ap (slice_get xs) same
get-drop (suc count) offset [] = refl
get-drop (suc count) offset (x ∷ xs) =
    let same : suc (count + offset) ≡ suc count + offset = omega arith in
    get-drop count offset xs ∙ ap (slice_get (x ∷ xs)) same

pub get-append : {X : Type 0} (xs ys : List X) (n : ℕ) (x : X) → slice_get xs n ≡ Some x → slice_get (xs ++ ys) n ≡ Some x
get-append [] ys n x e = cc
get-append (y ∷ xs) ys zero x e = e
get-append (y ∷ xs) ys (suc n) x e = get-append xs ys n x e

module _ {X : Type 0} where
  nothing_at : (count n : ℕ) (x : X) → slice_get (replicate {A = Option X} count None) n ≡ Some (Some x) → ⊥
  nothing_at zero n x e = cc
  nothing_at (suc count) zero x e = cc
  nothing_at (suc count) (suc n) x e = nothing_at count n x e

  behind_none : (xs : List (Option X)) (count n : ℕ) (x : X) → slice_get (xs ++ replicate count None) n ≡ Some (Some x) → slice_get xs n ≡ Some (Some x)
  behind_none [] count n x e = absurd (nothing_at count n x e)
  behind_none (y ∷ xs) count zero x e = e
  behind_none (y ∷ xs) count (suc n) x e = behind_none xs count n x e

pub none_kept : {X : Type 0} (count n : ℕ) (x : X) → slice_get (replicate {A = Option X} count None) n ≡ Some (Some x) → ⊥
none_kept count n x e = nothing_at count n x e

pub first-replicate : {X : Type 0} (count : ℕ) → 1 ≤ count → slice_get (replicate {A = Option X} count None) 0 ≡ Some None
first-replicate zero some = absurd (omega arith)
first-replicate (suc count) some = refl

-- What is kept in a window that has moved on was kept before,
pub kept_before : {X : Type 0} (count offset : ℕ) (window : List (Option X)) (x : X) → slice_get (drop count window ++ replicate count None) offset ≡ Some (Some x) → slice_get window (count + offset) ≡ Some (Some x)
kept_before count offset window x e =
    sym (get-drop count offset window) ∙ behind_none (drop count window) count offset x e

-- and what was kept behind is kept still.
pub kept_still : {X : Type 0} (count offset : ℕ) (window : List (Option X)) (x : X) → slice_get window (count + offset) ≡ Some (Some x) → slice_get (drop count window ++ replicate count None) offset ≡ Some (Some x)
kept_still count offset window x e =
    get-append (drop count window) (replicate count None) offset (Some x) (get-drop count offset window ∙ e)

pub length-moved : {X : Type 0} (count : ℕ) (window : List (Option X)) → count ≤ length window → length (drop count window ++ replicate count None) ≡ length window
length-moved {X = X} count window within =
    omega (arith, length-append (drop count window) (replicate count None), length-drop count window, length-replicate {A = Option X} count None)

none-plus : (n : ℕ) → 0 + n ≡ n
none-plus n = omega arith

one-plus : (n : ℕ) → 1 + n ≡ n + 1
one-plus n = omega arith

plus-more : (k a b : ℕ) → a ≡ b + 1 → k + a ≡ k + b + 1
plus-more k a b e = omega (arith, e)

-- How many places keep something: the first is counted by itself,
count-first : {X : Type 0} (place : Option X) (window : List (Option X)) → count_by is_some (place ∷ window) ≡ cond (is_some place) 1 0 + count_by is_some window
count-first {X = X} place window = sum_by-cons (λ (place : Option X). cond (is_some place) 1 0) place window

-- as nothing where it is empty,
count-empty : {X : Type 0} (window : List (Option X)) → count_by is_some (None ∷ window) ≡ count_by is_some window
count-empty window = count-first None window ∙ none-plus (count_by is_some window)

-- and as one where it isn't.
count-full : {X : Type 0} (x : X) (window : List (Option X)) → count_by is_some (Some x ∷ window) ≡ count_by is_some window + 1
count-full x window = count-first (Some x) window ∙ one-plus (count_by is_some window)

-- what is kept at an empty place is one more
pub count-set : {X : Type 0} (window : List (Option X)) (offset : ℕ) (x : X) → slice_get window offset ≡ Some None → count_by is_some (slice_set window offset (Some x)) ≡ count_by is_some window + 1
count-set [] offset x e = cc
count-set (None ∷ window) zero x e = count-full x window ∙ ap (λ n. n + 1) (sym (count-empty window))
count-set (Some y ∷ window) zero x e = cc
count-set (place ∷ window) (suc offset) x e =
    count-first place (slice_set window offset (Some x))
    ∙ plus-more (cond (is_some place) 1 0) (count_by is_some (slice_set window offset (Some x))) (count_by is_some window) (count-set window offset x e)
    ∙ ap (λ n. n + 1) (sym (count-first place window))

-- Where nothing is kept all places are empty,
module _ {X : Type 0} where
  empty_behind : (place : Option X) (window : List (Option X)) → count_by is_some (place ∷ window) ≡ 0 → (place ≡ None) × (count_by is_some window ≡ 0)
  empty_behind None window e = (refl, sym (count-empty window) ∙ e)
  empty_behind (Some x) window e = absurd (omega (arith, e, count-full x window))

  empty_on : (window : List (Option X)) → count_by is_some window ≡ 0 → window ++ None ∷ [] ≡ None ∷ window
  empty_on [] e = refl
  empty_on (place ∷ window) e =
      let both = empty_behind place window e in
      ap (λ rest. place ∷ rest) (empty_on window both.1) ∙ ap (λ first. first ∷ None ∷ window) both.0 ∙ ap (λ second. None ∷ second ∷ window) (sym both.0)

-- and a window that has moved on is the same one.
pub moved_empty : {X : Type 0} (window : List (Option X)) → count_by is_some window ≡ 0 → slice_get window 0 ≡ Some None → drop 1 window ++ replicate 1 None ≡ window
moved_empty [] e first = cc
moved_empty (place ∷ window) e first =
    let both = empty_behind place window e in
    empty_on window both.1 ∙ ap (λ first. first ∷ window) (sym both.0)
