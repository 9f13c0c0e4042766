-- What stands at an index after a write.
use Rattle.std.proofs.Common.{◌≡◌, ◌≢◌, ◌⊎◌, ℕ, ◌<◌, ◌==◌, Bool, true, false, cond, List, [], ◌∷◌, map, set, length, Option, Some, None, zero, suc, inl, inr, refl, sym, ap, ◌∙◌, arith, eq-eqb, length-set}
use Rattle.std.proofs.lemmas.Bool.{cases_eq, ne_eqb}
use Rattle.std.specs.List.{slice_get}
use Rattle.std.specs.Option.{option_flatten, unwrap_or}
use Rattle.tap_lists.specs.ListsInside.{value_at, put_at, leads, list_at, IsWithin}

slice_get-set_same : {A : Type 0} (xs : List A) (i : ℕ) (x : A) → i < length xs → slice_get (set xs i x) i ≡ Some x
slice_get-set_same [] i x within = absurd (omega arith)
slice_get-set_same (y ∷ ys) zero x within = refl
slice_get-set_same (y ∷ ys) (suc i) x within = slice_get-set_same ys i x (omega arith)

slice_get-set_other : {A : Type 0} (xs : List A) (i n : ℕ) (x : A) → i ≢ n → slice_get (set xs i x) n ≡ slice_get xs n
slice_get-set_other [] i n x other = refl
slice_get-set_other (y ∷ ys) zero zero x other = absurd (other refl)
slice_get-set_other (y ∷ ys) zero (suc n) x other = refl
slice_get-set_other (y ∷ ys) (suc i) zero x other = refl
slice_get-set_other (y ∷ ys) (suc i) (suc n) x other = slice_get-set_other ys i n x (λ e. other (ap suc e))

pub slice_get-set : {A : Type 0} (xs : List A) (i n : ℕ) (x : A) → i < length xs → slice_get (set xs i x) n ≡ cond (i == n) (Some x) (slice_get xs n)
slice_get-set xs i n x within = step (cases_eq i n)
  where
    step : (i ≡ n) ⊎ (i ≢ n) → slice_get (set xs i x) n ≡ cond (i == n) (Some x) (slice_get xs n)
    step (inl here) = rw (eq-eqb i n here, ← here) (slice_get-set_same xs i x within)
    step (inr other) = rw (ne_eqb i n other) (slice_get-set_other xs i n x other)

flatten_cond : (b : Bool) (v : Option ℕ) (o : Option (Option ℕ)) → option_flatten (cond b (Some v) o) ≡ cond b v (option_flatten o)
flatten_cond b v o = elim b as (λ b. option_flatten (cond b (Some v) o) ≡ cond b v (option_flatten o)) [ true ↦ refl | false ↦ refl ]

pub value_at-put : (values : List (Option ℕ)) (o v : Option ℕ) (n : ℕ) → IsWithin values o → value_at (put_at values o v) n ≡ cond (leads o n) v (value_at values n)
value_at-put values None v n within = refl
value_at-put values (Some i) v n within =
    ap option_flatten (slice_get-set values i n v (within i refl)) ∙ flatten_cond (i == n) v (slice_get values n)

pub length-put : (values : List (Option ℕ)) (o v : Option ℕ) → length (put_at values o v) ≡ length values
length-put values None v = refl
length-put values (Some i) v = length-set values i v

-- where something stands there is an index
pub value_at-within : (values : List (Option ℕ)) (n m : ℕ) → value_at values n ≡ Some m → n < length values
value_at-within [] n m e = cc
value_at-within (v ∷ vs) zero m e = omega arith
value_at-within (v ∷ vs) (suc n) m e = omega (arith, value_at-within vs n m e)

pub list_at-set : (lists : List (List ℕ)) (h k : ℕ) (xs : List ℕ) → h < length lists → list_at (set lists h xs) k ≡ cond (h == k) xs (list_at lists k)
list_at-set lists h k xs within = ap (λ o. unwrap_or o []) (slice_get-set lists h k xs within) ∙ unwrapped (h == k)
  where
    unwrapped : (b : Bool) → unwrap_or (cond b (Some xs) (slice_get lists k)) [] ≡ cond b xs (list_at lists k)
    unwrapped b = elim b as (λ b. unwrap_or (cond b (Some xs) (slice_get lists k)) [] ≡ cond b xs (list_at lists k)) [ true ↦ refl | false ↦ refl ]

pub list_at-map : (f : List ℕ → List ℕ) (lists : List (List ℕ)) (h : ℕ) → f [] ≡ [] → list_at (map f lists) h ≡ f (list_at lists h)
list_at-map f [] h e = sym e
list_at-map f (xs ∷ lists) zero e = refl
list_at-map f (xs ∷ lists) (suc h) e = list_at-map f lists h e
