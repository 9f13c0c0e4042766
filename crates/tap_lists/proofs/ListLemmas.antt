-- What stands before and behind a member in a list, and in the list without another.
use Rattle.std.proofs.Common.{◌≡◌, ◌≢◌, ◌⊎◌, ℕ, ◌==◌, Bool, true, false, cond, not, ◌&&◌, ◌||◌, List, [], ◌∷◌, Option, Some, None, is_none, inl, inr, refl, ap, subst, ◌∙◌, arith, eq-eqb}
use Rattle.std.proofs.lemmas.Bool.{false≢true, cases_eq, ne_eqb}
use Rattle.std.proofs.lemmas.Bool.Decides.{nat_tests}
use Rattle.std.specs.List.{slice_get}
use Rattle.tap_lists.specs.Lists.{without}
use Rattle.tap_lists.specs.ListsInside.{has, is_once, after, before}

pub some_number : (a b : ℕ) → Some a ≡ Some b → a ≡ b
some_number a b e = cc

pub true_or : (y x : ℕ) (b : Bool) → y ≡ x → ((y == x) || b) ≡ true
true_or y x b e = grind (arith, nat_tests)

pub has-first : (xs : List ℕ) (x : ℕ) → slice_get xs 0 ≡ Some x → has xs x ≡ true
has-first [] x e = cc
has-first (y ∷ ys) x e = true_or y x (has ys x) (some_number y x e)

after_step : (y m x : ℕ) (f a : Option ℕ) (h : Bool) → (f ≡ Some x → h ≡ true) → (a ≡ Some x → h ≡ true) → cond (y == m) f a ≡ Some x → ((y == x) || h) ≡ true
after_step y m x f a h p q e = grind (arith, nat_tests)

pub has-after : (xs : List ℕ) (m x : ℕ) → after xs m ≡ Some x → has xs x ≡ true
has-after [] m x e = cc
has-after (y ∷ ys) m x e = after_step y m x (slice_get ys 0) (after ys m) (has ys x) (has-first ys x) (has-after ys m x) e

before_step : (y m x : ℕ) (front b : Option ℕ) (h : Bool) → (b ≡ Some x → (Some y ≡ Some x) ⊎ (h ≡ true)) → cond (y == m) front b ≡ Some x → (front ≡ Some x) ⊎ (((y == x) || h) ≡ true)
before_step y m x front b h p e = grind (arith, nat_tests)

-- what stands before a member is in the list, unless it is what is given for the first one
pub has-before : (front : Option ℕ) (xs : List ℕ) (m x : ℕ) → before front xs m ≡ Some x → (front ≡ Some x) ⊎ (has xs x ≡ true)
has-before front [] m x e = cc
has-before front (y ∷ ys) m x e = before_step y m x front (before (Some y) ys m) (has ys x) (has-before (Some y) ys m x) e

-- something stands before each member but the first
pub is_none-before : (front : ℕ) (xs : List ℕ) (m : ℕ) → has xs m ≡ true → is_none (before (Some front) xs m) ≡ false
is_none-before front [] m h = cc
is_none-before front (y ∷ ys) m h = step (y == m) h (is_none-before y ys m)
  where
    step : (b : Bool) → (b || has ys m) ≡ true → (has ys m ≡ true → is_none (before (Some y) ys m) ≡ false) → is_none (cond b (Some front) (before (Some y) ys m)) ≡ false
    step true h below = refl
    step false h below = below h

pub rest_once : (h o : Bool) → (not h && o) ≡ true → o ≡ true
rest_once true o e = absurd (false≢true e)
rest_once false o e = e

pub not_head : (h o : Bool) → (not h && o) ≡ true → h ≡ false
not_head true o e = absurd (false≢true e)
not_head false o e = refl

kept_step : (y m : ℕ) (h : Bool) (ys zs : List ℕ) → ((y == m) || h) ≡ false → (h ≡ false → zs ≡ ys) → cond (not (y == m)) (y ∷ zs) zs ≡ y ∷ ys
kept_step y m h ys zs absent same = grind (arith, nat_tests)

pub without-absent : (m : ℕ) (xs : List ℕ) → has xs m ≡ false → without m xs ≡ xs
without-absent m [] h = refl
without-absent m (y ∷ ys) h = kept_step y m (has ys m) ys (without m ys) h (without-absent m ys)

pub has-without : (m : ℕ) (xs : List ℕ) (x : ℕ) → has (without m xs) x ≡ (not (x == m) && has xs x)
has-without m [] x = and_false (not (x == m))
  where
    and_false : (b : Bool) → false ≡ (b && false)
    and_false true = refl
    and_false false = refl
has-without m (y ∷ ys) x = step (cases_eq y m) (has-without m ys x)
  where
    or_step : (h k : Bool) → y ≢ m → h ≡ (not (x == m) && k) → ((y == x) || h) ≡ (not (x == m) && ((y == x) || k))
    or_step h k other e = grind (arith, nat_tests)

    out_step : (k : Bool) → y ≡ m → (not (x == m) && k) ≡ (not (x == m) && ((y == x) || k))
    out_step k here = grind (arith, nat_tests)

    step : (y ≡ m) ⊎ (y ≢ m) → has (without m ys) x ≡ (not (x == m) && has ys x) → has (cond (not (y == m)) (y ∷ without m ys) (without m ys)) x ≡ (not (x == m) && ((y == x) || has ys x))
    step (inl here) e = rw (eq-eqb y m here) (e ∙ out_step (has ys x) here)
    step (inr other) e = rw (ne_eqb y m other) (or_step (has (without m ys) x) (has ys x) other e)

once_step : (y m : ℕ) (h h' o o' : Bool) → h' ≡ (not (y == m) && h) → (o ≡ true → o' ≡ true) → (not h && o) ≡ true → (not h' && o') ≡ true
once_step y m h h' o o' e p q = grind (arith, nat_tests)

pub once-without : (m : ℕ) (xs : List ℕ) → is_once xs ≡ true → is_once (without m xs) ≡ true
once-without m [] o = refl
once-without m (y ∷ ys) o = step (y == m) (once_step y m (has ys y) (has (without m ys) y) (is_once ys) (is_once (without m ys)) (has-without m ys y) (once-without m ys) o) (once-without m ys (rest_once (has ys y) (is_once ys) o))
  where
    step : (b : Bool) → (not (has (without m ys) y) && is_once (without m ys)) ≡ true → is_once (without m ys) ≡ true → is_once (cond (not b) (y ∷ without m ys) (without m ys)) ≡ true
    step true kept out = out
    step false kept out = kept

-- the first of a list, and of the others the first but one, where a member is out
pub first-without : (m : ℕ) (xs : List ℕ) → is_once xs ≡ true → has xs m ≡ true → slice_get (without m xs) 0 ≡ cond (is_none (before None xs m)) (after xs m) (slice_get xs 0)
first-without m [] o h = cc
first-without m (y ∷ ys) o h = step (cases_eq y m)
  where
    absent : y ≡ m → has ys m ≡ false
    absent here = subst (λ k. has ys k ≡ false) here (not_head (has ys y) (is_once ys) o)

    present : y ≢ m → has ys m ≡ true
    present other = or_other (has ys m) other h
      where
        or_other : (k : Bool) → y ≢ m → ((y == m) || k) ≡ true → k ≡ true
        or_other k other e = grind (arith, nat_tests)

    step : (y ≡ m) ⊎ (y ≢ m) → slice_get (cond (not (y == m)) (y ∷ without m ys) (without m ys)) 0 ≡ cond (is_none (cond (y == m) None (before (Some y) ys m))) (cond (y == m) (slice_get ys 0) (after ys m)) (Some y)
    step (inl here) = rw (eq-eqb y m here) (ap (λ zs. slice_get zs 0) (without-absent m ys (absent here)))
    step (inr other) = rw (ne_eqb y m other, is_none-before y ys m (present other)) refl
