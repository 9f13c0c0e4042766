-- What stands before and behind a member where another is put in or taken out.
use Rattle.std.proofs.Common.{◌≡◌, ◌≢◌, ◌⊎◌, ℕ, ◌<◌, ◌≤◌, ◌==◌, Bool, true, false, cond, not, ◌&&◌, List, [], ◌∷◌, length, Option, Some, None, zero, suc, inl, inr, refl, sym, ap, subst, ◌∙◌, arith, eq-eqb, eqb-true}
use Rattle.std.proofs.lemmas.Bool.{or_right, false≢true, both_ways, cases_eq, ne_eqb}
use Rattle.std.proofs.lemmas.Bool.Decides.{nat_tests}
use Rattle.std.specs.List.{slice_get}
use Rattle.tap_lists.specs.Lists.{without}
use Rattle.tap_lists.specs.ListsInside.{leads, has, is_once, after, before}
use Rattle.tap_lists.proofs.ListLemmas.{some_number, true_or, rest_once, not_head, has-after, has-before, without-absent, has-without, once-without}

pub leads-false : (o : Option ℕ) (x : ℕ) → (o ≡ Some x → ⊥) → leads o x ≡ false
leads-false None x other = refl
leads-false (Some y) x other = ne_eqb y x (λ e. other (ap Some e))

pub leads-true : (o : Option ℕ) (x : ℕ) → o ≡ Some x → leads o x ≡ true
leads-true None x e = cc
leads-true (Some y) x e = eq-eqb y x (some_number y x e)

pub leads-some : (o : Option ℕ) (x : ℕ) → leads o x ≡ true → o ≡ Some x
leads-some None x e = absurd (false≢true e)
leads-some (Some y) x e = ap Some (eqb-true y x e)

-- a list with one thing before it and with another
pub before-fronts : (f g : Option ℕ) (xs : List ℕ) (x : ℕ) → before f xs x ≡ cond (leads (slice_get xs 0) x) f (before g xs x)
before-fronts f g [] x = refl
before-fronts f g (y ∷ ys) x = step (y == x)
  where
    step : (b : Bool) → cond b f (before (Some y) ys x) ≡ cond b f (cond b g (before (Some y) ys x))
    step true = refl
    step false = refl

-- what comes first behind a member where another is out
first_behind : (m x : ℕ) (ys : List ℕ) → is_once ys ≡ true → has ys x ≡ false → slice_get (without m ys) 0 ≡ cond (leads (before (Some x) ys m) x) (after ys m) (slice_get ys 0)
first_behind m x [] o absent = refl
first_behind m x (z ∷ zs) o absent = step (cases_eq z m)
  where
    not_before : before (Some z) zs m ≡ Some x → ⊥
    not_before e = elim (has-before (Some z) zs m x e) [
      | inl here ↦ both_ways _ absent (true_or z x (has zs x) (some_number z x here))
      | inr there ↦ both_ways _ absent (or_right (z == x) (has zs x) there)
    ]

    step : (z ≡ m) ⊎ (z ≢ m) → slice_get (cond (not (z == m)) (z ∷ without m zs) (without m zs)) 0 ≡ cond (leads (cond (z == m) (Some x) (before (Some z) zs m)) x) (cond (z == m) (slice_get zs 0) (after zs m)) (Some z)
    step (inl here) =
        rw (eq-eqb z m here, eq-eqb x x refl)
        (ap (λ ws. slice_get ws 0) (without-absent m zs (subst (λ k. has zs k ≡ false) here (not_head (has zs z) (is_once zs) o))))
    step (inr other) = rw (ne_eqb z m other, leads-false _ x not_before) refl

pub after-without : (front : Option ℕ) (m : ℕ) (xs : List ℕ) (x : ℕ) → is_once xs ≡ true → x ≢ m → leads front x ≡ false → after (without m xs) x ≡ cond (leads (before front xs m) x) (after xs m) (after xs x)
after-without front m [] x o apart not_front = refl
after-without front m (y ∷ ys) x o apart not_front =
    step (cases_eq y m) (cases_eq y x) (λ e. after-without (Some y) m ys x rest apart e)
  where
    rest : is_once ys ≡ true
    rest = rest_once (has ys y) (is_once ys) o

    absent : has ys y ≡ false
    absent = not_head (has ys y) (is_once ys) o

    step : (y ≡ m) ⊎ (y ≢ m) → (y ≡ x) ⊎ (y ≢ x) → ((y == x) ≡ false → after (without m ys) x ≡ cond (leads (before (Some y) ys m) x) (after ys m) (after ys x)) → after (cond (not (y == m)) (y ∷ without m ys) (without m ys)) x ≡ cond (leads (cond (y == m) front (before (Some y) ys m)) x) (cond (y == m) (slice_get ys 0) (after ys m)) (cond (y == x) (slice_get ys 0) (after ys x))
    step (inl here) (inl same) more = absurd (apart (sym same ∙ here))
    step (inl here) (inr other) more =
        rw (eq-eqb y m here, ne_eqb y x other, not_front)
        (ap (λ ws. after ws x) (without-absent m ys (subst (λ k. has ys k ≡ false) here absent)))
    step (inr out) (inl same) more =
        rw (ne_eqb y m out, eq-eqb y x same)
        (subst (λ k. slice_get (without m ys) 0 ≡ cond (leads (before (Some k) ys m) x) (after ys m) (slice_get ys 0)) (sym same) (first_behind m x ys rest (subst (λ k. has ys k ≡ false) same absent)))
    step (inr out) (inr other) more =
        rw (ne_eqb y m out, ne_eqb y x other) (more (ne_eqb y x other))

pub before-without : (front : Option ℕ) (m : ℕ) (xs : List ℕ) (x : ℕ) → is_once xs ≡ true → x ≢ m → before front (without m xs) x ≡ cond (leads (after xs m) x) (before front xs m) (before front xs x)
before-without front m [] x o apart = refl
before-without front m (y ∷ ys) x o apart =
    step (cases_eq y m) (cases_eq y x) (before-without (Some y) m ys x rest apart)
  where
    rest : is_once ys ≡ true
    rest = rest_once (has ys y) (is_once ys) o

    absent : has ys y ≡ false
    absent = not_head (has ys y) (is_once ys) o

    not_after : y ≡ x → after ys m ≡ Some x → ⊥
    not_after same e = both_ways _ absent (subst (λ k. has ys k ≡ true) (sym same) (has-after ys m x e))

    step : (y ≡ m) ⊎ (y ≢ m) → (y ≡ x) ⊎ (y ≢ x) → before (Some y) (without m ys) x ≡ cond (leads (after ys m) x) (before (Some y) ys m) (before (Some y) ys x) → before front (cond (not (y == m)) (y ∷ without m ys) (without m ys)) x ≡ cond (leads (cond (y == m) (slice_get ys 0) (after ys m)) x) (cond (y == m) front (before (Some y) ys m)) (cond (y == x) front (before (Some y) ys x))
    step (inl here) (inl same) more = absurd (apart (sym same ∙ here))
    step (inl here) (inr other) more =
        rw (eq-eqb y m here, ne_eqb y x other)
        (ap (λ ws. before front ws x) (without-absent m ys (subst (λ k. has ys k ≡ false) here absent)) ∙ before-fronts front (Some y) ys x)
    step (inr out) (inl same) more =
        rw (ne_eqb y m out, eq-eqb y x same, leads-false _ x (not_after same)) refl
    step (inr out) (inr other) more =
        rw (ne_eqb y m out, ne_eqb y x other) more

pub has-get : (xs : List ℕ) (i x : ℕ) → slice_get xs i ≡ Some x → has xs x ≡ true
has-get [] i x e = cc
has-get (y ∷ ys) zero x e = true_or y x (has ys x) (some_number y x e)
has-get (y ∷ ys) (suc i) x e = or_right (y == x) (has ys x) (has-get ys i x e)

-- behind a place is what follows the member there
pub behind : (xs : List ℕ) (i x : ℕ) → is_once xs ≡ true → slice_get xs i ≡ Some x → after xs x ≡ slice_get xs (suc i)
behind [] i x o e = cc
behind (y ∷ ys) zero x o e = rw (eq-eqb y x (some_number y x e)) refl
behind (y ∷ ys) (suc i) x o e =
    rw (ne_eqb y x other) (behind ys i x (rest_once (has ys y) (is_once ys) o) e)
  where
    other : y ≢ x
    other same = both_ways _ (not_head (has ys y) (is_once ys) o) (subst (λ k. has ys k ≡ true) (sym same) (has-get ys i x e))

-- no more than one member goes
pub length-without : (m : ℕ) (xs : List ℕ) → is_once xs ≡ true → length xs ≤ suc (length (without m xs))
length-without m [] o = omega arith
length-without m (y ∷ ys) o = step (cases_eq y m) (length-without m ys (rest_once (has ys y) (is_once ys) o))
  where
    step : (y ≡ m) ⊎ (y ≢ m) → length ys ≤ suc (length (without m ys)) → suc (length ys) ≤ suc (length (cond (not (y == m)) (y ∷ without m ys) (without m ys)))
    step (inl here) less =
        let same = ap length (without-absent m ys (subst (λ k. has ys k ≡ false) here (not_head (has ys y) (is_once ys) o))) in
        rw (eq-eqb y m here) (omega (arith, same))
    step (inr other) less = rw (ne_eqb y m other) (omega arith)

-- a list that has each member once is no longer than there are numbers for them
pub few : (n : ℕ) (xs : List ℕ) → is_once xs ≡ true → ((x : ℕ) → has xs x ≡ true → x < n) → length xs ≤ n
few zero [] o below = omega arith
few zero (y ∷ ys) o below = absurd (omega (arith, below y (true_or y y (has ys y) refl)))
few (suc n) xs o below = omega (arith, length-without n xs o, few n (without n xs) (once-without n xs o) (λ x h. less x (rw (has-without n xs x) at h)))
  where
    less : (x : ℕ) → (not (x == n) && has xs x) ≡ true → x < n
    less x h = below_step x (has xs x) (below x) h
      where
        below_step : (x : ℕ) (b : Bool) → (b ≡ true → x < suc n) → (not (x == n) && b) ≡ true → x < n
        below_step x b p h = grind (arith, nat_tests)
