-- Links with a member taken out are those of the lists without it.
use Rattle.std.proofs.Common.{◌≡◌, ◌≢◌, ◌⊎◌, ℕ, ◌<◌, ◌==◌, Bool, true, false, cond, not, ◌&&◌, List, [], ◌∷◌, set, length, Option, Some, None, is_none, zero, suc, inl, inr, refl, sym, ap, subst, ◌∙◌, arith, eq-eqb, length-set}
use Rattle.std.proofs.lemmas.Bool.{false≢true, both_ways, cases_eq, ne_eqb}
use Rattle.std.proofs.lemmas.Bool.Decides.{nat_tests}
use Rattle.std.proofs.lemmas.List.{length-map}
use Rattle.std.specs.List.{slice_get}
use Rattle.tap_lists.specs.Lists.{without}
use Rattle.tap_lists.specs.ListsInside.{value_at, put_at, head_led, IsWithin, leads, list_at, has, after, before, taken_out, IsLinked}
use Rattle.tap_lists.proofs.ListLemmas.{some_number, has-after, has-before, has-without, without-absent, once-without, first-without}
use Rattle.tap_lists.proofs.NeighbourLemmas.{leads-true, leads-false, after-without, before-without}
use Rattle.tap_lists.proofs.ColumnLemmas.{value_at-put, length-put, list_at-map}
use Rattle.tap_lists.proofs.WalkLemmas.{has-within}
use Rattle.tap_lists.proofs.LinkLemmas.{one_list}

list_within : (lists : List (List ℕ)) (h m : ℕ) → has (list_at lists h) m ≡ true → h < length lists
list_within [] h m e = absurd (false≢true e)
list_within (xs ∷ lists) zero m e = omega arith
list_within (xs ∷ lists) (suc h) m e = omega (arith, list_within lists h m e)

-- what stands at a member that is in a list is in range
pub record AreWithin (firsts heads afters befores : List (Option ℕ)) (m : ℕ) : Type 0 where
  pub led : IsWithin firsts (head_led (value_at befores m) (value_at heads m))
  pub member : m < length heads
  pub before : (i : ℕ) → value_at befores m ≡ Some i → i < length heads
  pub after : (i : ℕ) → value_at afters m ≡ Some i → i < length heads

pub within_linked : (firsts heads afters befores : List (Option ℕ)) (lists : List (List ℕ)) (h m : ℕ) → IsLinked firsts heads afters befores lists → value_at heads m ≡ Some h → AreWithin firsts heads afters befores m
within_linked firsts heads afters befores lists h m is under = record {
  led = λ i e. subst (λ i. i < length firsts) (led i (is_none (value_at befores m)) e) (omega (arith, is.firsts_count, list_within lists h m in_list));
  member = within m in_list;
  before = λ i e. within i (elim (has-before None (list_at lists h) m i (sym (is.last h m in_list) ∙ e)) [ inl none ↦ cc | inr there ↦ there ]);
  after = λ i e. within i (has-after (list_at lists h) m i (sym (is.next h m in_list) ∙ e));
}
  where
    in_list : has (list_at lists h) m ≡ true
    in_list = is.owned h m ∙ leads-true (value_at heads m) h under

    within : (i : ℕ) → has (list_at lists h) i ≡ true → i < length heads
    within i e = has-within firsts heads afters befores lists is h i e

    led : (i : ℕ) (b : Bool) → cond b (value_at heads m) None ≡ Some i → h ≡ i
    led i true e = some_number h i (sym under ∙ e)
    led i false e = cc

pub unlinked_member : (firsts heads afters befores : List (Option ℕ)) (lists : List (List ℕ)) (h m : ℕ) → IsLinked firsts heads afters befores lists → value_at heads m ≡ Some h → IsLinked (put_at firsts (head_led (value_at befores m) (value_at heads m)) (value_at afters m)) (put_at heads (Some m) None) (put_at (put_at afters (value_at befores m) (value_at afters m)) (Some m) None) (put_at befores (value_at afters m) (value_at befores m)) (taken_out lists m)
unlinked_member firsts heads afters befores lists h m is under = record {
  firsts_count = omega (arith, is.firsts_count, length-put firsts (head_led p (value_at heads m)) n, length-map lists (without m));
  afters_count = omega (arith, is.afters_count, length-set (put_at afters p n) m None, length-put afters p n, length-set heads m None);
  befores_count = omega (arith, is.befores_count, length-put befores n p, length-set heads m None);
  owned = λ k x. rw (list k, head x) (has-without m (list_at lists k) x ∙ owned k x (cases_eq m x));
  once = λ k. rw (list k) (once-without m (list_at lists k) (is.once k));
  first = λ k. first k ∙ firsts_are k (cases_eq h k) ∙ ap (λ xs. slice_get xs 0) (sym (list k));
  next = λ k x in_list. next x ∙ next_is k x (cases_eq h k) (in_both k x in_list) ∙ ap (λ xs. after xs x) (sym (list k));
  last = λ k x in_list. last x ∙ last_is k x (cases_eq h k) (in_both k x in_list) ∙ ap (λ xs. before None xs x) (sym (list k));
  loose = λ x none. next x ∙ loose x (cases_eq m x) (rw (head x) at none);
}
  where
    p : Option ℕ
    p = value_at befores m

    n : Option ℕ
    n = value_at afters m

    in_list : has (list_at lists h) m ≡ true
    in_list = is.owned h m ∙ leads-true (value_at heads m) h under

    p_is : p ≡ before None (list_at lists h) m
    p_is = is.last h m in_list

    n_is : n ≡ after (list_at lists h) m
    n_is = is.next h m in_list

    p_in : (i : ℕ) → p ≡ Some i → has (list_at lists h) i ≡ true
    p_in i e = elim (has-before None (list_at lists h) m i (sym p_is ∙ e)) [ inl none ↦ cc | inr there ↦ there ]

    n_in : (i : ℕ) → n ≡ Some i → has (list_at lists h) i ≡ true
    n_in i e = has-after (list_at lists h) m i (sym n_is ∙ e)

    ranges : AreWithin firsts heads afters befores m
    ranges = within_linked firsts heads afters befores lists h m is under

    list : (k : ℕ) → list_at (taken_out lists m) k ≡ without m (list_at lists k)
    list k = list_at-map (without m) lists k refl

    head : (x : ℕ) → value_at (set heads m None) x ≡ cond (m == x) None (value_at heads x)
    head x = value_at-put heads (Some m) None x (λ i e. subst (λ i. i < length heads) (some_number m i e) ranges.member)

    first : (k : ℕ) → value_at (put_at firsts (head_led p (value_at heads m)) n) k ≡ cond (leads (head_led p (value_at heads m)) k) n (value_at firsts k)
    first k = value_at-put firsts (head_led p (value_at heads m)) n k ranges.led

    next : (x : ℕ) → value_at (put_at (put_at afters p n) (Some m) None) x ≡ cond (m == x) None (cond (leads p x) n (value_at afters x))
    next x =
        value_at-put (put_at afters p n) (Some m) None x (λ i e. subst (λ i. i < length (put_at afters p n)) (some_number m i e) (omega (arith, is.afters_count, length-put afters p n, ranges.member)))
        ∙ ap (cond (m == x) None) (value_at-put afters p n x (λ i e. omega (arith, is.afters_count, ranges.before i e)))

    last : (x : ℕ) → value_at (put_at befores n p) x ≡ cond (leads n x) p (value_at befores x)
    last x = value_at-put befores n p x (λ i e. omega (arith, is.befores_count, ranges.after i e))

    owned : (k x : ℕ) → (m ≡ x) ⊎ (m ≢ x) → (not (x == m) && has (list_at lists k) x) ≡ leads (cond (m == x) None (value_at heads x)) k
    owned k x (inl same) = rw (eq-eqb m x same, eq-eqb x m (sym same)) refl
    owned k x (inr other) = rw (ne_eqb m x other, ne_eqb x m (λ e. other (sym e))) (is.owned k x)

    absent : (k : ℕ) → h ≢ k → has (list_at lists k) m ≡ false
    absent k there = is.owned k m ∙ leads-false (value_at heads m) k (λ e. there (some_number h k (sym under ∙ e)))

    in_both : (k x : ℕ) → has (list_at (taken_out lists m) k) x ≡ true → (x ≢ m) × (has (list_at lists k) x ≡ true)
    in_both k x e = both x (has (list_at lists k) x) (sym (ap (λ xs. has xs x) (list k) ∙ has-without m (list_at lists k) x) ∙ e)
      where
        both : (x : ℕ) (b : Bool) → (not (x == m) && b) ≡ true → (x ≢ m) × (b ≡ true)
        both x b e = (λ same. grind (arith, nat_tests), grind (arith, nat_tests))

    firsts_are : (k : ℕ) → (h ≡ k) ⊎ (h ≢ k) → cond (leads (head_led p (value_at heads m)) k) n (value_at firsts k) ≡ slice_get (without m (list_at lists k)) 0
    firsts_are k (inl here) =
        subst (λ k. cond (leads (head_led p (value_at heads m)) k) n (value_at firsts k) ≡ slice_get (without m (list_at lists k)) 0) here
        (rw (under, is.first h, n_is, p_is) (led (is_none (before None (list_at lists h) m)) ∙ sym (first-without m (list_at lists h) (is.once h) in_list)))
      where
        led : (b : Bool) → cond (leads (cond b (Some h) None) h) (after (list_at lists h) m) (slice_get (list_at lists h) 0) ≡ cond b (after (list_at lists h) m) (slice_get (list_at lists h) 0)
        led true = rw (eq-eqb h h refl) refl
        led false = refl
    firsts_are k (inr there) =
        rw (leads-false (head_led p (value_at heads m)) k (λ e. there (led (is_none p) e)), without-absent m (list_at lists k) (absent k there)) (is.first k)
      where
        led : (b : Bool) → cond b (value_at heads m) None ≡ Some k → h ≡ k
        led true e = some_number h k (sym under ∙ e)
        led false e = cc

    next_is : (k x : ℕ) → (h ≡ k) ⊎ (h ≢ k) → (x ≢ m) × (has (list_at lists k) x ≡ true) → cond (m == x) None (cond (leads p x) n (value_at afters x)) ≡ after (without m (list_at lists k)) x
    next_is k x (inl here) both =
        let there : has (list_at lists h) x ≡ true = subst (λ k. has (list_at lists k) x ≡ true) (sym here) both.1 in
        rw (ne_eqb m x (λ e. both.0 (sym e)), ← here, is.next h x there, p_is, n_is) (sym (after-without None m (list_at lists h) x (is.once h) both.0 refl))
    next_is k x (inr there) both =
        let apart : leads p x ≡ false = leads-false p x (λ e. there (one_list firsts heads afters befores lists is h k x (p_in x e) both.1)) in
        rw (ne_eqb m x (λ e. both.0 (sym e)), apart, without-absent m (list_at lists k) (absent k there)) (is.next k x both.1)

    last_is : (k x : ℕ) → (h ≡ k) ⊎ (h ≢ k) → (x ≢ m) × (has (list_at lists k) x ≡ true) → cond (leads n x) p (value_at befores x) ≡ before None (without m (list_at lists k)) x
    last_is k x (inl here) both =
        let there : has (list_at lists h) x ≡ true = subst (λ k. has (list_at lists k) x ≡ true) (sym here) both.1 in
        rw (← here, is.last h x there, p_is, n_is) (sym (before-without None m (list_at lists h) x (is.once h) both.0))
    last_is k x (inr there) both =
        let apart : leads n x ≡ false = leads-false n x (λ e. there (one_list firsts heads afters befores lists is h k x (n_in x e) both.1)) in
        rw (apart, without-absent m (list_at lists k) (absent k there)) (is.last k x both.1)

    loose : (x : ℕ) → (m ≡ x) ⊎ (m ≢ x) → cond (m == x) None (value_at heads x) ≡ None → cond (m == x) None (cond (leads p x) n (value_at afters x)) ≡ None
    loose x (inl same) none = rw (eq-eqb m x same) refl
    loose x (inr other) none =
        let free : value_at heads x ≡ None = rw (ne_eqb m x other) at none in
        rw (ne_eqb m x other, leads-false p x (λ e. not_free x (p_in x e) free)) (is.loose x free)
      where
        not_free : (x : ℕ) → has (list_at lists h) x ≡ true → value_at heads x ≡ None → ⊥
        not_free x e free = both_ways (has (list_at lists h) x) (is.owned h x ∙ ap (λ o. leads o h) free) e
