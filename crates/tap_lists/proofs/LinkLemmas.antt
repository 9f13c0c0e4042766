-- Links with a member put in first are those of the lists with it put in first.
use Rattle.std.proofs.Common.{◌≡◌, ◌≢◌, ◌⊎◌, ℕ, ◌<◌, ◌==◌, true, false, cond, List, ◌∷◌, set, length, Option, Some, None, inl, inr, refl, sym, ap, subst, ◌∙◌, arith, eq-eqb, length-set}
use Rattle.std.proofs.lemmas.Bool.{both_ways, cases_eq, ne_eqb}
use Rattle.std.specs.List.{slice_get}
use Rattle.tap_lists.specs.ListsInside.{value_at, put_at, leads, list_at, has, is_once, after, before, put_first, IsLinked}
use Rattle.tap_lists.proofs.ListLemmas.{some_number, has-first}
use Rattle.tap_lists.proofs.NeighbourLemmas.{leads-some, leads-false, before-fronts}
use Rattle.tap_lists.proofs.ColumnLemmas.{value_at-put, length-put, list_at-set}
use Rattle.tap_lists.proofs.WalkLemmas.{has-within}

-- a member is in one list alone
pub one_list : (firsts heads afters befores : List (Option ℕ)) (lists : List (List ℕ)) → IsLinked firsts heads afters befores lists → (h k member : ℕ) → has (list_at lists h) member ≡ true → has (list_at lists k) member ≡ true → h ≡ k
one_list firsts heads afters befores lists is h k member one other =
    some_number h k (sym (leads-some _ _ (sym (is.owned h member) ∙ one)) ∙ leads-some _ _ (sym (is.owned k member) ∙ other))

-- the first member of a list is in range
pub first_within : (firsts heads afters befores : List (Option ℕ)) (lists : List (List ℕ)) (h i : ℕ) → IsLinked firsts heads afters befores lists → value_at firsts h ≡ Some i → i < length befores
first_within firsts heads afters befores lists h i is e =
    omega (arith, is.befores_count, has-within firsts heads afters befores lists is h i (has-first (list_at lists h) i (sym (is.first h) ∙ e)))

pub linked_first : (firsts heads afters befores : List (Option ℕ)) (lists : List (List ℕ)) (h m : ℕ) → IsLinked firsts heads afters befores lists → h < length firsts → m < length heads → value_at heads m ≡ None → IsLinked (put_at firsts (Some h) (Some m)) (put_at heads (Some m) (Some h)) (put_at afters (Some m) (value_at firsts h)) (put_at (put_at befores (value_at firsts h) (Some m)) (Some m) None) (put_first lists h m)
linked_first firsts heads afters befores lists h m is is_head is_member is_loose = record {
  firsts_count = omega (arith, is.firsts_count, length-set firsts h (Some m), length-set lists h (m ∷ list_at lists h));
  afters_count = omega (arith, is.afters_count, length-set afters m (value_at firsts h), length-set heads m (Some h));
  befores_count = omega (arith, is.befores_count, length-set (put_at befores (value_at firsts h) (Some m)) m None, length-put befores (value_at firsts h) (Some m), length-set heads m (Some h));
  owned = λ k x. rw (list k, head x) (owned k x (cases_eq h k) (cases_eq m x));
  once = λ k. rw (list k) (once k (cases_eq h k));
  first = λ k. rw (list k, first k) (firsts_are k (cases_eq h k));
  next = λ k x in_list. rw (list k, next x) (next_is k x (cases_eq h k) (cases_eq m x) (rw (list k) at in_list));
  last = λ k x in_list. rw (list k, last x) (last_is k x (cases_eq h k) (cases_eq m x) (rw (list k) at in_list));
  loose = λ x none. rw (next x) (loose x (cases_eq m x) (rw (head x) at none));
}
  where
    ls : List ℕ
    ls = list_at lists h

    list : (k : ℕ) → list_at (put_first lists h m) k ≡ cond (h == k) (m ∷ list_at lists h) (list_at lists k)
    list k = list_at-set lists h k (m ∷ list_at lists h) (omega (arith, is.firsts_count))

    head : (x : ℕ) → value_at (set heads m (Some h)) x ≡ cond (m == x) (Some h) (value_at heads x)
    head x = value_at-put heads (Some m) (Some h) x (λ i e. subst (λ i. i < length heads) (some_number m i e) is_member)

    first : (k : ℕ) → value_at (set firsts h (Some m)) k ≡ cond (h == k) (Some m) (value_at firsts k)
    first k = value_at-put firsts (Some h) (Some m) k (λ i e. subst (λ i. i < length firsts) (some_number h i e) is_head)

    next : (x : ℕ) → value_at (set afters m (value_at firsts h)) x ≡ cond (m == x) (value_at firsts h) (value_at afters x)
    next x = value_at-put afters (Some m) (value_at firsts h) x (λ i e. subst (λ i. i < length afters) (some_number m i e) (omega (arith, is.afters_count)))

    last : (x : ℕ) → value_at (put_at (put_at befores (value_at firsts h) (Some m)) (Some m) None) x ≡ cond (m == x) None (cond (leads (value_at firsts h) x) (Some m) (value_at befores x))
    last x =
        value_at-put (put_at befores (value_at firsts h) (Some m)) (Some m) None x (λ i e. subst (λ i. i < length (put_at befores (value_at firsts h) (Some m))) (some_number m i e) (omega (arith, is.befores_count, length-put befores (value_at firsts h) (Some m))))
        ∙ ap (cond (m == x) None) (value_at-put befores (value_at firsts h) (Some m) x (λ i e. first_within firsts heads afters befores lists h i is e))

    absent : (k : ℕ) → has (list_at lists k) m ≡ false
    absent k = is.owned k m ∙ ap (λ o. leads o k) is_loose

    owned : (k x : ℕ) → (h ≡ k) ⊎ (h ≢ k) → (m ≡ x) ⊎ (m ≢ x) → has (cond (h == k) (m ∷ list_at lists h) (list_at lists k)) x ≡ leads (cond (m == x) (Some h) (value_at heads x)) k
    owned k x (inl here) (inl same) = rw (eq-eqb h k here, eq-eqb m x same, eq-eqb h k here) refl
    owned k x (inl here) (inr other) = rw (eq-eqb h k here, ne_eqb m x other) (is.owned h x ∙ ap (leads (value_at heads x)) here)
    owned k x (inr there) (inl same) = rw (ne_eqb h k there, eq-eqb m x same, ne_eqb h k there) (subst (λ i. has (list_at lists k) i ≡ false) same (absent k))
    owned k x (inr there) (inr other) = rw (ne_eqb h k there, ne_eqb m x other) (is.owned k x)

    once : (k : ℕ) → (h ≡ k) ⊎ (h ≢ k) → is_once (cond (h == k) (m ∷ list_at lists h) (list_at lists k)) ≡ true
    once k (inl here) = rw (eq-eqb h k here, absent h) (is.once h)
    once k (inr there) = rw (ne_eqb h k there) (is.once k)

    firsts_are : (k : ℕ) → (h ≡ k) ⊎ (h ≢ k) → cond (h == k) (Some m) (value_at firsts k) ≡ slice_get (cond (h == k) (m ∷ list_at lists h) (list_at lists k)) 0
    firsts_are k (inl here) = rw (eq-eqb h k here) refl
    firsts_are k (inr there) = rw (ne_eqb h k there) (is.first k)

    next_is : (k x : ℕ) → (h ≡ k) ⊎ (h ≢ k) → (m ≡ x) ⊎ (m ≢ x) → has (cond (h == k) (m ∷ list_at lists h) (list_at lists k)) x ≡ true → cond (m == x) (value_at firsts h) (value_at afters x) ≡ after (cond (h == k) (m ∷ list_at lists h) (list_at lists k)) x
    next_is k x (inl here) (inl same) in_list = rw (eq-eqb h k here, eq-eqb m x same) (is.first h)
    next_is k x (inl here) (inr other) in_list =
        let there = rw (eq-eqb h k here, ne_eqb m x other) at in_list in
        rw (eq-eqb h k here, ne_eqb m x other) (is.next h x there)
    next_is k x (inr there) (inl same) in_list =
        let in_other = rw (ne_eqb h k there) at in_list in
        absurd (both_ways _ (subst (λ i. has (list_at lists k) i ≡ false) same (absent k)) in_other)
    next_is k x (inr there) (inr other) in_list =
        let in_other = rw (ne_eqb h k there) at in_list in
        rw (ne_eqb h k there, ne_eqb m x other) (is.next k x in_other)

    last_is : (k x : ℕ) → (h ≡ k) ⊎ (h ≢ k) → (m ≡ x) ⊎ (m ≢ x) → has (cond (h == k) (m ∷ list_at lists h) (list_at lists k)) x ≡ true → cond (m == x) None (cond (leads (value_at firsts h) x) (Some m) (value_at befores x)) ≡ before None (cond (h == k) (m ∷ list_at lists h) (list_at lists k)) x
    last_is k x (inl here) (inl same) in_list = rw (eq-eqb h k here, eq-eqb m x same) refl
    last_is k x (inl here) (inr other) in_list =
        let there = rw (eq-eqb h k here, ne_eqb m x other) at in_list in
        rw (eq-eqb h k here, ne_eqb m x other, is.first h, is.last h x there) (sym (before-fronts (Some m) None (list_at lists h) x))
    last_is k x (inr there) (inl same) in_list =
        let in_other = rw (ne_eqb h k there) at in_list in
        absurd (both_ways _ (subst (λ i. has (list_at lists k) i ≡ false) same (absent k)) in_other)
    last_is k x (inr there) (inr other) in_list =
        let in_other = rw (ne_eqb h k there) at in_list in
        let apart : leads (value_at firsts h) x ≡ false = leads-false _ x (λ e. there (one_list firsts heads afters befores lists is h k x (has-first (list_at lists h) x (sym (is.first h) ∙ e)) in_other)) in
        rw (ne_eqb h k there, ne_eqb m x other, apart) (is.last k x in_other)

    loose : (x : ℕ) → (m ≡ x) ⊎ (m ≢ x) → cond (m == x) (Some h) (value_at heads x) ≡ None → cond (m == x) (value_at firsts h) (value_at afters x) ≡ None
    loose x (inl same) none = absurd (some_none h (rw (eq-eqb m x same) at none))
      where
        some_none : (h : ℕ) → Some h ≡ None → ⊥
        some_none h e = cc
    loose x (inr other) none = rw (ne_eqb m x other) (is.loose x (rw (ne_eqb m x other) at none))
