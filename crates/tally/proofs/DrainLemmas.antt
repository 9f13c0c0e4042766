-- Members of a set that went to a list, the lowest first.
use Rattle.std.proofs.Common.{◌≡◌, ◌≢◌, ◌⊎◌, ℕ, ◌<◌, ◌≤◌, ◌==◌, Bool, true, false, not, ◌&&◌, List, [], ◌∷◌, ◌++◌, length, get_or, inl, inr, refl, sym, ap, subst, ◌∙◌, arith, length-append, eq-eqb}
use Rattle.std.proofs.lemmas.Bool.{and_parts, cases_eq, ne_eqb, both_ways}
use Rattle.std.proofs.lemmas.List.Elements.{Contains-append_left, Contains-push, Contains-push_cases, Contains-get_or}
use Rattle.std.proofs.lemmas.List.Quantifiers.{all_pairs_push}
use Rattle.std.specs.List.{Contains, AllPairs}
use Rattle.std.specs.Ordering.{nat_cmp}
use Rattle.std.specs.FinSet.{empty, contains, remove, contains-empty}
use Rattle.number_tables.proofs.Members.{contains_removed}
use Rattle.number_tables.proofs.LowestLemmas.{IsLowest}
use Rattle.tally.specs.Tally.{Origins}
use Rattle.tally.specs.Kept.{AreMembers}

-- Of the members of a set these went to a list, and those are left.
pub record IsDrained (all left : Origins) (list : List ℕ) : Type 0 where
  pub taken : (n : ℕ) → Contains list n → contains all n ≡ true
  pub rest : (n : ℕ) → contains left n ≡ true → contains all n ≡ true
  pub either : (n : ℕ) → contains all n ≡ true → Contains list n ⊎ (contains left n ≡ true)
  pub before : (n m : ℕ) → Contains list n → contains left m ≡ true → n < m
  pub once : AllPairs (λ a b. a < b) list
  pub few : (m : ℕ) → contains left m ≡ true → length list ≤ m

pub drained_none : (all : Origins) (list : List ℕ) → list ≡ [] → IsDrained all all list
drained_none all list none =
    subst (λ (list : List ℕ). IsDrained all all list) (sym none)
    (record {
      taken = λ n has. absurd (omega (arith, has.1));
      rest = λ n has. has;
      either = λ n has. inr has;
      before = λ n m has left. absurd (omega (arith, has.1));
      once = λ i j d less within. absurd (omega (arith, within));
      few = λ m left. omega arith;
    })

module _ (all left : Origins) (list : List ℕ) (v : ℕ) (is : IsLowest left v) (drained : IsDrained all left list) where
  not_true : (b : Bool) → not b ≡ true → b ≡ false
  not_true true e = cc
  not_true false e = refl

  behind : (m : ℕ) → contains (remove left v) m ≡ true → ((m == v) ≡ false) × (contains left m ≡ true)
  behind m has =
      let parts = and_parts (not (m == v)) (contains left m) (sym (contains_removed left v m) ∙ has) in
      (not_true (m == v) parts.0, parts.1)

  above : (m : ℕ) → contains (remove left v) m ≡ true → v < m
  above m has =
      let was = behind m has in
      elim (cases_eq m v) [
        | inl same ↦ absurd (both_ways (m == v) was.0 (eq-eqb m v same))
        | inr apart ↦ omega (arith, apart, is.least m was.1)
      ]

  stays : (n : ℕ) → Contains list n ⊎ (contains left n ≡ true) → (n ≡ v) ⊎ (n ≢ v) → Contains (list ++ v ∷ []) n ⊎ (contains (remove left v) n ≡ true)
  stays n (inl was) which = inl (Contains-append_left list (v ∷ []) n was)
  stays n (inr here) (inl same) = inl (subst (λ n. Contains (list ++ v ∷ []) n) (sym same) (Contains-push list v))
  stays n (inr here) (inr apart) = inr (contains_removed left v n ∙ ap (λ b. not b && contains left n) (ne_eqb n v apart) ∙ here)

  taken_now : (n : ℕ) → Contains list n ⊎ (v ≡ n) → contains all n ≡ true
  taken_now n (inl was) = drained.taken n was
  taken_now n (inr same) = drained.rest n (subst (λ n. contains left n ≡ true) same is.has)

  before_now : (n m : ℕ) → Contains list n ⊎ (v ≡ n) → contains (remove left v) m ≡ true → n < m
  before_now n m (inl was) has = drained.before n m was (behind m has).1
  before_now n m (inr same) has = omega (arith, same, above m has)

  pub drained_more : IsDrained all (remove left v) (list ++ v ∷ [])
  drained_more = record {
    taken = λ n has. taken_now n (Contains-push_cases list v n has);
    rest = λ n has. drained.rest n (behind n has).1;
    either = λ n has. stays n (drained.either n has) (cases_eq n v);
    before = λ n m has left. before_now n m (Contains-push_cases list v n has) left;
    once = all_pairs_push (λ a b. a < b) list v drained.once (λ k d within. drained.before (get_or list k d) v (Contains-get_or list k d within) is.has);
    few = λ m has. omega (arith, length-append list (v ∷ []), drained.few v is.has, above m has);
  }

pub drained_all : (all left : Origins) (list : List ℕ) → left ≡ empty → IsDrained all left list → AreMembers all list
drained_all all left list none drained = record {
  each = λ n. (drained.taken n, λ has. by n (drained.either n has));
  once = drained.once;
}
  where
    by : (n : ℕ) → Contains list n ⊎ (contains left n ≡ true) → Contains list n
    by n (inl here) = here
    by n (inr left_there) =
        absurd (both_ways (contains {R = nat_cmp} empty n) (contains-empty nat_cmp n) (ap (λ (set : Origins). contains set n) (sym none) ∙ left_there))
