-- Where the members stand in lists that are held.
use Rattle.std.proofs.Common.{◌≡◌, ◌⊎◌, ℕ, ◌+◌, ◌<◌, ◌==◌, true, ◌||◌, List, [], ◌∷◌, length, get_or, Option, Some, None, zero, suc, inl, inr, refl, sym, ap, subst, ◌∙◌, arith, eqb-true}
use Rattle.std.proofs.lemmas.Bool.{or_right, false≢true, both_ways, or_cases}
use Rattle.std.specs.List.{slice_get, Contains}
use Rattle.tap_lists.specs.Lists.{Lists, IsLoose, IsHeadOf, IsNext, StandOnce}
use Rattle.tap_lists.specs.ListsInside.{value_at, list_at, lists_of, walked, has, is_once, IsHeld}
use Rattle.tap_lists.proofs.ListLemmas.{true_or, rest_once, not_head}
use Rattle.tap_lists.proofs.NeighbourLemmas.{leads-some, leads-true, has-get, behind}
use Rattle.tap_lists.proofs.WalkLemmas.{has-within, length-list_at}
use Rattle.tap_lists.proofs.LinkLemmas.{one_list}

pub has-Contains : (xs : List ℕ) (x : ℕ) → Contains xs x → has xs x ≡ true
has-Contains [] x c = absurd (omega (arith, c.1))
has-Contains (y ∷ ys) x c = at c.0 c.1 c.2 (has-Contains ys x)
  where
    at : (k : ℕ) → k < suc (length ys) → get_or (y ∷ ys) k x ≡ x → (Contains ys x → has ys x ≡ true) → ((y == x) || has ys x) ≡ true
    at zero within here more = true_or y x (has ys x) here
    at (suc k) within there more = or_right (y == x) (has ys x) (more (k, omega arith, there))

pub Contains-has : (xs : List ℕ) (x : ℕ) → has xs x ≡ true → Contains xs x
Contains-has [] x h = absurd (false≢true h)
Contains-has (y ∷ ys) x h = at (or_cases (y == x) (has ys x) h) (Contains-has ys x)
  where
    at : ((y == x) ≡ true) ⊎ (has ys x ≡ true) → (has ys x ≡ true → Contains ys x) → Contains (y ∷ ys) x
    at (inl here) more = (0, omega arith, eqb-true y x here)
    at (inr there) more =
        let c = more there in
        (suc c.0, omega (arith, c.1), c.2)

-- the first member of a list doesn't stand behind
not_behind : (y : ℕ) (ys : List ℕ) (x j : ℕ) → is_once (y ∷ ys) ≡ true → Some y ≡ Some x → slice_get ys j ≡ Some x → ⊥
not_behind y ys x j o e f =
    let same : y ≡ x = cc in
    both_ways _ (not_head (has ys y) (is_once ys) o) (subst (λ k. has ys k ≡ true) (sym same) (has-get ys j x f))

-- a member stands at one place
same_place : (xs : List ℕ) (i j x : ℕ) → is_once xs ≡ true → slice_get xs i ≡ Some x → slice_get xs j ≡ Some x → i ≡ j
same_place [] i j x o e f = cc
same_place (y ∷ ys) zero zero x o e f = refl
same_place (y ∷ ys) zero (suc j) x o e f = absurd (not_behind y ys x j o e f)
same_place (y ∷ ys) (suc i) zero x o e f = absurd (not_behind y ys x i o f e)
same_place (y ∷ ys) (suc i) (suc j) x o e f = ap suc (same_place ys i j x (rest_once (has ys y) (is_once ys) o) e f)

pub held_stand_once : (firsts heads afters befores : List (Option ℕ)) → IsHeld firsts heads afters befores → StandOnce (lists_of firsts afters)
held_stand_once firsts heads afters befores is = record {
  one_head = λ head other member here there. one_list firsts heads afters befores _ is head other member (has-Contains _ member here) (has-Contains _ member there);
  one_place = λ head place other member here there. same_place _ place other member (is.once head) here there;
  below = λ head member under. omega (arith, is.afters_count, has-within firsts heads afters befores _ is head member (has-Contains _ member under));
  few = λ head. omega (arith, is.afters_count, length-list_at firsts heads afters befores _ is head);
}

-- the head that is kept for a member is its head
pub held_head : (firsts heads afters befores : List (Option ℕ)) (member : ℕ) → IsHeld firsts heads afters befores → IsHeadOf (lists_of firsts afters) member (value_at heads member)
held_head firsts heads afters befores member is h = (
  λ e. Contains-has _ member (is.owned h member ∙ leads-true _ h e),
  λ under. leads-some _ h (sym (is.owned h member) ∙ has-Contains _ member under),
)

-- a member that is loose has no head
pub held_loose : (firsts heads afters befores : List (Option ℕ)) (member : ℕ) → IsHeld firsts heads afters befores → IsLoose (lists_of firsts afters) member → value_at heads member ≡ None
held_loose firsts heads afters befores member is loose = nothing (value_at heads member) (λ h e. loose h ((held_head firsts heads afters befores member is h).0 e))
  where
    nothing : (o : Option ℕ) → ((h : ℕ) → o ≡ Some h → ⊥) → o ≡ None
    nothing None other = refl
    nothing (Some h) other = absurd (other h refl)

pub held_next : (firsts heads afters befores : List (Option ℕ)) (member : ℕ) → IsHeld firsts heads afters befores → IsNext (lists_of firsts afters) member (value_at afters member)
held_next firsts heads afters befores member is = record {
  behind = λ head place here.
      let more : suc place ≡ place + 1 = omega arith in
      is.next head member (has-get _ place member here) ∙ behind _ place member (is.once head) here ∙ ap (slice_get (list_at (walked firsts afters) head)) more;
  loose = λ loose. is.loose member (held_loose firsts heads afters befores member is loose);
}

-- The same of the lists that are seen.
pub shown_head : (firsts heads afters befores : List (Option ℕ)) (lists : Lists) (member : ℕ) (head : Option ℕ) → IsHeld firsts heads afters befores → lists_of firsts afters ≡ lists → head ≡ value_at heads member → IsHeadOf lists member head
shown_head firsts heads afters befores lists member head is view here = rw (here, ← view) (held_head firsts heads afters befores member is)

pub shown_next : (firsts heads afters befores : List (Option ℕ)) (lists : Lists) (member : ℕ) (next : Option ℕ) → IsHeld firsts heads afters befores → lists_of firsts afters ≡ lists → next ≡ value_at afters member → IsNext lists member next
shown_next firsts heads afters befores lists member next is view here = rw (here, ← view) (held_next firsts heads afters befores member is)
