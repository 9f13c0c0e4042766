-- Links that lead nowhere are those of empty lists.
use Rattle.std.proofs.Common.{◌≡◌, ℕ, List, [], replicate, Option, None, zero, suc, refl, sym, ◌∙◌}
use Rattle.std.proofs.lemmas.Bool.{false≢true}
use Rattle.std.proofs.lemmas.List.{length-replicate}
use Rattle.tap_lists.specs.ListsInside.{value_at, list_at, IsLinked}

nothing_at : (count n : ℕ) → value_at (replicate {A = Option ℕ} count None) n ≡ None
nothing_at zero n = refl
nothing_at (suc count) zero = refl
nothing_at (suc count) (suc n) = nothing_at count n

empty_at : (count n : ℕ) → list_at (replicate {A = List ℕ} count []) n ≡ []
empty_at zero n = refl
empty_at (suc count) zero = refl
empty_at (suc count) (suc n) = empty_at count n

pub linked_empty : (heads members : ℕ) → IsLinked (replicate heads None) (replicate members None) (replicate members None) (replicate members None) (replicate heads [])
linked_empty heads members = record {
  firsts_count = length-replicate heads None ∙ sym (length-replicate heads []);
  afters_count = refl;
  befores_count = refl;
  owned = λ head member. rw (empty_at heads head, nothing_at members member) refl;
  once = λ head. rw (empty_at heads head) refl;
  first = λ head. rw (empty_at heads head) (nothing_at heads head);
  next = λ head member in_list. absurd (false≢true (rw (empty_at heads head) at in_list));
  last = λ head member in_list. absurd (false≢true (rw (empty_at heads head) at in_list));
  loose = λ member none. nothing_at members member;
}
