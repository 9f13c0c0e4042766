-- The set that words stand for has the numbers whose bits are set.
use Rattle.std.proofs.Common.{◌≡◌, ◌≢◌, ℕ, ◌+◌, ◌*◌, ◌/◌, ◌%◌, ◌<◌, ◌≤◌, ◌==◌, nat_eq, List, length, Bool, true, false, not, ◌&&◌, ◌||◌, suc, zero, inl, inr, refl, sym, ap, subst, ◌∙◌, arith, eq-eqb, eqb-true}
use Rattle.std.proofs.lemmas.Bool.{cases_eq, or_left, or_right}
use Rattle.std.proofs.lemmas.Map.Views.{any-filter_same}
use Rattle.std.specs.Prelude.{slice_index}
use Rattle.std.specs.Int.{bit_at}
use Rattle.std.specs.List.{list_any, range_with_len}
use Rattle.std.specs.Cmp.{nat_cmp_total, unsigned_tied}
use Rattle.std.specs.FinSet.{empty, contains, insert, remove, contains-empty, contains-insert, contains-remove, contains-from_list_nat, same_set, nat_cmp-IsAntisymmetric}
use Rattle.std.specs.Ordering.{nat_cmp}
use Rattle.number_tables.specs.Numbers.{Numbers, HasBitsOf}
use Rattle.number_tables.specs.SetInside.{has_bit, members, IsZero, SetsBit, ClearsBit, PutsWord}
use Rattle.number_tables.proofs.SummaryLemmas.{bit_within, no_bit}

pub in_range : (from count n : ℕ) → from ≤ n → n < from + count → list_any (λ y. nat_eq y n) (range_with_len from count) ≡ true
in_range from zero n low high = absurd (omega arith)
in_range from (suc count) n low high =
    elim (cases_eq from n) [
      | inl here ↦ or_left (nat_eq from n) _ (eq-eqb from n here)
      | inr other ↦ or_right (nat_eq from n) _ (in_range (from + 1) count n (omega (arith, other)) (omega arith))
    ]

pub contains-members : (words : List ℕ) (n : ℕ) → contains (members words) n ≡ has_bit words n
unfolding members
contains-members words n =
    let same : (k : ℕ) → nat_eq k n ≡ true → has_bit words k ≡ has_bit words n = λ k e. ap (has_bit words) (eqb-true k n e) in
    contains-from_list_nat _ n
    ∙ any-filter_same (λ k. nat_eq k n) (has_bit words) (has_bit words n) same (range_with_len 0 (64 * length words))
    ∙ within (has_bit words n) refl
  where
    within : (b : Bool) → has_bit words n ≡ b → (b && list_any (λ k. nat_eq k n) (range_with_len 0 (64 * length words))) ≡ b
    within true has = in_range 0 (64 * length words) n (omega arith) (omega (arith, bit_within words n has))
    within false has = refl

-- the bits of a word are those of 64 neighbouring numbers
pub bits_of_word : (words : List ℕ) (place : ℕ) → HasBitsOf (members words) place (slice_index words place)
bits_of_word words place bit below =
    let n : ℕ = 64 * place + bit in
    let word : n / 64 ≡ place = omega arith in
    let low : n % 64 ≡ bit = omega arith in
    sym (contains-members words n
    ∙ ap (λ at. bit_at (slice_index words at) (n % 64) == 1) word
    ∙ ap (λ at. bit_at (slice_index words place) at == 1) low)

-- two sets with the same members are one
pub same_members : (s t : Numbers) → ((n : ℕ) → contains s n ≡ contains t n) → s ≡ t
same_members s t same = same_set nat_cmp_total nat_cmp-IsAntisymmetric s t same

pub contains_inserted : (s : Numbers) (number n : ℕ) → contains (insert s number) n ≡ ((n == number) || contains s n)
contains_inserted s number n = contains-insert nat_cmp_total s number n ∙ ap (λ b. b || contains s n) (unsigned_tied n number)

pub contains_removed : (s : Numbers) (number n : ℕ) → contains (remove s number) n ≡ (not (n == number) && contains s n)
contains_removed s number n = contains-remove nat_cmp_total s number n ∙ ap (λ b. not b && contains s n) (unsigned_tied n number)

pub members-zero : (words : List ℕ) → IsZero words → members words ≡ empty
members-zero words none = same_members _ _ (λ n. contains-members words n ∙ no_bit words none n ∙ sym (contains-empty nat_cmp n))

pub members-set : (words new : List ℕ) (number : ℕ) → SetsBit words new number → members new ≡ insert (members words) number
members-set words new number sets = same_members _ _ (λ n.
    contains-members new n ∙ sets.bits n ∙ ap (λ b. (n == number) || b) (sym (contains-members words n)) ∙ sym (contains_inserted (members words) number n))

pub members-cleared : (words new : List ℕ) (number : ℕ) → ClearsBit words new number → members new ≡ remove (members words) number
members-cleared words new number clears = same_members _ _ (λ n.
    contains-members new n ∙ clears.bits n ∙ ap (λ b. not (n == number) && b) (sym (contains-members words n)) ∙ sym (contains_removed (members words) number n))

-- a word that was put has the bits of its numbers, and the other numbers are members as before
pub bits_put : (words new : List ℕ) (place word : ℕ) → PutsWord words new place word → HasBitsOf (members new) place word
bits_put words new place word puts = subst (λ (value : ℕ). HasBitsOf (members new) place value) puts.here (bits_of_word new place)

pub others_put : (words new : List ℕ) (place word number : ℕ) → PutsWord words new place word → number / 64 ≢ place → contains (members new) number ≡ contains (members words) number
others_put words new place word number puts other =
    contains-members new number
    ∙ ap (λ (value : ℕ). bit_at value (number % 64) == 1) (puts.others (number / 64) other)
    ∙ sym (contains-members words number)
