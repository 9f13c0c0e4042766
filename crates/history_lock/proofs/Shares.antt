-- Each entry of a closed history is that of one seat.
use Rattle.std.proofs.Common.{◌≡◌, ℕ, ◌+◌, ◌<◌, ◌==◌, Bool, true, false, cond, not, List, [], ◌∷◌, ◌++◌, All, AllPairs, Contains, length, filter, flat_map, map, suc, zero, inl, inr, refl, sym, ap, ◌∙◌, arith, IsPermutation, true≢false, eq-eqb, eqb-true, ◌||◌, slice_index_or}
use Rattle.std.specs.List.{enumerate_from, list_any}
use Rattle.std.proofs.lemmas.Bool.{both_ways, cond-false, false_from_ne_true, not_from_false, not-true, or_cases}
use Rattle.std.proofs.lemmas.List.Elements.{All-nil, All-cons, All-head, All-tail, All-filter, filter_passes, filter-append}
use Rattle.std.proofs.lemmas.List.Sorted.{IsPermutation-refl, IsPermutation-append, IsPermutation-trans, IsPermutation-filter_both}
use Rattle.std.proofs.lemmas.List.{append-nil, append_cancel_left}
use mathlib.Core.List.{IsPrefix}
use Rattle.history_lock.specs.declared.entry.Entry.{Entry}
use Rattle.history_lock.specs.Calls.{HasOwn}
use Rattle.history_lock.specs.Closing.{HasAll}
use Rattle.history_lock.specs.History.{entries_of}
use Rattle.history_lock.specs.Seats.{SeatData}
use Rattle.history_lock.specs.Shares.{own_entries, AreApart}

module _ {X : Type 0} where
  -- a test that passes fewer keeps the same of what the other one keeps
  filter_within : (p q : X → Bool) → ((x : X) → p x ≡ true → q x ≡ true) → (xs : List X) → filter p (filter q xs) ≡ filter p xs
  filter_within p q narrower [] = refl
  filter_within p q narrower (x ∷ xs) =
      elim (q x) as (λ b. q x ≡ b → filter p (cond b (x ∷ filter q xs) (filter q xs)) ≡ filter p (x ∷ xs)) [
        | true ↦ λ is. ap (λ rest. cond (p x) (x ∷ rest) rest) (filter_within p q narrower xs)
        | false ↦ λ is. filter_within p q narrower xs ∙ sym (cond-false (p x) _ _ (false_from_ne_true (p x) (λ passes. both_ways (q x) is (narrower x passes))))
      ] refl

  enumerate_from-append : (k : ℕ) (xs ys : List X) → enumerate_from k (xs ++ ys) ≡ enumerate_from k xs ++ enumerate_from (k + length xs) ys
  enumerate_from-append k [] ys = ap (λ n. enumerate_from n ys) (omega arith)
  enumerate_from-append k (x ∷ xs) ys = ap (λ rest. (k, x) ∷ rest) (enumerate_from-append (k + 1) xs ys ∙ ap (λ n. enumerate_from (k + 1) xs ++ enumerate_from n ys) (omega arith))

  All-placed : (P : X → Type 0) (k : ℕ) (xs : List X) → All P xs → All (λ one. P one.1) (enumerate_from k xs)
  All-placed P k [] all = All-nil (λ one. P one.1)
  All-placed P k (x ∷ xs) all = All-cons (λ one. P one.1) (k, x) (enumerate_from (k + 1) xs) (All-head P x xs all) (All-placed P (k + 1) xs (All-tail P x xs all))

module _ {K X : Type 0} (same : K → X → Bool) where
  others : (k : K) (ks : List K) (ys : List X) → All (λ y. list_any (λ j. same j y) (k ∷ ks) ≡ true) ys → All (λ y. list_any (λ j. same j y) ks ≡ true) (filter (λ x. not (same k x)) ys)
  others k ks ys all i d below =
      let kept = All-filter (λ x. not (same k x)) (λ y. list_any (λ j. same j y) (k ∷ ks) ≡ true) ys all i d below in
      let other = not-true _ (filter_passes (λ x. not (same k x)) ys i d below) in
      elim (or_cases _ _ kept) [
        | inl here ↦ absurd (both_ways _ other here)
        | inr behind ↦ behind
      ]

  -- a list each of whose elements is of one key is what the keys have of it, one key after another
  parted : (ks : List K) (ys xs : List X) → AllPairs (λ j k. (x : X) → same j x ≡ true → same k x ≡ false) ks → All (λ y. list_any (λ k. same k y) ks ≡ true) ys → All (λ k. filter (same k) ys ≡ filter (same k) xs) ks →
      IsPermutation ys (flat_map (λ k. filter (same k) xs) ks)
  parted [] [] xs apart all alike = IsPermutation-refl []
  parted [] (y ∷ ys) xs apart all alike = absurd (true≢false (sym (All-head (λ x. false ≡ true) y ys all)))
  parted (k ∷ ks) ys xs apart all alike =
      let other : X → Bool = λ x. not (same k x) in
      let rest = parted ks (filter other ys) xs (λ i j d before within. apart (suc i) (suc j) d (omega arith) (omega arith)) (others k ks ys all)
      (λ j d below. filter_within (same _) other (λ x is. not_from_false _ (false_from_ne_true _ (λ here. both_ways _ (apart 0 (suc j) d (omega arith) (omega arith) x here) is))) ys ∙ alike (suc j) d (omega arith)) in
      IsPermutation-trans ys (filter (same k) ys ++ filter other ys) _ (IsPermutation-filter_both (same k) other (λ x. refl) ys)
      (IsPermutation-append (filter (same k) ys) (filter (same k) xs) (filter other ys) _
      (rw (All-head (λ k. filter (same k) ys ≡ filter (same k) xs) k ks alike) (IsPermutation-refl (filter (same k) xs))) rest)

module _ {Request Answer : Type 0} where
  none_own : (n k : ℕ) (later : List (Entry Request Answer)) → entries_of n later ≡ [] → filter (λ one. one.1.seat == n) (enumerate_from k later) ≡ []
  none_own n k [] none = refl
  none_own n k (entry ∷ later) none =
      elim (entry.seat == n) as (λ b. cond b (entry ∷ entries_of n later) (entries_of n later) ≡ [] → cond b ((k, entry) ∷ filter (λ one. one.1.seat == n) (enumerate_from (k + 1) later)) (filter (λ one. one.1.seat == n) (enumerate_from (k + 1) later)) ≡ []) [
        | true ↦ λ is. absurd cc
        | false ↦ none_own n (k + 1) later
      ] none

module _ {State Request Answer : Type 0} where
  -- whether an entry is a seat's own
  abbrev is_own : SeatData State Request Answer → ℕ × Entry Request Answer → Bool
  is_own seat one = one.1.seat == seat.number

  -- what a seat has of its own among what it saw, it has among the whole history
  own_of_all : (past : List (Entry Request Answer)) (seat : SeatData State Request Answer) → IsPrefix seat.seen past → HasOwn past seat → own_entries seat ≡ filter (is_own seat) (enumerate_from 0 past)
  own_of_all past seat (rest, is) own =
      let none : entries_of seat.number rest ≡ [] = append_cancel_left (entries_of seat.number seat.seen) (entries_of seat.number rest) []
      (sym (filter-append (λ entry. entry.seat == seat.number) seat.seen rest) ∙ (ap (entries_of seat.number) is ∙ (own ∙ sym (append-nil (entries_of seat.number seat.seen))))) in
      let later = enumerate_from (0 + length seat.seen) rest in
      sym (append-nil (own_entries seat)) ∙ (ap (λ more. own_entries seat ++ more) (sym (none_own seat.number (0 + length seat.seen) rest none))
      ∙ (sym (filter-append (is_own seat) (enumerate_from 0 seat.seen) later) ∙ ap (filter (is_own seat)) (sym (enumerate_from-append 0 seat.seen rest) ∙ ap (enumerate_from 0) is)))

  own_of_each : (past : List (Entry Request Answer)) (seats : List (SeatData State Request Answer)) → All (λ seat. IsPrefix seat.seen past) seats → All (HasOwn past) seats
      → flat_map own_entries seats ≡ flat_map (λ seat. filter (is_own seat) (enumerate_from 0 past)) seats
  own_of_each past [] seen own = refl
  own_of_each past (seat ∷ seats) seen own =
      cc (
        own_of_all past seat (All-head (λ seat. IsPrefix seat.seen past) seat seats seen) (All-head (HasOwn past) seat seats own),
        own_of_each past seats (All-tail (λ seat. IsPrefix seat.seen past) seat seats seen) (All-tail (HasOwn past) seat seats own),
      )

  -- an entry under the number of a seat is the own of one
  is_some_own : (seats : List (SeatData State Request Answer)) (one : ℕ × Entry Request Answer) → Contains (map (λ seat. seat.number) seats) one.1.seat → list_any (λ seat. is_own seat one) seats ≡ true
  is_some_own [] one c = absurd (omega (arith, c.1))
  is_some_own (seat ∷ seats) one (zero, below, is) = rw (eq-eqb one.1.seat seat.number (sym is)) refl
  is_some_own (seat ∷ seats) one (suc k, below, is) =
      elim (is_own seat one) as (λ b. (b || list_any (λ seat. is_own seat one) seats) ≡ true) [
        | true ↦ refl
        | false ↦ is_some_own seats one (k, omega arith, is)
      ]

  pub shared : (count : ℕ) (past : List (Entry Request Answer)) (seats : List (SeatData State Request Answer)) → HasAll count seats → AreApart seats
      → All (λ seat. IsPrefix seat.seen past) seats → All (HasOwn past) seats → All (λ entry. entry.seat < count) past → IsPermutation (enumerate_from 0 past) (flat_map own_entries seats)
  shared count past seats all apart seen own below =
      rw (own_of_each past seats seen own) (parted is_own seats (enumerate_from 0 past) (enumerate_from 0 past)
      (λ i j d before within one mine. false_from_ne_true _ (λ theirs. apart i j d before within (sym (eqb-true _ _ mine) ∙ eqb-true _ _ theirs)))
      (λ k d within. is_some_own seats (slice_index_or (enumerate_from 0 past) k d) (all _ (All-placed (λ entry. entry.seat < count) 0 past below k d within)))
      (λ k d within. refl))
