-- Removals go through the notices of a board in their order.
use Rattle.std.proofs.Common.{◌≡◌, ◌≢◌, ℕ, ◌+◌, ◌<◌, ◌≤◌, true, false, List, [], ◌∷◌, drop, zero, suc, Option, Some, None, is_some, inl, inr, refl, sym, ap, ◌∙◌, arith, slice_get}
use Rattle.std.proofs.lemmas.Bool.{cases_eq, false_from_ne_true}
use Rattle.std.specs.List.{flat_map, range_with_len}
use Rattle.std.specs.Ordering.{nat_cmp}
use Rattle.std.specs.FinSet.{contains, contains-empty}
use Rattle.change_boards.specs.declared.sort.Sort.{Sort}
use Rattle.change_boards.specs.declared.sort.Sort.TheVariants.{Source, Protect}
use Rattle.change_boards.specs.Board.{Board, IsEmpty, has_notice, next, without, without_next}
use Rattle.change_boards.specs.Laws.{notices_at, notices_below, RemovalsInOrder}
use Rattle.change_boards.proofs.NextLemmas.{next-None}
use Rattle.change_boards.proofs.OneNotice.{IsNext, next-IsNext, removed, removed_less, removed_other}

-- boards with the same notices of a destination
same_at : (a b : Board) (dest : ℕ) → has_notice a dest Source ≡ has_notice b dest Source → has_notice a dest Protect ≡ has_notice b dest Protect → notices_at a dest ≡ notices_at b dest
same_at a b dest source protect = rw (source, protect) refl

none_at : (board : Board) (dest : ℕ) → ((s : Sort) → has_notice board dest s ≡ false) → notices_at board dest ≡ []
none_at board dest none = rw (none Source, none Protect) refl

same_behind : (a b : Board) (from count : ℕ) → ((dest : ℕ) → from ≤ dest → notices_at a dest ≡ notices_at b dest) → flat_map (notices_at a) (range_with_len from count) ≡ flat_map (notices_at b) (range_with_len from count)
same_behind a b from zero same = refl
same_behind a b from (suc count) same = rw (same from (omega arith), same_behind a b (from + 1) count (λ dest low. same dest (omega arith))) refl

none_behind : (board : Board) (from count : ℕ) → ((dest : ℕ) → notices_at board dest ≡ []) → flat_map (notices_at board) (range_with_len from count) ≡ []
none_behind board from zero none = refl
none_behind board from (suc count) none = rw (none from, none_behind board (from + 1) count none) refl

module _ (board : Board) (dest : ℕ) (sort : Sort) (is : IsNext board dest sort) where
  abbrev rest : Board
  rest = without board (Some (dest, sort))

  -- a lower destination has no notice
  lower_none : (d : ℕ) → d < dest → (s : Sort) → has_notice board d s ≡ false
  lower_none d low s = false_from_ne_true (has_notice board d s) (λ has.
      elim (is.first d s has (λ e. let same : d ≡ dest = λ i. (e i).0 in omega (arith, same))) [
        | inl behind ↦ omega arith
        | inr here ↦ omega (arith, here.0)
      ])

  rest_other : (d : ℕ) → d ≢ dest → (s : Sort) → has_notice rest d s ≡ has_notice board d s
  rest_other d other s = removed_other board dest sort d s (λ e. other (λ i. (e i).0))

  rest_at : (d : ℕ) → d ≢ dest → notices_at rest d ≡ notices_at board d
  rest_at d other = same_at rest board d (rest_other d other Source) (rest_other d other Protect)

first_at : (board : Board) (dest : ℕ) (sort : Sort) → IsNext board dest sort → notices_at board dest ≡ (dest, sort) ∷ notices_at (without board (Some (dest, sort))) dest
first_at board dest Source is = rw (is.stood, removed board dest Source) refl
first_at board dest Protect is =
    let no_source : contains board.source dest ≡ false = false_from_ne_true (contains board.source dest) (λ has.
    elim (is.first dest Source has (λ e. let same : Source ≡ Protect = λ i. (e i).1 in cc)) [ inl behind ↦ omega arith | inr here ↦ let same : Protect ≡ Source = here.1 in cc ]) in
    rw (no_source, is.stood, removed board dest Protect) refl

first_of_all : (board : Board) (dest : ℕ) (sort : Sort) → IsNext board dest sort → (from count : ℕ) → from ≤ dest → dest < from + count →
    flat_map (notices_at board) (range_with_len from count) ≡ (dest, sort) ∷ flat_map (notices_at (without board (Some (dest, sort)))) (range_with_len from count)
first_of_all board dest sort is from zero low high = absurd (omega arith)
first_of_all board dest sort is from (suc count) low high =
    let rest : Board = without board (Some (dest, sort)) in
    elim (cases_eq from dest) [
      | inl here ↦
          rw (here, first_at board dest sort is, same_behind board rest (dest + 1) count (λ d behind. sym (rest_at board dest sort is d (λ e. let same : d ≡ dest = e in omega arith)))) refl
      | inr other ↦
          let none = lower_none board dest sort is from (omega (arith, other)) in
          let none_left = none_at rest from (λ s. rest_other board dest sort is from other s ∙ none s) in
          rw (none_at board from none, none_left) (first_of_all board dest sort is (from + 1) count (omega (arith, other)) (omega arith))
    ]

-- where nothing is next, there is nothing
none_of_all : (board : Board) (destinations : ℕ) → next board ≡ None → notices_below destinations board ≡ []
none_of_all board destinations h =
    let is = (next-None board (next board) refl).0 (ap is_some h) in
    none_behind board 0 destinations (λ dest. none_at board dest (λ s. empty_has board dest s is))
  where
    empty_has : (board : Board) (dest : ℕ) (s : Sort) → IsEmpty board → has_notice board dest s ≡ false
    empty_has board dest Source is = ap (λ dests. contains dests dest) is.source ∙ contains-empty nat_cmp dest
    empty_has board dest Protect is = ap (λ dests. contains dests dest) is.protect ∙ contains-empty nat_cmp dest

-- a take keeps the notices below a count there
pub taken_has : (board : Board) (dest : ℕ) (sort : Sort) → has_notice (without_next board) dest sort ≡ true → has_notice board dest sort ≡ true
taken_has board dest sort has = go (next board) has
  where
    go : (notice : Option (ℕ × Sort)) → has_notice (without board notice) dest sort ≡ true → has_notice board dest sort ≡ true
    go None has = has
    go (Some notice) has = removed_less board notice.0 notice.1 dest sort has

-- one take removes the first of all notices
one_take : (board : Board) (destinations : ℕ) → ((dest : ℕ) (sort : Sort) → has_notice board dest sort ≡ true → dest < destinations) →
    (notices_below destinations (without_next board) ≡ drop 1 (notices_below destinations board)) × (next board ≡ slice_get (notices_below destinations board) 0)
one_take board destinations below = go (next board) refl
  where
    go : (notice : Option (ℕ × Sort)) → next board ≡ notice →
        (notices_below destinations (without board notice) ≡ drop 1 (notices_below destinations board)) × (notice ≡ slice_get (notices_below destinations board) 0)
    go None h =
        let none = none_of_all board destinations h in
        (none ∙ sym (ap (drop 1) none), sym (ap (λ notices. slice_get notices 0) none))
    go (Some (dest, sort)) h =
        let is = next-IsNext board dest sort h in
        let all = first_of_all board dest sort is 0 destinations (omega arith) (omega (arith, below dest sort is.stood)) in
        (sym (ap (drop 1) all), sym (ap (λ notices. slice_get notices 0) all))

drop-suc : (n : ℕ) (notices : List (ℕ × Sort)) → drop n (drop 1 notices) ≡ drop (suc n) notices
drop-suc zero [] = refl
drop-suc (suc n) [] = refl
drop-suc n (notice ∷ notices) = refl

slice_get-drop : (n : ℕ) (notices : List (ℕ × Sort)) → slice_get (drop 1 notices) n ≡ slice_get notices (suc n)
slice_get-drop n [] = refl
slice_get-drop n (notice ∷ notices) = refl

pub takes_in_order : (takes : ℕ) (board : Board) (destinations : ℕ) → ((dest : ℕ) (sort : Sort) → has_notice board dest sort ≡ true → dest < destinations) → RemovalsInOrder board destinations takes
takes_in_order zero board destinations below = record { left = refl; next = (one_take board destinations below).1 }
takes_in_order (suc takes) board destinations below =
    let one = one_take board destinations below in
    let more = takes_in_order takes (without_next board) destinations (λ dest sort has. below dest sort (taken_has board dest sort has)) in
    record {
      left = more.left ∙ ap (drop takes) one.0 ∙ drop-suc takes (notices_below destinations board);
      next = more.next ∙ ap (λ notices. slice_get notices takes) one.0 ∙ slice_get-drop takes (notices_below destinations board);
    }
