-- A row after one position came or went, and its lowest position.
use Rattle.std.proofs.Common.{◌≡◌, ℕ, ◌+◌, ◌*◌, ◌/◌, ◌%◌, ◌<◌, ◌==◌, Bool, true, false, not, ◌&&◌, ◌||◌, [], ◌∷◌, ◌++◌, zero, suc, length, get_or, set, Some, None, inl, inr, refl, sym, ap, ◌∙◌, arith, eq-eqb, get_or-set_same, get_or-set_other}
use Rattle.std.proofs.lemmas.Bool.{cases_eq, cases_lt, ne_eqb, both_ways}
use Rattle.std.proofs.lemmas.List.{get_or_past}
use Rattle.std.specs.FinSet.{empty, contains, insert, remove, contains-empty}
use Rattle.std.specs.Ordering.{nat_cmp}
use Rattle.number_tables.specs.Numbers.{Numbers, lowest}
use Rattle.number_tables.proofs.Members.{contains_inserted, contains_removed}
use Rattle.number_tables.proofs.LowestLemmas.{IsLowest, IsLowest-lowest, none_lowest}
use Rattle.due_displays.specs.Row.{Row, has_at, row_room, IsLowestOf}

-- where a position has a display that is due, there is room
pub has-within : (row : Row) (position : ℕ) → has_at row position ≡ true → position < row_room row
has-within row position is = elim (cases_lt (position / 1024) (length row)) [
  | inl within ↦ omega (arith, within)
  | inr past ↦ absurd (both_ways (has_at row position) (ap (λ (s : Numbers). contains s (position % 1024)) (get_or_past row (position / 1024) empty past) ∙ contains-empty nat_cmp (position % 1024)) is)
]

-- two positions of one set are the same where they are within it
same-within : (position other : ℕ) → other / 1024 ≡ position / 1024 → (other % 1024 == position % 1024) ≡ (other == position)
same-within position other one = elim (cases_eq other position) [
  | inl same ↦ eq-eqb (other % 1024) (position % 1024) (ap (λ n. n % 1024) same) ∙ sym (eq-eqb other position same)
  | inr apart ↦ ne_eqb (other % 1024) (position % 1024) (λ rest. apart (omega (arith, one, rest))) ∙ sym (ne_eqb other position apart)
]

-- a set of a row changed
has-set : (row : Row) (position : ℕ) (after : Numbers) (change : Bool → Bool → Bool) → position < row_room row →
    ((n : ℕ) → contains after n ≡ change (n == position % 1024) (contains (get_or row (position / 1024) empty) n)) → ((b : Bool) → change false b ≡ b) →
    (other : ℕ) → has_at (set row (position / 1024) after) other ≡ change (other == position) (has_at row other)
has-set row position after change within is stays other = elim (cases_eq (other / 1024) (position / 1024)) [
  | inl one ↦
      let here : get_or (set row (position / 1024) after) (other / 1024) empty ≡ after = ap (λ n. get_or (set row (position / 1024) after) n empty) one ∙ get_or-set_same row (position / 1024) after empty (omega (arith, within)) in
      ap (λ (s : Numbers). contains s (other % 1024)) here ∙ is (other % 1024)
      ∙ ap (λ b. change b (contains (get_or row (position / 1024) empty) (other % 1024))) (same-within position other one)
      ∙ ap (λ n. change (other == position) (contains (get_or row n empty) (other % 1024))) (sym one)
  | inr apart ↦
      ap (λ (s : Numbers). contains s (other % 1024)) (get_or-set_other row (position / 1024) (other / 1024) after empty apart)
      ∙ sym (stays (has_at row other))
      ∙ ap (λ b. change b (has_at row other)) (sym (ne_eqb other position (λ same. apart (ap (λ n. n / 1024) same))))
]

pub inserted : (row : Row) (position : ℕ) (before after : Numbers) → position < row_room row → before ≡ get_or row (position / 1024) empty → after ≡ insert before (position % 1024) →
    (other : ℕ) → has_at (set row (position / 1024) after) other ≡ ((other == position) || has_at row other)
inserted row position before after within was now = has-set row position after (λ a b. a || b) within (λ n. ap (λ (s : Numbers). contains s n) now ∙ contains_inserted before (position % 1024) n ∙ ap (λ (s : Numbers). (n == position % 1024) || contains s n) was) (λ b. refl)

pub removed : (row : Row) (position : ℕ) (before after : Numbers) → position < row_room row → before ≡ get_or row (position / 1024) empty → after ≡ remove before (position % 1024) →
    (other : ℕ) → has_at (set row (position / 1024) after) other ≡ (not (other == position) && has_at row other)
removed row position before after within was now = has-set row position after (λ a b. not a && b) within (λ n. ap (λ (s : Numbers). contains s n) now ∙ contains_removed before (position % 1024) n ∙ ap (λ (s : Numbers). not (n == position % 1024) && contains s n) was) (λ b. refl)

-- the sets below this number are without positions
abbrev pub AreBare : Row → ℕ → Type 0
AreBare row number = (set position : ℕ) → set < number → contains (get_or row set empty) position ≡ false

pub bare_more : (row : Row) (number : ℕ) (set : Numbers) → set ≡ get_or row number empty → lowest set ≡ None → AreBare row number → AreBare row (number + 1)
bare_more row number set is none bare at position below = elim (cases_eq at number) [
  | inl here ↦ ap (λ n. contains (get_or row n empty) position) here ∙ ap (λ (s : Numbers). contains s position) (sym is) ∙ none_lowest set none position
  | inr apart ↦ bare at position (omega (arith, below, apart))
]

pub lowest_found : (row : Row) (number low : ℕ) (set : Numbers) → set ≡ get_or row number empty → Some low ≡ lowest set → low < 1024 → AreBare row number → IsLowestOf row (Some (1024 * number + low))
lowest_found row number low set is found below bare =
    let least : IsLowest set low = IsLowest-lowest set low (sym found) in
    record {
      there = λ position same.
          let at : 1024 * number + low ≡ position = cc in
          let set_at : position / 1024 ≡ number = omega (arith, at, below) in
          let rest : position % 1024 ≡ low = omega (arith, at, below) in
          rw (set_at, rest) (ap (λ (s : Numbers). contains s low) (sym is) ∙ least.has);
      least = λ position other same there.
          let at : 1024 * number + low ≡ position = cc in
          elim (cases_lt (other / 1024) number) [
            | inl before ↦ absurd (both_ways (has_at row other) (bare (other / 1024) (other % 1024) before) there)
            | inr after ↦ elim (cases_eq (other / 1024) number) [
              | inl here ↦
                  let in_set : contains set (other % 1024) ≡ true = ap (λ (s : Numbers). contains s (other % 1024)) (is ∙ ap (λ n. get_or row n empty) (sym here)) ∙ there in
                  omega (arith, least.least (other % 1024) in_set, here, at)
              | inr apart ↦ omega (arith, after, apart, at, below)
            ]
          ];
      none = λ other same there. cc;
    }

pub lowest_none : (row : Row) → AreBare row (length row) → IsLowestOf row None
lowest_none row bare = record {
  there = λ position same. cc;
  least = λ position other same there. cc;
  none = λ other same there.
      let within = has-within row other there in
      both_ways (has_at row other) (bare (other / 1024) (other % 1024) (omega (arith, within))) there;
}

-- sets one after another, each without positions
pub no_sets : (row : Row) → row ≡ [] → (set position : ℕ) → contains (get_or row set empty) position ≡ false
no_sets row none set position = ap (λ (r : Row). contains (get_or r set empty) position) none ∙ contains-empty nat_cmp position

pub more_sets : (row : Row) (new : Numbers) → new ≡ empty → ((set position : ℕ) → contains (get_or row set empty) position ≡ false) → (set position : ℕ) → contains (get_or (row ++ new ∷ []) set empty) position ≡ false
more_sets [] new none bare zero position = ap (λ (s : Numbers). contains s position) none ∙ contains-empty nat_cmp position
more_sets [] new none bare (suc set) position = contains-empty nat_cmp position
more_sets (first ∷ row) new none bare zero position = bare zero position
more_sets (first ∷ row) new none bare (suc set) position = more_sets row new none (λ set position. bare (suc set) position) set position
