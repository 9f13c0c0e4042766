-- The lowest member of a set, and what a search of a range finds.
use Rattle.std.proofs.Common.{◌≡◌, ℕ, ◌+◌, ◌<◌, ◌≤◌, nat_lt, Bool, true, false, cond, ◌&&◌, find, Option, Some, zero, suc, inl, inr, refl, sym, ap, ◌∙◌, arith, ltb-true}
use Rattle.std.proofs.lemmas.Bool.{and_parts, lt-ltb, cases_eq, false≢true, false_from_ne_true}
use Rattle.std.specs.List.{range_with_len}
use Rattle.std.specs.FinSet.{contains}
use Rattle.number_tables.specs.Numbers.{Numbers, lowest}
use Rattle.number_tables.proofs.LowestLemmas.{lowest-IsLowest, lowest-none}

-- a number that isn't a member is passed
members_behind : (numbers : Numbers) (from count : ℕ) → ((n : ℕ) → contains numbers n ≡ true → (from ≤ n) × (n < from + suc count)) → contains numbers from ≡ false → (n : ℕ) → contains numbers n ≡ true → (from + 1 ≤ n) × (n < from + 1 + count)
members_behind numbers from count within none n has =
    let both = within n has in
    elim (cases_eq n from) [
      | inl same ↦ absurd (false≢true (sym none ∙ ap (contains numbers) (sym same) ∙ has))
      | inr other ↦ (omega (arith, both.0, other), omega (arith, both.1))
    ]

-- The lowest member of a set is what a search of a range finds, if its members are the numbers of the range that pass.
lowest_from : (numbers : Numbers) (test : ℕ → Bool) (from count : ℕ) → ((n : ℕ) → contains numbers n ≡ true → (from ≤ n) × (n < from + count)) → ((n : ℕ) → from ≤ n → n < from + count → contains numbers n ≡ test n) →
    lowest numbers ≡ find test (range_with_len from count)
lowest_from numbers test from zero within alike = lowest-none numbers (λ n. false_from_ne_true _ (λ has.
    let both = within n has in
    absurd (omega (arith, both.0, both.1))))
lowest_from numbers test from (suc count) within alike =
    by (test from) refl (λ fails.
    lowest_from numbers test (from + 1) count
    (members_behind numbers from count within (here ∙ fails))
    (λ n low high. alike n (omega (arith, low)) (omega (arith, high))))
  where
    here : contains numbers from ≡ test from
    here = alike from (omega arith) (omega arith)

    rest : Option ℕ
    rest = find test (range_with_len (from + 1) count)

    by : (b : Bool) → test from ≡ b → (test from ≡ false → lowest numbers ≡ rest) → lowest numbers ≡ find test (range_with_len from (suc count))
    by true passes behind =
        lowest-IsLowest numbers from (record { has = here ∙ passes; least = λ n has. (within n has).0 })
        ∙ sym (ap (λ b. cond b (Some from) rest) passes)
    by false fails behind = behind fails ∙ sym (ap (λ b. cond b (Some from) rest) fails)

pub lowest_below : (numbers : Numbers) (test : ℕ → Bool) (count : ℕ) → ((n : ℕ) → contains numbers n ≡ (nat_lt n count && test n)) → lowest numbers ≡ find test (range_with_len 0 count)
lowest_below numbers test count are =
    lowest_from numbers test 0 count
    (λ n has.
    let below : n < count = ltb-true n count (and_parts (nat_lt n count) (test n) (sym (are n) ∙ has)).0 in
    (omega arith, omega (arith, below)))
    (λ n low high.
    let below : n < count = omega (arith, high) in
    are n ∙ ap (λ b. b && test n) (lt-ltb n count below))
