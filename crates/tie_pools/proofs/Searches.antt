-- Searches of lists, and of the numbers of a range.
use Rattle.std.proofs.Common.{◌≡◌, ℕ, ◌+◌, ◌<◌, ◌≤◌, nat_lt, Bool, true, false, cond, ◌||◌, ◌&&◌, List, [], ◌∷◌, find, filter, length, Option, Some, None, zero, suc, inl, inr, refl, sym, ap, ◌∙◌, arith, ltb-true}
use Rattle.std.proofs.lemmas.Bool.{or_parts, and_parts, lt-ltb, cases_eq, false≢true, false_from_ne_true}
use Rattle.std.proofs.lemmas.List.Sums.{length-filter}
use Rattle.std.specs.List.{range_with_len, list_any, count_by}
use Rattle.std.specs.FinSet.{contains}
use Rattle.number_tables.specs.Numbers.{Numbers, lowest}
use Rattle.number_tables.proofs.LowestLemmas.{lowest-IsLowest, lowest-none}

-- a search that nothing passes finds nothing
pub none_found : {X : Type 0} (test : X → Bool) (xs : List X) → list_any test xs ≡ false → find test xs ≡ None
none_found test [] e = refl
none_found test (x ∷ xs) e =
    let parts = or_parts (test x) (list_any test xs) e in
    ap (λ b. cond b (Some x) (find test xs)) parts.0 ∙ none_found test xs parts.1

any_kept : {X : Type 0} (test : X → Bool) (xs : List X) → nat_lt 0 (length (filter test xs)) ≡ list_any test xs
any_kept test [] = refl
any_kept test (x ∷ xs) =
    let rest = any_kept test xs in
    elim (test x) as (λ b. nat_lt 0 (length (cond b (x ∷ filter test xs) (filter test xs))) ≡ (b || list_any test xs)) [
      | true ↦ lt-ltb 0 (length (x ∷ filter test xs)) (omega arith)
      | false ↦ rest
    ]

-- something passes a test exactly where more than none do
pub any_counted : {X : Type 0} (test : X → Bool) (xs : List X) → nat_lt 0 (count_by test xs) ≡ list_any test xs
any_counted test xs = ap (nat_lt 0) (sym (length-filter test xs)) ∙ any_kept test xs

-- two searches of a range find the same where its numbers pass both or neither
pub find_alike : (one other : ℕ → Bool) (from count : ℕ) → ((number : ℕ) → number < from + count → one number ≡ other number) → find one (range_with_len from count) ≡ find other (range_with_len from count)
find_alike one other from zero alike = refl
find_alike one other from (suc count) alike =
    ap (λ b. cond b (Some from) (find one (range_with_len (from + 1) count))) (alike from (omega arith))
    ∙ ap (λ rest. cond (other from) (Some from) rest) (find_alike one other (from + 1) count (λ number below. alike number (omega (arith, below))))

-- a number that isn't a member is passed
members_behind : (numbers : Numbers) (from count : ℕ) → ((n : ℕ) → contains numbers n ≡ true → (from ≤ n) × (n < from + suc count)) → contains numbers from ≡ false → (n : ℕ) → contains numbers n ≡ true → (from + 1 ≤ n) × (n < from + 1 + count)
members_behind numbers from count within none n has =
    let both = within n has in
    elim (cases_eq n from) [
      | inl same ↦ absurd (false≢true (sym none ∙ ap (contains numbers) (sym same) ∙ has))
      | inr other ↦ (omega (arith, both.0, other), omega (arith, both.1))
    ]

-- The lowest member of a set is what a search of a range finds, if its members are the numbers of the range that pass.
lowest_from : (numbers : Numbers) (test : ℕ → Bool) (from count : ℕ) → ((n : ℕ) → contains numbers n ≡ true → (from ≤ n) × (n < from + count)) → ((n : ℕ) → from ≤ n → n < from + count → contains numbers n ≡ test n) →
    lowest numbers ≡ find test (range_with_len from count)
lowest_from numbers test from zero within alike = lowest-none numbers (λ n. false_from_ne_true _ (λ has.
    let both = within n has in
    absurd (omega (arith, both.0, both.1))))
lowest_from numbers test from (suc count) within alike =
    by (test from) refl (λ fails.
    lowest_from numbers test (from + 1) count
    (members_behind numbers from count within (here ∙ fails))
    (λ n low high. alike n (omega (arith, low)) (omega (arith, high))))
  where
    here : contains numbers from ≡ test from
    here = alike from (omega arith) (omega arith)

    rest : Option ℕ
    rest = find test (range_with_len (from + 1) count)

    by : (b : Bool) → test from ≡ b → (test from ≡ false → lowest numbers ≡ rest) → lowest numbers ≡ find test (range_with_len from (suc count))
    by true passes behind =
        lowest-IsLowest numbers from (record { has = here ∙ passes; least = λ n has. (within n has).0 })
        ∙ sym (ap (λ b. cond b (Some from) rest) passes)
    by false fails behind = behind fails ∙ sym (ap (λ b. cond b (Some from) rest) fails)

pub lowest_below : (numbers : Numbers) (test : ℕ → Bool) (count : ℕ) → ((n : ℕ) → contains numbers n ≡ (nat_lt n count && test n)) → lowest numbers ≡ find test (range_with_len 0 count)
lowest_below numbers test count are =
    lowest_from numbers test 0 count
    (λ n has.
    let below : n < count = ltb-true n count (and_parts (nat_lt n count) (test n) (sym (are n) ∙ has)).0 in
    (omega arith, omega (arith, below)))
    (λ n low high.
    let below : n < count = omega (arith, high) in
    are n ∙ ap (λ b. b && test n) (lt-ltb n count below))
