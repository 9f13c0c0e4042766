-- Tests of all numbers below a count.
use Rattle.std.proofs.Common.{◌≡◌, ℕ, ◌+◌, ◌-◌, ◌<◌, Bool, true, false, ◌||◌, ◌&&◌, [], ◌∷◌, ◌++◌, refl, ap, ◌∙◌, arith}
use Rattle.std.proofs.lemmas.List.Folds.{list_any-append, list_all-append}
use Rattle.std.specs.List.{range_with_len, list_any, list_all}
use Rattle.plant_core.proofs.FaultLemmas.{range-append, range-split}

range-more : (count : ℕ) → range_with_len 0 (count + 1) ≡ range_with_len 0 count ++ (count ∷ [])
range-more count =
    let start : 0 + count ≡ count = omega arith in
    range-append 0 count 1 ∙ ap (λ (first : ℕ). range_with_len 0 count ++ (first ∷ [])) start

or_false : (one two : Bool) → one ≡ false → two ≡ false → (one || two) ≡ false
or_false true two is is_too = (cc)
or_false false two is is_too = is_too

or_true : (one two : Bool) → two ≡ true → (one || two) ≡ true
or_true true two is = refl
or_true false two is = is

and_true : (one two : Bool) → one ≡ true → two ≡ true → (one && two) ≡ true
and_true true two is is_too = is_too
and_true false two is is_too = (cc)

and_false : (one two : Bool) → two ≡ false → (one && two) ≡ false
and_false true two is = is
and_false false two is = refl

pub any_more : (count : ℕ) (test : ℕ → Bool) → list_any test (range_with_len 0 count) ≡ false → test count ≡ false → list_any test (range_with_len 0 (count + 1)) ≡ false
any_more count test none here =
    let last : list_any test (count ∷ []) ≡ false = rw here refl in
    ap (list_any test) (range-more count)
    ∙ list_any-append test (range_with_len 0 count) (count ∷ [])
    ∙ or_false (list_any test (range_with_len 0 count)) (list_any test (count ∷ [])) none last

pub any_found : (number count : ℕ) (test : ℕ → Bool) → number < count → test number ≡ true → list_any test (range_with_len 0 count) ≡ true
any_found number count test below here =
    let rest = range_with_len (number + 1) (count - number - 1) in
    let from : list_any test (number ∷ rest) ≡ true = rw here refl in
    ap (list_any test) (range-split number count below)
    ∙ list_any-append test (range_with_len 0 number) (number ∷ rest)
    ∙ or_true (list_any test (range_with_len 0 number)) (list_any test (number ∷ rest)) from

pub all_more : (count : ℕ) (test : ℕ → Bool) → list_all test (range_with_len 0 count) ≡ true → test count ≡ true → list_all test (range_with_len 0 (count + 1)) ≡ true
all_more count test each here =
    let last : list_all test (count ∷ []) ≡ true = rw here refl in
    ap (list_all test) (range-more count)
    ∙ list_all-append test (range_with_len 0 count) (count ∷ [])
    ∙ and_true (list_all test (range_with_len 0 count)) (list_all test (count ∷ [])) each last

pub all_broken : (number count : ℕ) (test : ℕ → Bool) → number < count → test number ≡ false → list_all test (range_with_len 0 count) ≡ false
all_broken number count test below here =
    let rest = range_with_len (number + 1) (count - number - 1) in
    let from : list_all test (number ∷ rest) ≡ false = rw here refl in
    ap (list_all test) (range-split number count below)
    ∙ list_all-append test (range_with_len 0 number) (number ∷ rest)
    ∙ and_false (list_all test (range_with_len 0 number)) (list_all test (number ∷ rest)) from
