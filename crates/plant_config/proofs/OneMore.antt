-- What lists give with one element more, and functions of equal arguments.
use Rattle.std.proofs.Common.{◌≡◌, ℕ, zero, suc, ◌+◌, ◌<◌, ◌≤◌, ltb, not, Bool, cond, unwrap_or, List, [], ◌∷◌, ◌++◌, length, get_or, take, flat_map, Option, Some, None, ap, ◌∙◌, arith, add-one, length-append}
use Rattle.std.specs.List.{range_with_len, enumerate_from, position, position_or_len}
use Rattle.std.specs.Option.{option_or}
use Rattle.std.proofs.lemmas.List.{take_more}
use Rattle.std.proofs.lemmas.List.Concat.{flat_map-append}
use Rattle.std.proofs.lemmas.List.Folds.{position_or_len_push}
use Rattle.std.proofs.lemmas.List.Sums.{prefix_len-le-length}
use Rattle.std.proofs.lemmas.Bool.Decides.{nat_tests}
use Rattle.std.proofs.lemmas.Grind.{common_steps}

pub same_2 : {A B R : Type 0} (f : A → B → R) {a c : A} {b d : B} → a ≡ c → b ≡ d → f a b ≡ f c d
same_2 f p q = λ i. f (p i) (q i)

pub same_3 : {A B C R : Type 0} (f : A → B → C → R) {a d : A} {b e : B} {c g : C} → a ≡ d → b ≡ e → c ≡ g → f a b c ≡ f d e g
same_3 f p q r = λ i. f (p i) (q i) (r i)

range_with_len-more : (from count : ℕ) → range_with_len from (count + 1) ≡ range_with_len from count ++ (from + count) ∷ []
range_with_len-more from zero = ap (λ n. n ∷ []) (omega arith)
range_with_len-more from (suc count) =
    let again = rw (add-one count) at (range_with_len-more (from + 1) count) in
    rw (add-one (suc count)) (ap (λ rest. from ∷ rest) (again ∙ ap (λ n. range_with_len (from + 1) count ++ n ∷ []) (omega arith)))

pub flat_map-range_more : {X : Type 0} (f : ℕ → List X) (count : ℕ) → flat_map f (range_with_len 0 (count + 1)) ≡ flat_map f (range_with_len 0 count) ++ f count
flat_map-range_more f count =
    ap (flat_map f) (range_with_len-more 0 count) ∙ flat_map-append f (range_with_len 0 count) ((0 + count) ∷ []) ∙ grind (arith, common_steps)

enumerate_from_push : {X : Type 0} (from : ℕ) (xs : List X) (x : X) → enumerate_from from (xs ++ x ∷ []) ≡ enumerate_from from xs ++ (from + length xs, x) ∷ []
enumerate_from_push from [] x = ap (λ (number : ℕ). (number, x) ∷ []) (omega arith)
enumerate_from_push from (y ∷ ys) x =
    ap (λ rest. (from, y) ∷ rest) (enumerate_from_push (from + 1) ys x ∙ ap (λ (number : ℕ). enumerate_from (from + 1) ys ++ (number, x) ∷ []) (omega arith))

pub enumerate_from-more : {X : Type 0} (xs : List X) (i : ℕ) (d : X) → i < length xs → enumerate_from 0 (take (i + 1) xs) ≡ enumerate_from 0 (take i xs) ++ (i, get_or xs i d) ∷ []
enumerate_from-more xs i d low =
    let count : 0 + length (take i xs) ≡ i = grind (arith, common_steps) in
    ap (enumerate_from 0) (take_more xs i d low) ∙ enumerate_from_push 0 (take i xs) (get_or xs i d)
    ∙ ap (λ (number : ℕ). enumerate_from 0 (take i xs) ++ (number, get_or xs i d) ∷ []) count

position_push : {X : Type 0} (test : X → Bool) (xs : List X) (x : X) → position test (xs ++ x ∷ []) ≡ option_or (position test xs) (cond (test x) (Some (length xs)) None)
position_push test xs x =
    grind (arith, nat_tests, common_steps, position_or_len_push test xs x, length-append xs (x ∷ []), prefix_len-le-length (λ y. not (test y)) xs)

pub position-more : {X : Type 0} (test : X → Bool) (xs : List X) (i : ℕ) (d : X) → i < length xs →
    position test (take (i + 1) xs) ≡ option_or (position test (take i xs)) (cond (test (get_or xs i d)) (Some i) None)
position-more test xs i d low =
    let count : length (take i xs) ≡ i = grind (arith, common_steps) in
    ap (position test) (take_more xs i d low) ∙ position_push test (take i xs) (get_or xs i d)
    ∙ ap (λ number. option_or (position test (take i xs)) (cond (test (get_or xs i d)) (Some number) None)) count

at_length : (place count : ℕ) → place ≤ count → unwrap_or (cond (ltb place count) (Some place) None) count ≡ place
at_length place count low = grind (arith, nat_tests)

-- the first place that passes, where there is one
pub position_or_len-from_position : {X : Type 0} (test : X → Bool) (xs : List X) (found : Option ℕ) → found ≡ position test xs → unwrap_or found (length xs) ≡ position_or_len test xs
position_or_len-from_position test xs found is =
    ap (λ place. unwrap_or place (length xs)) is ∙ at_length (position_or_len test xs) (length xs) (prefix_len-le-length (λ x. not (test x)) xs)
