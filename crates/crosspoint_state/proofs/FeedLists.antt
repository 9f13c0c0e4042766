-- Searches of what is found at the numbers of a range, and of the numbers themselves.
use Rattle.std.proofs.Common.{◌≡◌, ℕ, ◌+◌, ◌<◌, nat_eq, Bool, true, false, cond, ◌||◌, List, [], ◌∷◌, map, find, filter_map, Option, Some, None, zero, suc, refl, sym, ap, ◌∙◌, arith}
use Rattle.std.proofs.lemmas.Bool.{or_left, or_right, or_parts, false≢true}
use Rattle.std.specs.List.{range_with_len, list_any, cons_option, AllByRecursion}

any_behind : {Y : Type 0} (test : Y → Bool) (first : Option Y) (rest : List Y) → list_any test rest ≡ true → list_any test (cons_option first rest) ≡ true
any_behind test None rest e = e
any_behind test (Some y) rest e = or_right (test y) (list_any test rest) e

-- what is found at a number of the range is met by each search that it passes
pub any_found : {Y : Type 0} (h : ℕ → Option Y) (test : Y → Bool) (a n k : ℕ) (y : Y) → k < n → h (a + k) ≡ Some y → test y ≡ true → list_any test (filter_map h (range_with_len a n)) ≡ true
any_found h test a zero k y within e passes = absurd (omega (arith, within))
any_found h test a (suc n) zero y within e passes =
    let start : a ≡ a + 0 = omega arith in
    ap (λ first. list_any test (cons_option first (filter_map h (range_with_len (a + 1) n)))) (ap h start ∙ e)
    ∙ or_left (test y) (list_any test (filter_map h (range_with_len (a + 1) n))) passes
any_found h test a (suc n) (suc k) y within e passes =
    let next : a + 1 + k ≡ a + suc k = omega arith in
    any_behind test (h a) (filter_map h (range_with_len (a + 1) n))
    (any_found h test (a + 1) n k y (omega (arith, within)) (ap h next ∙ e) passes)

-- a number of the range at which this is found
pub record IsFoundAt {Y : Type 0} (h : ℕ → Option Y) (a n : ℕ) (y : Y) : Type 0 where
  pub number : ℕ
  pub within : number < n
  pub is : h (a + number) ≡ Some y

found_behind : {Y : Type 0} (h : ℕ → Option Y) (a n : ℕ) (y : Y) → IsFoundAt h (a + 1) n y → IsFoundAt h a (suc n) y
found_behind h a n y found =
    let next : a + suc found.number ≡ a + 1 + found.number = omega arith in
    record { number = suc found.number; within = omega (arith, found.within); is = ap h next ∙ found.is }

found_here : {Y : Type 0} (h : ℕ → Option Y) (a n : ℕ) (y : Y) → h a ≡ Some y → IsFoundAt h a (suc n) y
found_here h a n y e =
    let start : a + 0 ≡ a = omega arith in
    record { number = 0; within = omega arith; is = ap h start ∙ e }

some_same : {Y : Type 0} (x y : Y) → Some x ≡ Some y → x ≡ y
some_same x y e = cc

-- what a search finds passes it, and is found at a number of the range
pub find_found : {Y : Type 0} (h : ℕ → Option Y) (test : Y → Bool) (a n : ℕ) (y : Y) → find test (filter_map h (range_with_len a n)) ≡ Some y → IsFoundAt h a n y × (test y ≡ true)
find_found h test a zero y e = cc
find_found {Y} h test a (suc n) y e = by (find_found h test (a + 1) n y) (h a) refl e
  where
    later : IsFoundAt h (a + 1) n y × (test y ≡ true) → IsFoundAt h a (suc n) y × (test y ≡ true)
    later rest = (found_behind h a n y rest.0, rest.1)

    chosen : (find test (filter_map h (range_with_len (a + 1) n)) ≡ Some y → IsFoundAt h (a + 1) n y × (test y ≡ true)) → (z : Y) (b : Bool) → h a ≡ Some z → test z ≡ b → cond b (Some z) (find test (filter_map h (range_with_len (a + 1) n))) ≡ Some y → IsFoundAt h a (suc n) y × (test y ≡ true)
    chosen behind z true here passes e =
        let same : z ≡ y = some_same z y e in
        (found_here h a n y (here ∙ ap Some same), ap test (sym same) ∙ passes)
    chosen behind z false here fails e = later (behind e)

    by : (find test (filter_map h (range_with_len (a + 1) n)) ≡ Some y → IsFoundAt h (a + 1) n y × (test y ≡ true)) → (first : Option Y) → h a ≡ first → find test (cons_option first (filter_map h (range_with_len (a + 1) n))) ≡ Some y → IsFoundAt h a (suc n) y × (test y ≡ true)
    by behind None here e = later (behind e)
    by behind (Some z) here e = chosen behind z (test z) here refl e

-- a search that finds nothing is passed by nothing
pub none_any : {Y : Type 0} (test : Y → Bool) (ys : List Y) → find test ys ≡ None → list_any test ys ≡ false
none_any test [] e = refl
none_any test (y ∷ ys) e = by (none_any test ys) (test y) e
  where
    by : (find test ys ≡ None → list_any test ys ≡ false) → (b : Bool) → cond b (Some y) (find test ys) ≡ None → (b || list_any test ys) ≡ false
    by behind true e = cc
    by behind false e = behind e

-- a search that something passes finds something
pub any_finds : {Y : Type 0} (test : Y → Bool) (ys : List Y) → list_any test ys ≡ true → (y : Y) × (find test ys ≡ Some y)
any_finds test [] e = absurd (false≢true e)
any_finds {Y} test (y ∷ ys) e = by (any_finds test ys) (test y) e
  where
    by : (list_any test ys ≡ true → (z : Y) × (find test ys ≡ Some z)) → (b : Bool) → (b || list_any test ys) ≡ true → (z : Y) × (cond b (Some y) (find test ys) ≡ Some z)
    by behind true e = (y, refl)
    by behind false e = behind e

pub any_map : {X Y : Type 0} (f : X → Y) (test : Y → Bool) (xs : List X) → list_any test (map f xs) ≡ list_any (λ x. test (f x)) xs
any_map f test [] = refl
any_map f test (x ∷ xs) = ap (λ b. test (f x) || b) (any_map f test xs)

-- a number that a search of the range finds
pub find_number : (test : ℕ → Bool) (a n number : ℕ) → find test (range_with_len a n) ≡ Some number → (number < a + n) × (test number ≡ true)
find_number test a zero number e = cc
find_number test a (suc n) number e = by (find_number test (a + 1) n number) (test a) refl e
  where
    by : (find test (range_with_len (a + 1) n) ≡ Some number → (number < a + 1 + n) × (test number ≡ true)) → (b : Bool) → test a ≡ b → cond b (Some a) (find test (range_with_len (a + 1) n)) ≡ Some number → (number < a + suc n) × (test number ≡ true)
    by behind true passes e =
        let same : a ≡ number = some_same a number e in
        (omega arith, ap test (sym same) ∙ passes)
    by behind false fails e =
        let rest = behind e in
        let below : number < a + 1 + n = rest.0 in
        (omega arith, rest.1)

-- no number of the range passes a search that finds none
pub none_number : (test : ℕ → Bool) (a n k : ℕ) → find test (range_with_len a n) ≡ None → k < n → test (a + k) ≡ false
none_number test a zero k e within = absurd (omega (arith, within))
none_number test a (suc n) k e within = by (none_number test (a + 1) n) (test a) refl e k within
  where
    by : ((k : ℕ) → find test (range_with_len (a + 1) n) ≡ None → k < n → test (a + 1 + k) ≡ false) → (b : Bool) → test a ≡ b → cond b (Some a) (find test (range_with_len (a + 1) n)) ≡ None → (k : ℕ) → k < suc n → test (a + k) ≡ false
    by behind true passes e k within = cc
    by behind false fails e zero within =
        let start : a + 0 ≡ a = omega arith in
        ap test start ∙ fails
    by behind false fails e (suc k) within =
        let next : a + suc k ≡ a + 1 + k = omega arith in
        ap test next ∙ behind k e (omega (arith, within))

-- a number that is none of a list differs from each of it
pub apart_from_absent : (x : ℕ) (ys : List ℕ) → list_any (nat_eq x) ys ≡ false → AllByRecursion (λ y. nat_eq x y ≡ false) ys
apart_from_absent x [] e = tt
apart_from_absent x (y ∷ ys) e =
    let parts = or_parts (nat_eq x y) (list_any (nat_eq x) ys) e in
    (parts.0, apart_from_absent x ys parts.1)
