-- The feeds of a pool by the one of a destination: those before it, its own and those behind it. What one more element
-- does to counts of a list and to searches of it, wherever it is put in.
use Rattle.std.proofs.Common.{◌≡◌, ◌≢◌, ◌⊎◌, ℕ, ◌+◌, ◌-◌, ◌<◌, ◌≤◌, ◌==◌, nat_eq, Bool, true, false, cond, ◌||◌, List, [], ◌∷◌, ◌++◌, length, find, filter_map, Option, Some, None, zero, suc, inl, inr, refl, sym, ap, subst, ◌∙◌, arith, eq-eqb}
use Rattle.std.proofs.lemmas.Bool.{ne_eqb, cases_eq}
use Rattle.std.proofs.lemmas.List.Sums.{sum_by-cons}
use Rattle.std.specs.List.{range_with_len, list_any, cons_option, count_by}
use Rattle.std.specs.Set.{distinct_count, unique_keys}
use Rattle.std.specs.Option.{option_and_then}
use Rattle.std.specs.FinMap as finite
use Rattle.number_tables.specs.Table.{put}
use Rattle.number_tables.proofs.PutLemmas.{get-put_same, get-put_other}
use Rattle.plant_config.specs.Plant.{PlantData, destinations_of}
use Rattle.crosspoint_state.specs.declared.spot.Spot.{Spot}
use Rattle.crosspoint_state.specs.Crosspoints.{Crosspoints}
use Rattle.crosspoint_state.specs.Ties.{Feed, feed_of, occupied}

-- what a destination holds of a pool
abbrev pub feed_at : PlantData → Crosspoints → ℕ → ℕ → Option Feed
feed_at plant points pool dest = option_and_then (feed_of plant pool) (finite.get points dest)

-- what the destinations below one hold of a pool, and those above it
abbrev pub before : PlantData → Crosspoints → ℕ → ℕ → List Feed
before plant points pool dest = filter_map (feed_at plant points pool) (range_with_len 0 dest)

abbrev pub behind : PlantData → Crosspoints → ℕ → ℕ → List Feed
behind plant points pool dest = filter_map (feed_at plant points pool) (range_with_len (dest + 1) (destinations_of plant - (dest + 1)))

-- a feed, or none, between others
abbrev pub with_feed : List Feed → Option Feed → List Feed → List Feed
with_feed front feed rest = front ++ cons_option feed rest

cons_append : {Y : Type 0} (first : Option Y) (front rest : List Y) → cons_option first (front ++ rest) ≡ cons_option first front ++ rest
cons_append None front rest = refl
cons_append (Some y) front rest = refl

-- what is found at the numbers of a range, by the one of them at this place
range_split : {Y : Type 0} (h : ℕ → Option Y) (a k n at left : ℕ) → at ≡ a + k → n ≡ k + 1 + left → filter_map h (range_with_len a n) ≡ filter_map h (range_with_len a k) ++ cons_option (h at) (filter_map h (range_with_len (at + 1) left))
range_split h a zero zero at left is all = absurd (omega (arith, all))
range_split h a zero (suc n) at left is all =
    let here : a ≡ at = omega (arith, is) in
    let many : n ≡ left = omega (arith, all) in
    ap (λ (at : ℕ). cons_option (h at) (filter_map h (range_with_len (at + 1) n))) here
    ∙ ap (λ n. cons_option (h at) (filter_map h (range_with_len (at + 1) n))) many
range_split h a (suc k) zero at left is all = absurd (omega (arith, all))
range_split h a (suc k) (suc n) at left is all =
    ap (cons_option (h a)) (range_split h (a + 1) k n at left (omega (arith, is)) (omega (arith, all)))
    ∙ cons_append (h a) (filter_map h (range_with_len (a + 1) k)) (cons_option (h at) (filter_map h (range_with_len (at + 1) left)))

-- what agrees at each number of a range finds the same there
pub range_same : {Y : Type 0} (f h : ℕ → Option Y) (a n : ℕ) → ((k : ℕ) → a ≤ k → k < a + n → f k ≡ h k) → filter_map f (range_with_len a n) ≡ filter_map h (range_with_len a n)
range_same f h a zero agree = refl
range_same f h a (suc n) agree =
    ap (λ first. cons_option first (filter_map f (range_with_len (a + 1) n))) (agree a (omega arith) (omega arith))
    ∙ ap (cons_option (h a)) (range_same f h (a + 1) n (λ k from to. agree k (omega (arith, from)) (omega (arith, to))))

-- the feeds of a pool by the one of a destination
pub occupied_at : (plant : PlantData) (points : Crosspoints) (pool dest : ℕ) → dest < destinations_of plant → occupied plant points pool ≡ with_feed (before plant points pool dest) (feed_at plant points pool dest) (behind plant points pool dest)
unfolding occupied
occupied_at plant points pool dest inside =
    range_split (feed_at plant points pool) 0 dest (destinations_of plant) dest (destinations_of plant - (dest + 1)) (omega arith) (omega (arith, inside))

put_other : (plant : PlantData) (points : Crosspoints) (pool dest : ℕ) (value : Option Spot) (other : ℕ) → other ≢ dest → feed_at plant (put points dest value) pool other ≡ feed_at plant points pool other
put_other plant points pool dest value other apart =
    ap (option_and_then (feed_of plant pool)) (get-put_other points dest value other apart)

-- the feeds of a pool after a destination is given something else
pub occupied_put : (plant : PlantData) (points : Crosspoints) (pool dest : ℕ) (value : Option Spot) → dest < destinations_of plant → occupied plant (put points dest value) pool ≡ with_feed (before plant points pool dest) (option_and_then (feed_of plant pool) value) (behind plant points pool dest)
occupied_put plant points pool dest value inside =
    occupied_at plant (put points dest value) pool dest inside
    ∙ ap (λ front. with_feed front (feed_at plant (put points dest value) pool dest) (behind plant (put points dest value) pool dest)) same_before
    ∙ ap (λ feed. with_feed (before plant points pool dest) feed (behind plant (put points dest value) pool dest)) here
    ∙ ap (with_feed (before plant points pool dest) (option_and_then (feed_of plant pool) value)) same_behind
  where
    same_before : before plant (put points dest value) pool dest ≡ before plant points pool dest
    same_before = range_same (feed_at plant (put points dest value) pool) (feed_at plant points pool) 0 dest (λ k from to. put_other plant points pool dest value k (λ e. omega (arith, e, to)))

    here : feed_at plant (put points dest value) pool dest ≡ option_and_then (feed_of plant pool) value
    here = ap (option_and_then (feed_of plant pool)) (get-put_same points dest value)

    same_behind : behind plant (put points dest value) pool dest ≡ behind plant points pool dest
    same_behind = range_same (feed_at plant (put points dest value) pool) (feed_at plant points pool) (dest + 1) (destinations_of plant - (dest + 1)) (λ k from to. put_other plant points pool dest value k (λ e. omega (arith, e, from)))

pub count_inserted : {X : Type 0} (p : X → Bool) (front rest : List X) (x : X) → count_by p (front ++ x ∷ rest) ≡ count_by p (front ++ rest) + cond (p x) 1 0
count_inserted p [] rest x =
    let first = sum_by-cons (λ x. cond (p x) 1 0) x rest in
    omega (arith, first)
count_inserted p (y ∷ front) rest x =
    let longer = sum_by-cons (λ x. cond (p x) 1 0) y (front ++ x ∷ rest) in
    let shorter = sum_by-cons (λ x. cond (p x) 1 0) y (front ++ rest) in
    omega (arith, longer, shorter, count_inserted p front rest x)

or_swap : (a b c : Bool) → (a || (b || c)) ≡ (b || (a || c))
or_swap true true c = refl
or_swap true false c = refl
or_swap false b c = refl

pub any_inserted : {X : Type 0} (p : X → Bool) (front rest : List X) (x : X) → list_any p (front ++ x ∷ rest) ≡ (p x || list_any p (front ++ rest))
any_inserted p [] rest x = refl
any_inserted p (y ∷ front) rest x =
    ap (λ b. p y || b) (any_inserted p front rest x) ∙ or_swap (p y) (p x) (list_any p (front ++ rest))

-- what doesn't pass a search may be put in anywhere
pub find_inserted : {X : Type 0} (p : X → Bool) (front rest : List X) (x : X) → p x ≡ false → find p (front ++ x ∷ rest) ≡ find p (front ++ rest)
find_inserted p [] rest x fails = ap (λ b. cond b (Some x) (find p rest)) fails
find_inserted p (y ∷ front) rest x fails = ap (λ found. cond (p y) (Some y) found) (find_inserted p front rest x fails)

-- 1 for a number that a list doesn't have
abbrev new_in : List ℕ → ℕ → ℕ
new_in ys x = cond (list_any (nat_eq x) ys) 0 1

length_kept : (b : Bool) (y : ℕ) (ys : List ℕ) → length (cond b ys (y ∷ ys)) ≡ length ys + cond b 0 1
length_kept true y ys = omega arith
length_kept false y ys = omega arith

distinct_cons : (y : ℕ) (ys : List ℕ) → distinct_count nat_eq (y ∷ ys) ≡ distinct_count nat_eq ys + new_in ys y
distinct_cons y ys = length_kept (list_any (nat_eq y) ys) y (unique_keys nat_eq ys)

-- of two numbers, each is counted once whichever stands first
new_swap : (x y : ℕ) (ys : List ℕ) → new_in ys x + cond (nat_eq y x || list_any (nat_eq y) ys) 0 1 ≡ new_in ys y + cond (nat_eq x y || list_any (nat_eq x) ys) 0 1
new_swap x y ys = by (cases_eq x y)
  where
    by : (x ≡ y) ⊎ (x ≢ y) → new_in ys x + cond (nat_eq y x || list_any (nat_eq y) ys) 0 1 ≡ new_in ys y + cond (nat_eq x y || list_any (nat_eq x) ys) 0 1
    by (inl same) =
        subst (λ y. new_in ys x + cond (nat_eq y x || list_any (nat_eq y) ys) 0 1 ≡ new_in ys y + cond (nat_eq x y || list_any (nat_eq x) ys) 0 1) same refl
    by (inr apart) =
        let one = ap (λ b. new_in ys x + cond (b || list_any (nat_eq y) ys) 0 1) (ne_eqb y x (λ e. apart (sym e))) in
        let other = ap (λ b. new_in ys y + cond (b || list_any (nat_eq x) ys) 0 1) (ne_eqb x y apart) in
        omega (arith, one, other)

distinct_more : (front rest : List ℕ) (x : ℕ) → distinct_count nat_eq (front ++ x ∷ rest) ≡ distinct_count nat_eq (front ++ rest) + new_in (front ++ rest) x
distinct_more [] rest x = distinct_cons x rest
distinct_more (y ∷ front) rest x =
    let longer = distinct_cons y (front ++ x ∷ rest) ∙ ap (λ b. distinct_count nat_eq (front ++ x ∷ rest) + cond b 0 1) (any_inserted (nat_eq y) front rest x) in
    let shorter = distinct_cons y (front ++ rest) in
    omega (arith, longer, shorter, distinct_more front rest x, new_swap x y (front ++ rest))

-- a number is new where the list has it no times
new_counted : (x : ℕ) (ys : List ℕ) → new_in ys x ≡ cond (nat_eq (count_by (λ y. y == x) ys) 0) 1 0
new_counted x [] = refl
new_counted x (y ∷ ys) =
    by (cases_eq x y) (sum_by-cons (λ y. cond (y == x) 1 0) y ys) (new_counted x ys)
  where
    by : (x ≡ y) ⊎ (x ≢ y) → count_by (λ y. y == x) (y ∷ ys) ≡ cond (y == x) 1 0 + count_by (λ y. y == x) ys → new_in ys x ≡ cond (nat_eq (count_by (λ y. y == x) ys) 0) 1 0 → new_in (y ∷ ys) x ≡ cond (nat_eq (count_by (λ y. y == x) (y ∷ ys)) 0) 1 0
    by (inl same) first rest =
        let here = ap (λ b. cond b 1 0 + count_by (λ y. y == x) ys) (eq-eqb y x (sym same)) in
        let some = ne_eqb (count_by (λ y. y == x) (y ∷ ys)) 0 (λ e. omega (arith, e, first, here)) in
        ap (λ b. cond (b || list_any (nat_eq x) ys) 0 1) (eq-eqb x y same) ∙ sym (ap (λ b. cond b 1 0) some)
    by (inr apart) first rest =
        let there = ap (λ b. cond b 1 0 + count_by (λ y. y == x) ys) (ne_eqb y x (λ e. apart (sym e))) in
        let same : count_by (λ y. y == x) ys ≡ count_by (λ y. y == x) (y ∷ ys) = omega (arith, first, there) in
        ap (λ b. cond (b || list_any (nat_eq x) ys) 0 1) (ne_eqb x y apart)
        ∙ rest
        ∙ ap (λ n. cond (nat_eq n 0) 1 0) same

-- one more number is one more different one where the list didn't have it
pub distinct_inserted : (front rest : List ℕ) (x : ℕ) → distinct_count nat_eq (front ++ x ∷ rest) ≡ distinct_count nat_eq (front ++ rest) + cond (nat_eq (count_by (λ y. y == x) (front ++ rest)) 0) 1 0
distinct_inserted front rest x =
    distinct_more front rest x
    ∙ ap (λ n. distinct_count nat_eq (front ++ rest) + n) (new_counted x (front ++ rest))
