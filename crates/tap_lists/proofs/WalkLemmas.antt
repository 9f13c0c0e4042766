-- A walk along links finds the lists whose links they are.
use Rattle.std.proofs.Common.{◌≡◌, ◌≢◌, ℕ, ◌<◌, ◌≤◌, ◌==◌, Bool, true, false, cond, List, [], ◌∷◌, map, length, Option, None, zero, suc, refl, sym, ap, subst, ◌∙◌, arith, eq-eqb}
use Rattle.std.proofs.lemmas.Bool.{or_right, both_ways, ne_eqb}
use Rattle.std.specs.List.{slice_get}
use Rattle.tap_lists.specs.ListsInside.{value_at, walk, walked, list_at, has, is_once, after, IsLinked, IsHeld}
use Rattle.tap_lists.proofs.ListLemmas.{true_or, rest_once, not_head}
use Rattle.tap_lists.proofs.NeighbourLemmas.{leads-some, few}
use Rattle.tap_lists.proofs.ColumnLemmas.{value_at-within}

-- each link leads to what stands behind in the list
abbrev Chain : List (Option ℕ) → List ℕ → Type 0
Chain afters [] = Unit {0}
Chain afters (x ∷ xs) = (value_at afters x ≡ slice_get xs 0) × Chain afters xs

walk_none : (afters : List (Option ℕ)) (n : ℕ) → walk afters n None ≡ []
walk_none afters zero = refl
walk_none afters (suc n) = refl

walk-chain : (afters : List (Option ℕ)) (n : ℕ) (xs : List ℕ) → Chain afters xs → length xs ≤ n → walk afters n (slice_get xs 0) ≡ xs
walk-chain afters n [] c l = walk_none afters n
walk-chain afters zero (x ∷ xs) c l = absurd (omega arith)
walk-chain afters (suc n) (x ∷ xs) c l = rw c.0 (ap (λ ys. x ∷ ys) (walk-chain afters n xs c.1 (omega arith)))

chain-after : (afters : List (Option ℕ)) (xs : List ℕ) → is_once xs ≡ true → ((x : ℕ) → has xs x ≡ true → value_at afters x ≡ after xs x) → Chain afters xs
chain-after afters [] o follows = tt
chain-after afters (x ∷ xs) o follows = (
  follows x (true_or x x (has xs x) refl) ∙ cond_here (x == x) (eq-eqb x x refl),
  chain-after afters xs (rest_once (has xs x) (is_once xs) o) (λ y h. follows y (or_right (x == y) (has xs y) h) ∙ later y h (ne_eqb x y (apart y h))),
)
  where
    cond_here : (b : Bool) → b ≡ true → cond b (slice_get xs 0) (after xs x) ≡ slice_get xs 0
    cond_here b e = rw e refl

    apart : (y : ℕ) → has xs y ≡ true → x ≢ y
    apart y h same = both_ways _ (not_head (has xs x) (is_once xs) o) (subst (λ k. has xs k ≡ true) (sym same) h)

    later : (y : ℕ) → has xs y ≡ true → (x == y) ≡ false → cond (x == y) (slice_get xs 0) (after xs y) ≡ after xs y
    later y h e = rw e refl

-- a map of values that gives each list
map_lists : (f : Option ℕ → List ℕ) (values : List (Option ℕ)) (lists : List (List ℕ)) → length values ≡ length lists → ((h : ℕ) → f (value_at values h) ≡ list_at lists h) → map f values ≡ lists
map_lists f [] [] same each = refl
map_lists f [] (l ∷ lists) same each = absurd (omega arith)
map_lists f (v ∷ values) [] same each = absurd (omega arith)
map_lists f (v ∷ values) (l ∷ lists) same each =
    let rest = map_lists f values lists (omega arith) (λ h. each (suc h)) in
    rw (each 0, rest) refl

-- a member that is in a list has an index
pub has-within : (firsts heads afters befores : List (Option ℕ)) (lists : List (List ℕ)) → IsLinked firsts heads afters befores lists → (head member : ℕ) → has (list_at lists head) member ≡ true → member < length heads
has-within firsts heads afters befores lists is head member h = value_at-within heads member head (leads-some _ _ (sym (is.owned head member) ∙ h))

pub length-list_at : (firsts heads afters befores : List (Option ℕ)) (lists : List (List ℕ)) → IsLinked firsts heads afters befores lists → (head : ℕ) → length (list_at lists head) ≤ length heads
length-list_at firsts heads afters befores lists is head = few (length heads) (list_at lists head) (is.once head) (λ member h. has-within firsts heads afters befores lists is head member h)

pub walked-linked : (firsts heads afters befores : List (Option ℕ)) (lists : List (List ℕ)) → IsLinked firsts heads afters befores lists → walked firsts afters ≡ lists
unfolding walked
walked-linked firsts heads afters befores lists is = map_lists (walk afters (length afters)) firsts lists is.firsts_count each
  where
    each : (h : ℕ) → walk afters (length afters) (value_at firsts h) ≡ list_at lists h
    each h = rw (is.first h) (walk-chain afters (length afters) (list_at lists h) (chain-after afters (list_at lists h) (is.once h) (λ x has. is.next h x has)) (omega (arith, is.afters_count, length-list_at firsts heads afters befores lists is h)))

pub held-linked : (firsts heads afters befores : List (Option ℕ)) (lists : List (List ℕ)) → IsLinked firsts heads afters befores lists → IsHeld firsts heads afters befores
held-linked firsts heads afters befores lists is = subst (IsLinked firsts heads afters befores) (sym (walked-linked firsts heads afters befores lists is)) is
