-- Whether some element of a list passes a test, and which.
use Rattle.std.proofs.Common.{◌≡◌, ℕ, Bool, true, false, cond, ◌||◌, zero, suc, List, [], ◌∷◌, find, slice_get, Some, refl, sym, subst}
use Rattle.std.proofs.lemmas.Bool.{false≢true}
use Rattle.std.proofs.lemmas.Option.{none-some, same_Some, slice_get_within, get_or_from_slice_get}
use Rattle.std.proofs.lemmas.List.Folds.{list_any_at}
use Rattle.std.specs.List.{list_any}

-- an element at its place
abbrev pub Stands : {X : Type 0} → (X → Bool) → List X → X → Type 0
Stands test xs x = (place : ℕ) × (slice_get xs place ≡ Some x) × (test x ≡ true)

-- some element passes where one that stands does
pub any_stands : {X : Type 0} (test : X → Bool) (xs : List X) (place : ℕ) (x : X) → slice_get xs place ≡ Some x → test x ≡ true → list_any test xs ≡ true
any_stands test xs place x stands passes =
    list_any_at test xs place x (slice_get_within xs place x stands)
    (subst (λ x. test x ≡ true) (sym (get_or_from_slice_get xs place x x stands)) passes)

-- what a search finds passes
pub found_stands : {X : Type 0} (test : X → Bool) (xs : List X) (x : X) → find test xs ≡ Some x → Stands test xs x
found_stands test [] x found = absurd (none-some x found)
found_stands {X} test (y ∷ ys) x found = by (found_stands test ys x) (test y) refl found
  where
    by : (find test ys ≡ Some x → Stands test ys x) → (b : Bool) → test y ≡ b → cond b (Some y) (find test ys) ≡ Some x → Stands test (y ∷ ys) x
    by rest true passes is = (zero, is, subst (λ x. test x ≡ true) (same_Some y x is) passes)
    by rest false fails is = let found = rest is in (suc found.0, found.1, found.2)

-- something is found where something passes
pub any_found : {X : Type 0} (test : X → Bool) (xs : List X) → list_any test xs ≡ true → (x : X) × (find test xs ≡ Some x)
any_found test [] some = absurd (false≢true some)
any_found {X} test (x ∷ xs) some = by (any_found test xs) (test x) some
  where
    by : (list_any test xs ≡ true → (y : X) × (find test xs ≡ Some y)) → (b : Bool) → (b || list_any test xs) ≡ true → (y : X) × (cond b (Some x) (find test xs) ≡ Some y)
    by rest true some = (x, refl)
    by rest false some = rest some
