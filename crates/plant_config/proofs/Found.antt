-- What is known of the element that a search finds.
use Rattle.std.proofs.Common.{◌≡◌, Bool, true, false, cond, List, [], ◌∷◌, All, find, Some, suc, refl, subst, arith}

-- what holds of each holds of the one that is found
pub All-find : {X : Type 0} (P : X → Type 0) (test : X → Bool) (xs : List X) (x : X) → All P xs → find test xs ≡ Some x → P x
All-find P test [] x all found = cc
All-find P test (y ∷ xs) x all found =
    elim (test y) as (λ b. cond b (Some y) (find test xs) ≡ Some x → P x) [
      | true ↦ λ h. let same : y ≡ x = cc in subst P same (all 0 y (omega arith))
      | false ↦ λ h. All-find P test xs x (λ k d below. all (suc k) d (omega arith)) h
    ] found

-- the one that is found passes the test
pub find-passes : {X : Type 0} (test : X → Bool) (xs : List X) (x : X) → find test xs ≡ Some x → test x ≡ true
find-passes test [] x found = cc
find-passes test (y ∷ xs) x found =
    elim (test y) as (λ b. test y ≡ b → cond b (Some y) (find test xs) ≡ Some x → test x ≡ true) [
      | true ↦ λ passes h. let same : y ≡ x = cc in subst (λ z. test z ≡ true) same passes
      | false ↦ λ passes h. find-passes test xs x h
    ] refl found
