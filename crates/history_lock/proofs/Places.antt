-- Lists read by place, of which one place is set.
use Rattle.std.proofs.Common.{◌≡◌, ◌≢◌, ℕ, zero, suc, ◌<◌, List, [], ◌∷◌, ◌++◌, length, set, All, Bool, false, MatchBool, refl, ap, sym, ◌∙◌, subst, ⊎_elim, inl, inr, ◌⊎◌, arith}
use mathlib.Core.Logic.{dite}
use mathlib.Core.Option.{some, some-injective, some-ne-none}
use native.Mathlib.Decide.{ℕ_discrete}
use lib.ListN.{get_elem?}
use Rattle.atomic_table.proofs.Lists.{at_set, set_here, set_else}

module _ {A : Type 0} where
  pub inside : (l : List A) (i : ℕ) (a : A) → get_elem? l i ≡ some a → i < length l
  inside [] i a e = absurd (some-ne-none a (sym e))
  inside (x ∷ xs) zero a e = omega arith
  inside (x ∷ xs) (suc i) a e = let h = inside xs i a e in omega arith

  pub same_value : (l : List A) (i j : ℕ) (a b : A) → get_elem? l i ≡ some a → get_elem? l j ≡ some b → j ≡ i → a ≡ b
  same_value l i j a b at at' e = some-injective a b (sym at ∙ (ap (get_elem? l) (sym e) ∙ at'))

  -- what holds of a place holds once another was set, or that one to what it holds of too
  pub still : (P : A → Type 0) (l : List A) (id j : ℕ) (v w u : A) → get_elem? l id ≡ some v → get_elem? l j ≡ some u → P u → (P v → P w)
      → (x : A) × (get_elem? (set l id w) j ≡ some x) × P x
  still P l id j v w u at at' known keep = dite (ℕ_discrete j id)
      (λ e. (w, ap (get_elem? (set l id w)) e ∙ set_here l id w (inside l id v at), keep (subst P (sym (same_value l id j v u at at' e)) known)))
      (λ other. (u, set_else l id j w other ∙ at', known))

  pub each_set : (K : ℕ → A → Type 0) (l : List A) (id : ℕ) (w : A) → K id w → ((j : ℕ) (u : A) → j ≢ id → get_elem? l j ≡ some u → K j u)
      → (j : ℕ) (u : A) → get_elem? (set l id w) j ≡ some u → K j u
  each_set K l id w mine others j u e = ⊎_elim (λ (t : (j ≡ id) × (w ≡ u)). subst (λ (x : ℕ × A). K x.0 x.1) (λ i. (sym t.0 i, t.1 i)) mine)
      (λ (t : (j ≢ id) × (get_elem? l j ≡ some u)). others j u t.0 t.1) (at_set l id j w u e)

  pub All_one : (P : A → Type 0) (a : A) → P a → All P (a ∷ [])
  All_one P a h zero d l = h
  All_one P a h (suc k) d l = absurd (omega arith)

  -- what stands in a list with one more behind it
  pub at_end : (l : List A) (a b : A) (j : ℕ) → get_elem? (l ++ a ∷ []) j ≡ some b → (get_elem? l j ≡ some b) ⊎ ((j ≡ length l) × (a ≡ b))
  at_end [] a b zero e = inr (refl, some-injective a b e)
  at_end [] a b (suc j) e = absurd (some-ne-none b (sym e))
  at_end (x ∷ xs) a b zero e = inl e
  at_end (x ∷ xs) a b (suc j) e = ⊎_elim inl (λ (t : (j ≡ length xs) × (a ≡ b)). inr (ap suc t.0, t.1)) (at_end xs a b j e)

pub All-cons : {A : Type 0} (P : A → Type 0) (x : A) (xs : List A) → P x → All P xs → All P (x ∷ xs)
All-cons P x xs h hs zero d l = h
All-cons P x xs h hs (suc k) d l = hs k d (omega arith)

pub on_false : (b : Bool) (P Q : Type 0) → b ≡ false → MatchBool b P Q → Q
on_false b P Q is h = subst (λ (c : Bool). MatchBool c P Q) is h
