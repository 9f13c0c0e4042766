-- What a put leaves at each number.
use Rattle.std.proofs.Common.{◌≡◌, ◌≢◌, ℕ, ◌==◌, Bool, true, false, cond, Option, Some, None, refl, sym, ap, ◌∙◌, eq-eqb, eqb-true}
use Rattle.std.proofs.lemmas.Bool.{ne_eqb}
use Rattle.std.specs.Cmp.{nat_cmp_total, unsigned_tied}
use Rattle.std.specs.FinMap as finite
use Rattle.number_tables.specs.Table.{Entries, put}

-- two maps in which each number has the same are one
pub same_entries : {V : Type 0} (x y : Entries V) → ((n : ℕ) → finite.get x n ≡ finite.get y n) → x ≡ y
same_entries x y same = finite.same_map nat_cmp_total finite.nat_cmp-IsAntisymmetric x y same

pub get-put : {V : Type 0} (entries : Entries V) (number : ℕ) (value : Option V) (n : ℕ) → finite.get (put entries number value) n ≡ cond (n == number) value (finite.get entries n)
get-put entries number None n =
    finite.get-remove nat_cmp_total entries number n ∙ ap (λ b. cond b None (finite.get entries n)) (unsigned_tied n number)
get-put entries number (Some value) n =
    finite.get-insert nat_cmp_total entries number value n ∙ ap (λ b. cond b (Some value) (finite.get entries n)) (unsigned_tied n number)

pub get-put_same : {V : Type 0} (entries : Entries V) (number : ℕ) (value : Option V) → finite.get (put entries number value) number ≡ value
get-put_same entries number value =
    get-put entries number value number ∙ ap (λ b. cond b value (finite.get entries number)) (eq-eqb number number refl)

pub get-put_other : {V : Type 0} (entries : Entries V) (number : ℕ) (value : Option V) (n : ℕ) → n ≢ number → finite.get (put entries number value) n ≡ finite.get entries n
get-put_other entries number value n other =
    get-put entries number value n ∙ ap (λ b. cond b value (finite.get entries n)) (ne_eqb n number other)

-- what a number has is put as it stands
pub put-get : {V : Type 0} (entries : Entries V) (number : ℕ) → put entries number (finite.get entries number) ≡ entries
put-get entries number = same_entries _ _ (λ n. get-put entries number (finite.get entries number) n ∙ stands n (n == number) refl)
  where
    stands : (n : ℕ) (b : Bool) → (n == number) ≡ b → cond b (finite.get entries number) (finite.get entries n) ≡ finite.get entries n
    stands n true here = ap (finite.get entries) (sym (eqb-true n number here))
    stands n false here = refl
