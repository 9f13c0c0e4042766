-- The table of a list has at each number what the list has there.
use Rattle.std.proofs.Common.{◌≡◌, ◌≢◌, ◌⊎◌, ℕ, ◌+◌, ◌<◌, List, [], ◌∷◌, length, set, replicate, Option, Some, None, zero, suc, inl, inr, refl, sym, ap, ◌∙◌, arith, length-set, get_or-set_same}
use Rattle.std.proofs.lemmas.Bool.{cases_eq}
use Rattle.std.proofs.lemmas.Option.{slice_get-get_or}
use Rattle.std.specs.Ordering.{nat_cmp}
use Rattle.std.specs.List.{slice_get}
use Rattle.std.specs.Option.{option_flatten}
use Rattle.std.specs.FinMap as finite
use Rattle.number_tables.specs.Table.{put}
use Rattle.number_tables.specs.TableInside.{entries_from}
use Rattle.number_tables.proofs.PutLemmas.{same_entries, get-put_same, get-put_other}

get-entries_from : {V : Type 0} (first : ℕ) (values : List (Option V)) (k : ℕ) → finite.get (entries_from first values) (first + k) ≡ option_flatten (slice_get values k)
get-entries_from first [] k = finite.get-empty nat_cmp (first + k)
get-entries_from first (value ∷ values) zero =
    let here : first + 0 ≡ first = omega arith in
    ap (finite.get (put (entries_from (first + 1) values) first value)) here ∙ get-put_same (entries_from (first + 1) values) first value
get-entries_from first (value ∷ values) (suc k) =
    let next : first + suc k ≡ first + 1 + k = omega arith in
    let other : first + suc k ≢ first = λ e. omega (arith, e) in
    get-put_other (entries_from (first + 1) values) first value (first + suc k) other
    ∙ ap (finite.get (entries_from (first + 1) values)) next
    ∙ get-entries_from (first + 1) values k

-- what a number has
pub get-entries : {V : Type 0} (values : List (Option V)) (n : ℕ) → finite.get (entries_from 0 values) n ≡ option_flatten (slice_get values n)
get-entries values n =
    let same : n ≡ 0 + n = omega arith in
    ap (finite.get (entries_from 0 values)) same ∙ get-entries_from 0 values n

slice_get-set_other : {A : Type 0} (xs : List A) (i n : ℕ) (x : A) → n ≢ i → slice_get (set xs i x) n ≡ slice_get xs n
slice_get-set_other [] i n x other = refl
slice_get-set_other (y ∷ ys) zero zero x other = absurd (other refl)
slice_get-set_other (y ∷ ys) zero (suc n) x other = refl
slice_get-set_other (y ∷ ys) (suc i) zero x other = refl
slice_get-set_other (y ∷ ys) (suc i) (suc n) x other = slice_get-set_other ys i n x (λ e. other (ap suc e))

slice_get-set_same : {A : Type 0} (xs : List A) (i : ℕ) (x : A) → i < length xs → slice_get (set xs i x) i ≡ Some x
slice_get-set_same xs i x within =
    slice_get-get_or (set xs i x) i x (omega (arith, length-set xs i x)) ∙ ap Some (get_or-set_same xs i x x within)

-- a write into the list is a put into its table
pub entries-set : {V : Type 0} (values : List (Option V)) (number : ℕ) (value : Option V) → number < length values → entries_from 0 (set values number value) ≡ put (entries_from 0 values) number value
entries-set {V} values number value within = same_entries _ _ (λ n.
    get-entries (set values number value) n ∙ at n (cases_eq n number))
  where
    at : (n : ℕ) → (n ≡ number) ⊎ (n ≢ number) → option_flatten (slice_get (set values number value) n) ≡ finite.get (put (entries_from 0 values) number value) n
    at n (inl here) =
        ap (λ n. option_flatten (slice_get (set values number value) n)) here
        ∙ ap option_flatten (slice_get-set_same values number value within)
        ∙ sym (get-put_same (entries_from 0 values) number value)
        ∙ ap (finite.get (put (entries_from 0 values) number value)) (sym here)
    at n (inr there) =
        ap option_flatten (slice_get-set_other values number n value there)
        ∙ sym (get-entries values n)
        ∙ sym (get-put_other (entries_from 0 values) number value n there)

nothing_at : {V : Type 0} (count n : ℕ) → option_flatten (slice_get (replicate {A = Option V} count None) n) ≡ None
nothing_at zero n = refl
nothing_at (suc count) zero = refl
nothing_at (suc count) (suc n) = nothing_at count n

-- a list without values is a table without entries
pub entries-replicate : {V : Type 0} (count : ℕ) → entries_from 0 (replicate {A = Option V} count None) ≡ finite.empty
entries-replicate {V} count = same_entries _ _ (λ n.
    get-entries (replicate count None) n ∙ nothing_at count n ∙ sym (finite.get-empty nat_cmp n))
