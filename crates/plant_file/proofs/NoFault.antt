-- Lists of faults that are empty: so is each of their parts.
use Rattle.std.proofs.Common.{◌≡◌, ℕ, ◌+◌, ◌<◌, List, [], ◌∷◌, ◌++◌, map, length, get_or, flat_map, zero, suc, refl, arith, zero-add}
use Rattle.std.specs.List.{AllByRecursion, enumerate_from}

-- two lists of which none has an element
pub append_none : {X : Type 0} (front behind : List X) → front ++ behind ≡ [] → (front ≡ []) × (behind ≡ [])
append_none [] behind none = (refl, none)
append_none (x ∷ more) behind none = cc

pub map_none : {X Y : Type 0} (f : X → Y) (xs : List X) → map f xs ≡ [] → xs ≡ []
map_none f [] none = refl
map_none f (x ∷ xs) none = cc

-- the list of what each element gives
pub flat_map_none : {X Y : Type 0} (f : X → List Y) (xs : List X) → flat_map f xs ≡ [] → AllByRecursion (λ x. f x ≡ []) xs
flat_map_none f [] none = tt
flat_map_none f (x ∷ xs) none =
    let parts = append_none (f x) (flat_map f xs) none in
    (parts.0, flat_map_none f xs parts.1)

-- what each element gives with its number
numbered_from_none : {X Y : Type 0} (f : ℕ × X → List Y) (first : ℕ) (xs : List X) → flat_map f (enumerate_from first xs) ≡ [] →
    (k : ℕ) (d : X) → k < length xs → f (first + k, get_or xs k d) ≡ []
numbered_from_none f first [] none k d within = absurd (omega arith)
numbered_from_none f first (x ∷ xs) none zero d within =
    let parts = append_none (f (first, x)) (flat_map f (enumerate_from (first + 1) xs)) none in
    let same : first + zero ≡ first = omega arith in
    rw same parts.0
numbered_from_none f first (x ∷ xs) none (suc k) d within =
    let parts = append_none (f (first, x)) (flat_map f (enumerate_from (first + 1) xs)) none in
    let same : first + suc k ≡ first + 1 + k = omega arith in
    rw same (numbered_from_none f (first + 1) xs parts.1 k d (omega arith))

pub numbered_none : {X Y : Type 0} (f : ℕ × X → List Y) (xs : List X) → flat_map f (enumerate_from 0 xs) ≡ [] → (k : ℕ) (d : X) → k < length xs → f (k, get_or xs k d) ≡ []
numbered_none f xs none k d within = rw zero-add at (numbered_from_none f 0 xs none k d within)
