-- Lists of names: their index, and where a name is among them.
use Rattle.std.proofs.Common.{◌≡◌, ◌≢◌, ℕ, ◌+◌, ◌<◌, Bool, true, false, cond, bytes_eq, List, [], ◌∷◌, ◌++◌, take, length, All, get_or, slice_get, None, Some, ap, sym, ◌∙◌, arith}
use Rattle.std.specs.List.{IsDistinct, list_any, position_or_len}
use Rattle.std.proofs.lemmas.Bool.Decides.{same_from_decides}
use Rattle.std.proofs.lemmas.Grind.{common_steps}
use Rattle.std.proofs.lemmas.List.{get_or-take, take_more}
use Rattle.std.proofs.lemmas.List.Folds.{list_any_none}
use Rattle.std.proofs.lemmas.List.Sums.{position_or_len_is}
use Rattle.std.proofs.lemmas.Map.Made.{AllPairs-from_IsDistinct}
use Rattle.std.proofs.lemmas.Option.{slice_get-get_or, slice_get_within, get_or_from_slice_get}
use Rattle.std.proofs.lemmas.Slice.Eq.{bytes_eq-Decides}
use Rattle.indexmap.specs.IndexSet.{insert_key}
use Rattle.plant_file.specs.Ranges.{IsName}
use Rattle.plant_names.specs.Lookup.{place_among}

bytes_eq-differ : (name other : List ℕ) → name ≢ other → bytes_eq name other ≡ false
bytes_eq-differ name other differ = same_from_decides (bytes_eq name other) false (bytes_eq-Decides name other) ((λ (e : false ≡ true). absurd (differ (cc))), (λ e. absurd (differ e)))

-- names that differ are added to their index one by one
pub insert_key-take : (names : List (List ℕ)) (i : ℕ) (name : List ℕ) → IsDistinct bytes_eq names → i < length names → name ≡ get_or names i name → insert_key bytes_eq (take i names) name ≡ take (i + 1) names
insert_key-take names i name differ within same =
    let apart = AllPairs-from_IsDistinct bytes_eq-Decides names differ in
    let new : list_any (bytes_eq name) (take i names) ≡ false = list_any_none (bytes_eq name) (take i names) (λ k d below.
    let before : k < i = grind (arith, common_steps) in
    let at_i = slice_get-get_or names i d within in
    let named = slice_get-get_or names i name within in
    let is : get_or names i d ≡ name = cc in
    rw (get_or-take i names k d before) (bytes_eq-differ name (get_or names k d) (λ e. apart k i d before within (sym e ∙ sym is)))) in
    let more = take_more names i name within in
    ap (λ (b : Bool). cond b (take i names) (take i names ++ name ∷ [])) new ∙ cc

-- a name that is longer than any is not among them
pub place_of-long : (name : List ℕ) (names : List (List ℕ)) → All IsName names → 12 < length name → None ≡ place_among name names
place_of-long name names are long =
    let at : position_or_len (bytes_eq name) names ≡ length names = position_or_len_is (bytes_eq name) names (length names) [] (omega arith)
    (λ k below. let short = (are k [] below).0.1 in bytes_eq-differ name (get_or names k []) (λ e. omega (arith, ap length e)))
    (λ below. absurd (omega arith)) in
    grind (arith, common_steps)

-- of names that differ each is at its number alone
pub place_of-at : (names : List (List ℕ)) (number : ℕ) (name : List ℕ) → IsDistinct bytes_eq names → slice_get names number ≡ Some name → place_among name names ≡ Some number
place_of-at names number name differ found =
    let apart = AllPairs-from_IsDistinct bytes_eq-Decides names differ in
    let within = slice_get_within names number name found in
    let here = get_or_from_slice_get names number name [] found in
    let at : position_or_len (bytes_eq name) names ≡ number = position_or_len_is (bytes_eq name) names number [] (omega arith)
    (λ k below. bytes_eq-differ name (get_or names k []) (λ e. apart k number [] below within (sym e ∙ sym here)))
    (λ below. (bytes_eq-Decides name (get_or names number [])).1 (sym here)) in
    grind (arith, common_steps)
