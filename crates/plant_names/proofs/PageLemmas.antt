-- Names are written byte by byte, and pages name by name.
use Rattle.std.proofs.Common.{◌≡◌, ℕ, ◌+◌, ◌-◌, ◌*◌, ◌≤◌, nat_eq, Bool, true, false, cond, Option, Some, None, List, [], ◌∷◌, ◌++◌, length, take, drop, ap, get_or, inl, inr, zero, suc, refl, sym, ◌∙◌, arith}
use Rattle.std.proofs.lemmas.Bool.{cases_lt}
use Rattle.std.proofs.lemmas.Grind.{common_steps}
use Rattle.std.specs.List.{flat_map, range_with_len}
use Rattle.std.specs.Option.{IfSome}
use Rattle.std.proofs.lemmas.List.{take_all, drop-drop, length-take}
use Rattle.std.proofs.Math.Nat.{min-le_left}
use Rattle.std.proofs.Math.Seq.{take-add}
use Rattle.plant_names.specs.Pages.{fitted, most_names, names_from, HasFew}
use Rattle.plant_names.specs.Laws.{PagesHaveAll}

pub fitted-more : (count : ℕ) (name : List ℕ) → fitted count name ++ get_or name count 32 ∷ [] ≡ fitted (count + 1) name
fitted-more count name = elim (cases_lt count (length name)) [
  | inl less ↦ grind (arith, common_steps)
  | inr past ↦
      let rest : count + 1 - length name ≡ count - length name + 1 = omega arith in
      let byte : get_or name count 32 ≡ 32 = grind (arith, common_steps) in
      rw (rest, byte) (grind (arith, common_steps))
]

-- so many pages from one on have the names behind the pages before it
pages_from : (size page pages : ℕ) (names : List (List ℕ)) → flat_map (λ page. names_from size (page * most_names size) names) (range_with_len page pages) ≡ take (pages * most_names size) (drop (page * most_names size) names)
pages_from size page zero names = let none : 0 * most_names size ≡ 0 = omega arith in rw none refl
pages_from size page (suc pages) names =
    let most = most_names size in
    let here = drop (page * most) names in
    let many : suc pages * most_names size ≡ most_names size + pages * most_names size = omega arith in
    let next : (page + 1) * most_names size ≡ page * most_names size + most_names size = omega arith in
    let behind : drop ((page + 1) * most) names ≡ drop most here = ap (λ first. drop first names) next ∙ sym (drop-drop most (page * most) names) in
    ap (λ more. take most here ++ more) (pages_from size (page + 1) pages names ∙ ap (take (pages * most)) behind)
    ∙ sym (take-add most (pages * most) here)
    ∙ ap (λ count. take count here) (sym many)

pub pages_have_all : (size : ℕ) → PagesHaveAll size
pages_have_all size pages names suffice =
    let none : 0 * most_names size ≡ 0 = omega arith in
    pages_from size 0 pages names ∙ ap (λ first. take (pages * most_names size) (drop first names)) none ∙ take_all (pages * most_names size) names suffice

-- A page has few names, however many its level has.

most_names-within : (size : ℕ) → most_names size ≤ 32
most_names-within size = by (nat_eq size 0) (nat_eq size 1)
  where
    by : (none one : Bool) → cond none 32 (cond one 16 10) ≤ 32
    by true one = omega arith
    by false true = omega arith
    by false false = omega arith

has_few : (one : Bool) (size first : ℕ) (names : List (List ℕ)) → HasFew one size first names
has_few true size first names = omega (arith, length-take 1 (drop first names), min-le_left 1 (length (drop first names)))
has_few false size first names = omega (arith, length-take (most_names size) (drop first names), min-le_left (most_names size) (length (drop first names)), most_names-within size)

pub few_of : (one : Bool) (size first : ℕ) (names : Option (List (List ℕ))) → IfSome names (HasFew one size first)
few_of one size first None = tt
few_of one size first (Some names) = has_few one size first names
