-- The earlier of two places, where a rule has two parts.
use Rattle.std.proofs.Common.{◌≡◌, ℕ, ◌<◌, ◌≤◌, nat_le, true, false, List, [], ◌∷◌, ◌++◌, length, Option, Some, None, option_map, IfSome, refl, arith}
use Rattle.std.specs.List.{slice_get}
use Rattle.std.specs.Option.{option_or}
use Rattle.std.proofs.lemmas.Grind.{common_steps}
use Rattle.std.proofs.lemmas.Bool.Decides.{nat_tests}
use Rattle.plant_file.specs.declared.fault.Section.{Section}
use Rattle.plant_file.specs.declared.fault.Field.{Field}
use Rattle.plant_file.specs.declared.fault.Place.{Place}
use Rattle.plant_file.specs.KeyFaults.{place}
use Rattle.plant_rules.specs.RulesInside.{first_place_from, first_place, earlier}

-- a place, if there is one, is of no entry in front of this one
abbrev IsFromEntry : ℕ → Option Place → Type 0
IsFromEntry number found = IfSome found (λ at. number ≤ at.entry)

from-step : (section : Section) (number next : ℕ) (here : Option Field) (there : Option Place) → number ≤ next → IsFromEntry next there → IsFromEntry number (option_or (option_map (place section number) here) there)
from-step section number next (Some field) there before is = omega arith
from-step section number next None None before is = tt
from-step section number next None (Some at) before is = omega arith

first_place-from : {X : Type 0} (section : Section) (rule : List X → X → List Field) (before entries : List X) → IsFromEntry (length before) (first_place_from section rule before entries)
first_place-from section rule before [] = tt
first_place-from section rule before (entry ∷ more) =
    from-step section (length before) (length (before ++ entry ∷ [])) (slice_get (rule before entry) 0) _ (grind (arith, common_steps)) (first_place-from section rule (before ++ entry ∷ []) more)

-- one entry of a rule in two parts, and those behind it
both-step : (section : Section) (number next : ℕ) (some others : List Field) (first second : Option Place) → number < next → IsFromEntry next first → IsFromEntry next second → option_or (option_map (place section number) (slice_get (some ++ others) 0)) (earlier first second) ≡ earlier (option_or (option_map (place section number) (slice_get some 0)) first) (option_or (option_map (place section number) (slice_get others 0)) second)
both-step section number next [] [] first second before one other = refl
both-step section number next [] (field ∷ more) None second before one other = refl
both-step section number next [] (field ∷ more) (Some at) second before one other =
    let later : nat_le at.entry number ≡ false = grind (arith, nat_tests) in
    rw later refl
both-step section number next (field ∷ more) [] first None before one other = refl
both-step section number next (field ∷ more) [] first (Some at) before one other =
    let later : nat_le number at.entry ≡ true = grind (arith, nat_tests) in
    rw later refl
both-step section number next (field ∷ more) (another ∷ others) first second before one other =
    let same : nat_le number number ≡ true = grind (arith, nat_tests) in
    rw same refl

-- the rules of two parts
abbrev pub both : {X : Type 0} → (List X → X → List Field) → (List X → X → List Field) → List X → X → List Field
both first second before entry = first before entry ++ second before entry

first_place_from-both : {X : Type 0} (section : Section) (first second : List X → X → List Field) (before entries : List X) → first_place_from section (both first second) before entries ≡ earlier (first_place_from section first before entries) (first_place_from section second before entries)
first_place_from-both section first second before [] = refl
first_place_from-both section first second before (entry ∷ more) =
    let behind = before ++ entry ∷ [] in
    rw (first_place_from-both section first second (before ++ entry ∷ []) more)
    (both-step section (length before) (length (before ++ entry ∷ [])) (first before entry) (second before entry) _ _ (grind (arith, common_steps))
    (first_place-from section first (before ++ entry ∷ []) more) (first_place-from section second (before ++ entry ∷ []) more))

pub first_place-both : {X : Type 0} (section : Section) (first second : List X → X → List Field) (entries : List X) → first_place section (both first second) entries ≡ earlier (first_place section first entries) (first_place section second entries)
first_place-both section first second entries = first_place_from-both section first second [] entries
