-- The first entry whose key stood in front of it, by keys that the program compares.
use Rattle.std.proofs.Common.{◌≡◌, ℕ, ◌+◌, Bool, true, false, ◌||◌, if◌then◌else◌, List, [], ◌∷◌, ◌++◌, length, take, map, Option, Some, is_some, option_map, refl, sym, ap, ◌∙◌, arith, append_assoc}
use Rattle.std.proofs.lemmas.List.{map-append, map-id, length-map}
use Rattle.std.specs.List.{enumerate_from, list_any, slice_get}
use Rattle.std.specs.Option.{option_or}
use Rattle.std.proofs.lemmas.Grind.{common_steps}
use Rattle.std.proofs.Math.Seq.{take-append_seam}
use Rattle.plant_file.specs.declared.fault.Section.{Section}
use Rattle.plant_file.specs.declared.fault.Field.{Field}
use Rattle.plant_file.specs.declared.fault.Place.{Place}
use Rattle.plant_file.specs.KeyFaults.{place}
use Rattle.plant_rules.specs.Rules.{key_if, is_among, has_twice, twice_at}
use Rattle.plant_rules.specs.RulesInside.{first_place_from, first_place, first_twice_from, first_twice}

-- one entry, and those behind it
key-step : (at : Bool) (section : Section) (field : Field) (n : ℕ) (here : Option Place) (there : Option ℕ) → here ≡ option_map (λ m. place section m field) there → option_or (option_map (place section n) (slice_get (key_if at field) 0)) here ≡ option_map (λ m. place section m field) (if at then Some n else there)
key-step true section field n here there is = refl
key-step false section field n here there is = is

first_place-keys : {X : Type 0} (same : X → List ℕ) (section : Section) (field : Field) (before entries : List X) → first_place_from section (twice_at field same) before entries ≡ option_map (λ n. place section n field) (first_twice_from (map same before) (map same entries))
first_place-keys same section field before [] = refl
first_place-keys same section field before (entry ∷ more) =
    let rest : first_place_from section (twice_at field same) (before ++ entry ∷ []) more ≡ option_map (λ n. place section n field) (first_twice_from (map same before ++ same entry ∷ []) (map same more)) =
    first_place-keys same section field (before ++ entry ∷ []) more ∙ ap (λ keys. option_map (λ n. place section n field) (first_twice_from keys (map same more))) (map-append same before (entry ∷ [])) in
    rw length-map (key-step (is_among (map same before) (same entry)) section field (length before) _ _ rest)

pub first_place-twice_at : {X : Type 0} (same : X → List ℕ) (section : Section) (field : Field) (entries : List X) → first_place section (twice_at field same) entries ≡ option_map (λ n. place section n field) (first_twice (map same entries))
first_place-twice_at same section field entries = first_place-keys same section field [] entries

-- some text is twice where there is a first one
twice-step : (at : Bool) (n : ℕ) (any : Bool) (there : Option ℕ) → any ≡ is_some there → (at || any) ≡ is_some (if at then Some n else there)
twice-step true n any there is = refl
twice-step false n any there is = is

has_twice-from : (all before names : List (List ℕ)) (n : ℕ) → all ≡ before ++ names → n ≡ length before → list_any (λ (numbered : ℕ × List ℕ). is_among (take numbered.0 all) numbered.1) (enumerate_from n names) ≡ is_some (first_twice_from before names)
has_twice-from all before [] n all_is n_is = refl
has_twice-from all before (name ∷ more) n all_is n_is =
    let front : take n all ≡ before = ap (λ m. take m all) n_is ∙ ap (take (length before)) all_is ∙ take-append_seam before (name ∷ more) in
    let rest : list_any (λ (numbered : ℕ × List ℕ). is_among (take numbered.0 all) numbered.1) (enumerate_from (n + 1) more) ≡ is_some (first_twice_from (before ++ name ∷ []) more) = has_twice-from all (before ++ name ∷ []) more (n + 1) (all_is ∙ sym (append_assoc before (name ∷ []) more)) (grind (arith, common_steps)) in
    rw front (twice-step (is_among before name) (length before) _ _ rest)

pub has_twice-first : (names : List (List ℕ)) → has_twice names ≡ is_some (first_twice (map (λ name. name) names))
has_twice-first names = rw map-id (has_twice-from names [] names 0 refl refl)
