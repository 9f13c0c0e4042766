-- Look-ups by name, said of sources and of destinations at once.
use Rattle.std.proofs.Common.{◌≡◌, ℕ, ◌+◌, ◌<◌, true, false, cond, bytes_eq, nat_lt, if◌then◌else◌, List, map, take, drop, length, get_or, slice_get, Option, None, Some, inl, inr, refl, ap, sym, ◌∙◌, arith}
use Rattle.std.specs.Option.{option_map, option_and_then}
use Rattle.std.specs.List.{IsDistinct}
use Rattle.std.proofs.lemmas.Bool.{ltb-true, lt-ltb}
use Rattle.std.proofs.lemmas.List.{get_or-take, get_or-drop, length-take, length-drop, take-map}
use Rattle.std.specs.List.{drop-map}
use Rattle.std.proofs.lemmas.List.Quantifiers.{position-Some}
use Rattle.std.proofs.lemmas.Option.{slice_get_read, slice_get_past, slice_get_cases, slice_get-get_or, slice_get-map}
use Rattle.std.proofs.lemmas.Slice.Eq.{bytes_eq-Decides}
use Rattle.plant_config.specs.declared.records.Level.{Level}
use Rattle.plant_config.specs.declared.records.Source.{Source}
use Rattle.plant_config.specs.Plant.{PlantData, Numbering, source_numbers, dest_numbers}
use Rattle.plant_config.specs.IsPlant.{IsPlant}
use Rattle.plant_config.specs.Sites.{level_at}
use Rattle.plant_config.specs.NamesOfLevel.{source_names}
use Rattle.plant_names.specs.Lookup.{place_among}
use Rattle.plant_names.specs.Laws.{SourcesAreNamed, DestsAreNamed}
use Rattle.plant_names.proofs.NameLists.{place_of-at}
use Rattle.plant_names.proofs.LevelLemmas.{told}

-- what stands at a place of a part of a list
slice_get-part : {X : Type 0} (first count place : ℕ) (xs : List X) → place < count → slice_get (take count (drop first xs)) place ≡ slice_get xs (first + place)
slice_get-part first count place xs below =
    elim (slice_get_cases xs (first + place)).1 [
      | inl here ↦
          let x = here.0 in
          let long : place < length (take count (drop first xs)) = omega (arith, here.1, length-take count (drop first xs), length-drop first xs) in
          let is : x ≡ get_or (take count (drop first xs)) place x = sym (get_or-take count (drop first xs) place x below ∙ get_or-drop first xs place x ∙ here.3) in
          slice_get_read (take count (drop first xs)) (length (take count (drop first xs))) place x refl long is ∙ sym here.2
      | inr past ↦ slice_get_past (take count (drop first xs)) place (omega (arith, past.0, length-take count (drop first xs), length-drop first xs)) ∙ sym past.1
    ]

module _ (numbers : Numbering) (plant : PlantData) (all : List (List ℕ)) where
  -- the names of a level
  abbrev part : Level → List (List ℕ)
  part at = take (numbers.count at) (drop (numbers.first at) all)

  -- what a name leads to
  abbrev found : Option Level → List ℕ → Option ℕ
  found level name = option_and_then (λ at. option_map (λ place. numbers.first at + place) (place_among name (part at))) level

  abbrev numbered : Option Level → ℕ → Option ℕ
  numbered level number = option_and_then (λ at. if nat_lt number (numbers.count at) then Some (numbers.first at + number) else None) level

  leads : (level : Option Level) (number thing : ℕ) (name : List ℕ) → ((at : Level) → level ≡ Some at → IsDistinct bytes_eq (part at)) → numbered level number ≡ Some thing → slice_get all thing ≡ Some name → found level name ≡ Some thing
  leads None number thing name differ h named = cc
  leads (Some at) number thing name differ h named =
      elim (nat_lt number (numbers.count at)) as (λ b. nat_lt number (numbers.count at) ≡ b → cond b (Some (numbers.first at + number)) None ≡ Some thing → found (Some at) name ≡ Some thing) [
        | true ↦ λ below e.
            let is : numbers.first at + number ≡ thing = cc in
            let here : slice_get (part at) number ≡ Some name = slice_get-part (numbers.first at) (numbers.count at) number all (ltb-true number (numbers.count at) below) ∙ ap (slice_get all) is ∙ named in
            ap (option_map (λ place. numbers.first at + place)) (place_of-at (part at) number name (differ at refl) here) ∙ ap Some is
        | false ↦ λ past e. cc
      ] refl h

  -- the number of what a name leads to, in its level
  number_of : (level : Option Level) (thing : ℕ) (name : List ℕ) → found level name ≡ Some thing → (number : ℕ) × (numbered level number ≡ Some thing) × (slice_get all thing ≡ Some name)
  number_of None thing name h = cc
  number_of (Some at) thing name h =
      elim (place_among name (part at)) as (λ (place : Option ℕ). place_among name (part at) ≡ place → option_map (λ place. numbers.first at + place) place ≡ Some thing → (number : ℕ) × (numbered (Some at) number ≡ Some thing) × (slice_get all thing ≡ Some name)) [
        | None ↦ λ e none. cc
        | Some number ↦ λ e some.
            let is : numbers.first at + number ≡ thing = cc in
            let at_place = position-Some (bytes_eq name) (part at) number name e in
            let below : number < numbers.count at = omega (arith, at_place.0, length-take (numbers.count at) (drop (numbers.first at) all)) in
            let same = (bytes_eq-Decides name (get_or (part at) number name)).0 at_place.1 in
            let here : slice_get (part at) number ≡ Some name = slice_get-get_or (part at) number name at_place.0 ∙ ap Some (sym same) in
            let inside : nat_lt number (numbers.count at) ≡ true = lt-ltb number (numbers.count at) below in (
              number,
              ap (λ b. cond b (Some (numbers.first at + number)) None) inside ∙ ap Some is,
              ap (slice_get all) (sym is) ∙ sym (slice_get-part (numbers.first at) (numbers.count at) number all below) ∙ here,
            )
      ] refl h

pub dests_are_named : (plant : PlantData) → IsPlant plant → DestsAreNamed plant
dests_are_named plant is = record {
  leads = λ matrix level number thing name h named. leads dest_numbers plant plant.dest_names (level_at plant matrix level) number thing name (λ at at_level. (told plant is _ at at_level).dests) h named;
  named = λ matrix level thing name h. (number_of dest_numbers plant plant.dest_names (level_at plant matrix level) thing name h).2;
  of_level = λ matrix level thing name h. let it = number_of dest_numbers plant plant.dest_names (level_at plant matrix level) thing name h in (it.0, it.1);
}

-- the names of all sources
abbrev names_of_all : PlantData → List (List ℕ)
names_of_all plant = map (λ (source : Source). source.name) plant.sources

source_names-part : (plant : PlantData) (at : Level) → source_names plant at ≡ take at.sources (drop at.first_source (names_of_all plant))
source_names-part plant at = sym (ap (take at.sources) (drop-map (λ (source : Source). source.name) at.first_source plant.sources) ∙ take-map (λ (source : Source). source.name) at.sources (drop at.first_source plant.sources))

source_found : (plant : PlantData) (level : Option Level) (name : List ℕ) →
    option_and_then (λ (at : Level). option_map (λ place. at.first_source + place) (place_among name (source_names plant at))) level ≡ found source_numbers plant (names_of_all plant) level name
source_found plant None name = refl
source_found plant (Some at) name = ap (λ names. option_map (λ place. at.first_source + place) (place_among name names)) (source_names-part plant at)

pub sources_are_named : (plant : PlantData) → IsPlant plant → SourcesAreNamed plant
sources_are_named plant is =
    let all = names_of_all plant in
    let name_is = slice_get-map (λ (source : Source). source.name) plant.sources in
    record {
      leads = λ matrix level number thing name h named.
          source_found plant (level_at plant matrix level) name
          ∙ leads source_numbers plant all (level_at plant matrix level) number thing name (λ at at_level. rw (sym (source_names-part plant at)) (told plant is _ at at_level).sources) h (name_is thing ∙ named);
      named = λ matrix level thing name h.
          sym (name_is thing) ∙ (number_of source_numbers plant all (level_at plant matrix level) thing name (sym (source_found plant (level_at plant matrix level) name) ∙ h)).2;
      of_level = λ matrix level thing name h.
          let it = number_of source_numbers plant all (level_at plant matrix level) thing name (sym (source_found plant (level_at plant matrix level) name) ∙ h) in
          (it.0, it.1);
    }
