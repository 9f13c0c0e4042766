-- What the laws of names say.
use Rattle.std.specs.Prelude.{◌≡◌, ℕ, ◌*◌, ◌≤◌, List, length, Option, Some}
use Rattle.std.specs.List.{flat_map, range_with_len}
use Rattle.plant_config.specs.Plant.{PlantData}
use Rattle.plant_config.specs.Sites.{dest_at, source_at}
use Rattle.plant_config.specs.Sources.{source_name_of, dest_name_of}
use Rattle.plant_names.specs.Lookup.{source_named, dest_named}
use Rattle.plant_names.specs.Pages.{most_names, names_from}

-- What a level has at a number is what its name leads to at that level.
abbrev pub NamesLeadBack : (ℕ → ℕ → ℕ → Option ℕ) → (ℕ → Option (List ℕ))
    → (ℕ → ℕ → List ℕ → Option ℕ) → Type 0
NamesLeadBack at name_of found = (matrix level number thing : ℕ) (name : List ℕ)
    → at matrix level number ≡ Some thing → name_of thing ≡ Some name
    → found matrix level name ≡ Some thing

-- What a name leads to has that name.
abbrev pub FoundIsNamed : (ℕ → Option (List ℕ)) → (ℕ → ℕ → List ℕ → Option ℕ)
    → Type 0
FoundIsNamed name_of found = (matrix level thing : ℕ) (name : List ℕ)
    → found matrix level name ≡ Some thing → name_of thing ≡ Some name

-- What a name leads to at a level is of that level.
abbrev pub FoundIsOfLevel : (ℕ → ℕ → ℕ → Option ℕ)
    → (ℕ → ℕ → List ℕ → Option ℕ) → Type 0
FoundIsOfLevel at found = (matrix level thing : ℕ) (name : List ℕ)
    → found matrix level name ≡ Some thing → (number : ℕ) × (at matrix level number ≡ Some thing)

-- A look-up by name is the inverse of the names.
pub record IsInverse (at : ℕ → ℕ → ℕ → Option ℕ) (name_of : ℕ → Option (List ℕ))
    (found : ℕ → ℕ → List ℕ → Option ℕ) : Type 0 where
  pub leads : NamesLeadBack at name_of found
  pub named : FoundIsNamed name_of found
  pub of_level : FoundIsOfLevel at found

abbrev pub SourcesAreNamed : PlantData → Type 0
SourcesAreNamed plant = IsInverse (source_at plant) (source_name_of plant) (source_named plant)

abbrev pub DestsAreNamed : PlantData → Type 0
DestsAreNamed plant = IsInverse (dest_at plant) (dest_name_of plant) (dest_named plant)

-- the names of so many pages one behind the other: each page but the first begins where the one before it ends [profile]
abbrev pub names_of_pages : ℕ → ℕ → List (List ℕ) → List (List ℕ)
names_of_pages size pages names =
    flat_map (λ page. names_from size (page * most_names size) names) (range_with_len 0 pages)

-- Pages that suffice have all names, each once and in order. [profile]
abbrev pub PagesHaveAll : ℕ → Type 0
PagesHaveAll size = (pages : ℕ) (names : List (List ℕ)) → length names ≤ pages * most_names size
    → names_of_pages size pages names ≡ names
