-- What is known of the levels of a plant that are found, and of their names.
use Rattle.std.proofs.Common.{◌≡◌, ℕ, ◌+◌, ◌*◌, ◌/◌, ◌%◌, ◌<◌, ◌≤◌, ◌==◌, ◌&&◌, Bool, true, false, cond, List, [], ◌∷◌, All, take, drop, find, length, get_or, slice_get, Option, None, Some, IfSome, OnSome, Bor, ◌⊎◌, inl, inr, refl, sym, ◌∙◌, subst, arith}
use Rattle.std.specs.Option.{option_map, option_copied}
use Rattle.std.proofs.lemmas.Bool.{and_parts, eqb-true}
use Rattle.std.proofs.lemmas.Grind.{common_steps}
use Rattle.std.proofs.lemmas.List.{get_or-take, get_or-drop, get_or-map, length-take, length-map, length-drop}
use Rattle.std.proofs.lemmas.List.Elements.{All-take, All-drop}
use Rattle.std.proofs.lemmas.Option.{slice_get_read, slice_get_cases}
use Rattle.plant_file.specs.Ranges.{IsName}
use Rattle.plant_config.specs.declared.records.Level.{Level}
use Rattle.plant_config.specs.declared.records.Source.{Source}
use Rattle.plant_config.specs.Plant.{PlantData, source_numbers, dest_numbers}
use Rattle.plant_config.specs.IsPlant.{IsPlant, IsLevel, AreTold}
use Rattle.plant_config.specs.Sites.{level_among, level_at}
use Rattle.plant_config.specs.NamesOfLevel.{source_names, dest_names}
use Rattle.plant_config.proofs.Found.{All-find, find-passes}
use Rattle.plant_config.proofs.SiteLemmas.{dests_are, sources_are, numbers_within}
use Rattle.plant_names.specs.Pages.{lowest_level}
use Rattle.plant_names.specs.NamesInside.{Named, named, placed, IsNamed}

find-none : {X : Type 0} (test : X → Bool) (xs : List X) → ((x : X) → find test xs ≡ Some x → ⊥) → find test xs ≡ None
find-none {X} test xs never = elim (find test xs) as (λ (found : Option X). find test xs ≡ found → found ≡ None) [
  | None ↦ λ e. refl
  | Some x ↦ λ e. absurd (never x e)
] refl

module _ (plant : PlantData) (is : IsPlant plant) where
  -- no level is out of the limits
  pub level_at-none : (matrix level : ℕ) → (16 ≤ matrix) ⊎ (16 ≤ level) → level_at plant matrix level ≡ None
  level_at-none matrix level out = find-none (λ (at : Level). at.matrix == matrix && at.level == level) plant.levels (λ at found.
      let passes = and_parts (at.matrix == matrix) (at.level == level) (find-passes (λ (at : Level). at.matrix == matrix && at.level == level) plant.levels at found) in
      let within = All-find IsLevel (λ (at : Level). at.matrix == matrix && at.level == level) plant.levels at is.each_level found in
      let same_matrix = eqb-true at.matrix matrix passes.0 in
      let same_level = eqb-true at.level level passes.1 in
      elim out [
        | inl past ↦ omega (arith, within.matrix)
        | inr past ↦ omega (arith, within.level)
      ])

  pub lowest_level-none : (matrix : ℕ) → 16 ≤ matrix → lowest_level plant matrix ≡ None
  lowest_level-none matrix past = find-none (λ (at : Level). at.matrix == matrix) plant.levels (λ at found.
      let same = eqb-true at.matrix matrix (find-passes (λ (at : Level). at.matrix == matrix) plant.levels at found) in
      let within = All-find IsLevel (λ (at : Level). at.matrix == matrix) plant.levels at is.each_level found in
      omega (arith, within.matrix))

  -- the names of a level's sources and destinations
  each_source : (at : Level) → All IsName (source_names plant at)
  each_source at k d within =
      let some = slice_get_cases (take at.sources (drop at.first_source plant.sources)) k in
      elim some.1 [
        | inl found ↦
            let source = found.0 in
            let below : k < at.sources = omega (arith, found.1, length-take at.sources (drop at.first_source plant.sources)) in
            let here : source ≡ get_or plant.sources (at.first_source + k) source =
            sym (sym (get_or-drop at.first_source plant.sources k source) ∙ sym (get_or-take at.sources (drop at.first_source plant.sources) k source below) ∙ found.3) in
            let inside : at.first_source + k < length plant.sources = omega (arith, found.1, length-take at.sources (drop at.first_source plant.sources), length-drop at.first_source plant.sources) in
            let has : slice_get plant.sources (at.first_source + k) ≡ Some source = slice_get_read plant.sources (length plant.sources) (at.first_source + k) source refl inside here in
            let so = rw has at (is.named.each_source (at.first_source + k)) in
            rw (get_or-map (λ (source : Source). source.name) (take at.sources (drop at.first_source plant.sources)) k source d found.1, found.3) so.name
        | inr past ↦ absurd (omega (arith, past.0, length-map (take at.sources (drop at.first_source plant.sources)) (λ (source : Source). source.name)))
      ]

  each_dest : (at : Level) → All IsName (dest_names plant at)
  each_dest at = All-take IsName at.destinations (drop at.first_dest plant.dest_names) (All-drop IsName at.first_dest plant.dest_names is.named.each_dest)

  module _ (test : Level → Bool) (at : Level) (found : find test plant.levels ≡ Some at) where
    pub sources_within : at.first_source + at.sources ≤ length plant.sources
    sources_within = omega (arith, numbers_within source_numbers plant (sources_are plant is) test at found, is.named.sources)

    pub dests_within : at.first_dest + at.destinations ≤ length plant.dest_names
    dests_within = omega (arith, numbers_within dest_numbers plant (dests_are plant is) test at found, is.named.dests)

    pub told : AreTold plant at
    told = All-find (AreTold plant) test plant.levels at is.named.told found

    pub named-IsNamed : IsNamed (named plant at)
    named-IsNamed =
        let level = All-find IsLevel test plant.levels at is.each_level found in
        let sources : length (source_names plant at) ≤ at.sources = omega (arith, length-map (take at.sources (drop at.first_source plant.sources)) (λ (source : Source). source.name), length-take at.sources (drop at.first_source plant.sources)) in
        let dests : length (dest_names plant at) ≤ at.destinations = omega (arith, length-take at.destinations (drop at.first_dest plant.dest_names)) in
        record {
          each_source = each_source at;
          each_dest = each_dest at;
          source_count = omega (arith, sources, level.sources.most);
          dest_count = omega (arith, dests, level.destinations.most);
          sources_end = omega (arith, sources, sources_within, is.named.sources, is.sources);
          dests_end = omega (arith, dests, dests_within, is.named.dests, is.destinations);
        }

-- the place in the table of a level
pub placed-at : (plant : PlantData) (matrix level : ℕ) → level < 16 → placed plant (matrix * 16 + level) ≡ option_map (named plant) (level_at plant matrix level)
placed-at plant matrix level below =
    let high : (matrix * 16 + level) / 16 ≡ matrix = omega arith in
    let low : (matrix * 16 + level) % 16 ≡ level = omega arith in
    rw (high, low) refl

-- the lowest level of a matrix is found by its own place
pub level_among-lowest : (levels : List Level) (matrix : ℕ) (at : Level) → find (λ (level : Level). level.matrix == matrix) levels ≡ Some at → level_among levels at.matrix at.level ≡ Some at
level_among-lowest [] matrix at found = cc
level_among-lowest (level ∷ levels) matrix at found =
    elim (level.matrix == matrix) as (λ b. level.matrix == matrix ≡ b → cond b (Some level) (find (λ (level : Level). level.matrix == matrix) levels) ≡ Some at → level_among (level ∷ levels) at.matrix at.level ≡ Some at) [
      | true ↦ λ passes h.
          let same : level ≡ at = cc in
          let first : level_among (level ∷ levels) level.matrix level.level ≡ Some level = grind (arith, common_steps) in
          subst (λ (at : Level). level_among (level ∷ levels) at.matrix at.level ≡ Some at) same first
      | false ↦ λ fails h.
          let is = eqb-true at.matrix matrix (find-passes (λ (level : Level). level.matrix == matrix) levels at h) in
          let other : level.matrix == at.matrix ≡ false = rw is fails in
          rw other (level_among-lowest levels matrix at h)
    ] refl found

-- what is so of each level that is found is so of the one that a look-up answers
pub IfSome-named : (plant : PlantData) (IsSo : Named → Type 0) (found : Option Level) (result : Option (Bor Named)) → option_copied result ≡ option_map (named plant) found → ((at : Level) → found ≡ Some at → IsSo (named plant at)) → IfSome result (λ names. IsSo names.now)
IfSome-named plant IsSo found None e so = tt
IfSome-named plant IsSo None (Some names) e so = cc
IfSome-named plant IsSo (Some at) (Some names) e so = let same : names.now ≡ named plant at = cc in subst IsSo (sym same) (so at refl)

pub OnSome-all : {X : Type 0} (result : Option X) {P : Type 0} → P → OnSome result P
OnSome-all None p = tt
OnSome-all (Some x) p = p
