-- How many names a level of a plant has at the most, and how many answers a step.
use Rattle.std.proofs.Common.{◌≡◌, ℕ, ◌≤◌, if◌then◌else◌, ap, Bool, true, false, cond, List, [], ◌∷◌, length, All, IfSome, Option, Some, None, max, arith}
use Rattle.std.specs.Prelude.{◌==◌, ◌&&◌, find, take, drop}
use Rattle.std.specs.List.{fold}
use Rattle.std.specs.Option.{option_map}
use Rattle.std.proofs.lemmas.Bool.{le-ltb}
use Rattle.std.proofs.lemmas.List.{length-map, length-take}
use Rattle.std.proofs.lemmas.List.Elements.{All-head, All-tail}
use Rattle.plant_config.specs.declared.records.Level.{Level}
use Rattle.plant_config.specs.declared.records.Source.{Source}
use Rattle.plant_config.specs.IsPlant.{IsLevel, IsPlant}
use Rattle.plant_config.specs.NamesOfLevel.{source_names, dest_names}
use Rattle.plant_config.specs.Plant.{PlantData}
use Rattle.plant_core.specs.Wide.{is_wide}
use Rattle.plant_core.specs.Answer.{with_room, room_of}
use Rattle.plant_core.specs.declared.answer.Answer.{Answer}
use Rattle.panel_session.specs.NamePagesInside.{names_of}
use Rattle.panel_session.specs.RoomsInside.{fitting, most_at_once, most_named}
use Rattle.panel_session.specs.declared.sending.name_page.NamesOf.{NamesOf}
use Rattle.panel_session.specs.declared.sending.name_page.NamesOf.TheVariants.{Sources, Dests}

-- the most so far, and the names of one level more
abbrev more : ℕ → Level → ℕ
more most level = max (max most level.sources) level.destinations

grows : (levels : List Level) (most : ℕ) → most ≤ fold more most levels
grows [] most = omega arith
grows (level ∷ levels) most = omega (arith, grows levels (more most level))

-- A level is within the most of all.
abbrev IsWithin : ℕ → Level → Type 0
IsWithin most at = (at.sources ≤ most) × (at.destinations ≤ most)

found-within : (is_it : Level → Bool) (levels : List Level) (most : ℕ) → IfSome (find is_it levels) (IsWithin (fold more most levels))
found-within is_it [] most = tt
found-within is_it (first ∷ levels) most =
    elim (is_it first) as (λ b. IfSome (cond b (Some first) (find is_it levels)) (IsWithin (fold more (more most first) levels))) [
      | true ↦ (omega (arith, grows levels (more most first)), omega (arith, grows levels (more most first)))
      | false ↦ found-within is_it levels (more most first)
    ]

module _ (plant : PlantData) where
  abbrev FewNames : List (List ℕ) → Type 0
  FewNames names = length names ≤ most_named plant

  sources-few : (found : Option Level) → IfSome found (IsWithin (most_named plant)) → IfSome (option_map (source_names plant) found) FewNames
  sources-few None within = tt
  sources-few (Some at) within =
      omega (arith, within.0, length-map (take at.sources (drop at.first_source plant.sources)) (λ (source : Source). source.name), length-take at.sources (drop at.first_source plant.sources))

  dests-few : (found : Option Level) → IfSome found (IsWithin (most_named plant)) → IfSome (option_map (dest_names plant) found) FewNames
  dests-few None within = tt
  dests-few (Some at) within = omega (arith, within.1, length-take at.destinations (drop at.first_dest plant.dest_names))

  -- No level has more names.
  pub names-most : (matrix : ℕ) (names : NamesOf) → IfSome (names_of plant matrix names) FewNames
  names-most matrix (Sources level) = sources-few _ (found-within (λ (at : Level). at.matrix == matrix && at.level == level) plant.levels 64)
  names-most matrix Dests = dests-few _ (found-within (λ (at : Level). at.matrix == matrix) plant.levels 64)

  -- A step has no more answers.
  pub answers-most : room_of plant ≤ most_named plant
  answers-most = go plant.levels 64 64 (omega arith)
    where
      less : (level : Level) (fewer most : ℕ) → fewer ≤ most → with_room fewer level ≤ more most level
      less level fewer most within = elim (is_wide level) as (λ b. cond b fewer (max fewer level.destinations) ≤ more most level) [ true ↦ omega (arith, within) | false ↦ omega (arith, within) ]

      go : (levels : List Level) (fewer most : ℕ) → fewer ≤ most → fold with_room fewer levels ≤ fold more most levels
      go [] fewer most within = within
      go (level ∷ levels) fewer most within = go levels (with_room fewer level) (more most level) (less level fewer most within)

  -- So there is room for all of them.
  pub fits-all : (answers : List Answer) → length answers ≤ room_of plant → fitting plant answers ≡ answers
  fits-all answers few =
      ap (λ (test : Bool). if test then [] else answers) (le-ltb (most_at_once plant) (length answers) (omega (arith, few)))

  -- A plant has at most 65,536 names at a level.
  pub names-bounded : IsPlant plant → most_named plant ≤ 65536
  names-bounded is = go plant.levels 64 is.each_level (omega arith)
    where
      go : (levels : List Level) (most : ℕ) → All IsLevel levels → most ≤ 65536 → fold more most levels ≤ 65536
      go [] most all within = within
      go (level ∷ levels) most all within =
          go levels (more most level) (All-tail IsLevel level levels all)
          (omega (arith, within, (All-head IsLevel level levels all).destinations.most, (All-head IsLevel level levels all).sources.most))
