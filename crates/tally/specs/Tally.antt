-- The roots of a tally, and sets of local sources.
use Rattle.std.specs.Prelude.{ℕ, ◌==◌, Bool, List}
use Rattle.std.specs.List.{list_any}
use Rattle.std.specs.Ordering.{nat_cmp}
use Rattle.std.specs.FinSet.{FinSet}
use Rattle.plant_config.specs.Plant.{PlantData}
use Rattle.tally.specs.declared.roots.Roots.{Roots}
use Rattle.tally.specs.declared.roots.Roots.TheVariants.{Air, Preview}

-- the destinations that are roots
abbrev pub roots_of : PlantData → Roots → List ℕ
roots_of plant Air = plant.air
roots_of plant Preview = plant.preview

-- whether a destination is one of these roots
abbrev pub is_root : List ℕ → ℕ → Bool
is_root roots dest = list_any (λ root. root == dest) roots

-- local sources, by their numbers
abbrev pub Origins : Type 0
Origins = FinSet nat_cmp
