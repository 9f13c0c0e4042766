-- The destinations that changes touch: those that they name, and the buses that these switch.
use Rattle.std.specs.Prelude.{ℕ, List, [], ◌∷◌, ◌++◌, map}
use Rattle.plant_config.specs.declared.records.Change.{Change}
use Rattle.plant_config.specs.Plant.{PlantData}
use Rattle.mixer_effects.specs.Buses.{switched_at}

-- the destinations that changes name
abbrev pub named_by : List Change → List ℕ
named_by changes = map (λ (change : Change). change.dest) changes

-- a destination, and the buses that it switches
abbrev pub with_switched : PlantData → ℕ → List ℕ
with_switched plant dest = dest ∷ switched_at plant dest

-- the destinations that changes name, each with the buses that it switches
abbrev pub touched_by : PlantData → List Change → List ℕ
touched_by plant [] = []
touched_by plant (change ∷ changes) =
    with_switched plant change.dest ++ touched_by plant changes
