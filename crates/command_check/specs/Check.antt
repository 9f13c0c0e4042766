-- The command `check`: what it says of a plant, and how it may end.
use Rattle.std.specs.Prelude.{◌≡◌, ◌⊎◌, ℕ, List, [], ◌∷◌, ◌++◌, length, sum_by, codes}
use Rattle.std.specs.Fmt.{decimal}
use Rattle.plant_config.specs.Plant.{PlantData, sources_of, destinations_of}
use Rattle.command_words.specs.Parts.{Part, Plant, NoMore}
use Rattle.command_rows.specs.Lines.{line}
use Rattle.command_rows.specs.End.{End, done, out_of_memory}
use Rattle.command_rows.specs.Row.{Promise, Alone}

-- the parts of its form
abbrev pub parts : List Part
parts = Plant ∷ []

-- how many tie-lines all pools of a plant have
abbrev pub ties_of : PlantData → ℕ
ties_of plant = sum_by (λ pool. pool.ties) plant.pools

-- what a plant has, in ten lines
abbrev pub check_text : PlantData → List ℕ
check_text plant =
    line (codes "plant " ++ plant.title)
    ++ line (codes "levels " ++ decimal (length plant.levels))
    ++ line (codes "sources " ++ decimal (sources_of plant))
    ++ line (codes "destinations " ++ decimal (destinations_of plant))
    ++ line (codes "pools " ++ decimal (length plant.pools))
    ++ line (codes "ties " ++ decimal (ties_of plant))
    ++ line (codes "devices " ++ decimal (length plant.devices))
    ++ line (codes "buses " ++ decimal (length plant.buses))
    ++ line (codes "displays " ++ decimal (length plant.displays))
    ++ line (codes "panels " ++ decimal (length plant.panels))

-- The check of this plant ends so: with exactly these lines, or without memory.
abbrev pub CheckEnds : PlantData → End → Type 0
CheckEnds plant end = (end ≡ out_of_memory) ⊎ (end ≡ done (check_text plant))

-- What it promises of the plant that is given. It leaves the files alone.
abbrev pub CheckRow : Promise parts NoMore
CheckRow = Alone parts NoMore (λ given. CheckEnds given.0)
