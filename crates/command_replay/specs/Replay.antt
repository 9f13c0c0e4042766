-- The command `replay`: what is given for its form, and how it may end, and why.
use Rattle.std.specs.Prelude.{◌≡◌, ◌⊎◌, ℕ, List, [], ◌∷◌}
use Rattle.plant_config.specs.Plant.{PlantData}
use Rattle.record_replay.specs.Script.{IsFirstBad}
use Rattle.record_replay.specs.TiedReplay.{IsTiedReplay}
use Rattle.command_words.specs.Parts.{Part, Plant, Whole, Last, NoMore}
use Rattle.command_rows.specs.Kinds.{script}
use Rattle.command_rows.specs.Lines.{line_refused}
use Rattle.command_rows.specs.End.{End, done, ended, out_of_memory}
use Rattle.command_rows.specs.Row.{Promise, Alone}

-- the parts of its form
abbrev pub parts : List Part
parts = Plant ∷ Whole script ∷ []

-- The replay of this script on this plant ends so. Where it is done, its output is the script's replay text, and no tie carries
-- two sources at any place of the history behind it. Memory runs out before a line is worked, and the first line without a form
-- is refused, so that nothing else was written.
abbrev pub ReplayEnds : PlantData → List ℕ → End → Type 0
ReplayEnds plant text end =
    (end ≡ out_of_memory)
    ⊎ ((output : List ℕ) × (end ≡ done output) × IsTiedReplay plant text output)
    ⊎ ((number : ℕ) × (end ≡ ended 5 (line_refused number)) × IsFirstBad plant text number)

-- What it promises of the plant and the script that are given. It leaves the files alone.
abbrev pub ReplayRow : Promise parts NoMore
ReplayRow = Alone parts NoMore (λ given. ReplayEnds given.0 given.1.0)
