-- The lines that all commands share.
use Rattle.std.specs.Prelude.{ℕ, List, [], ◌∷◌, ◌++◌, codes}
use Rattle.std.specs.Fmt.{decimal}

-- a line of this text
abbrev pub line : List ℕ → List ℕ
line text = text ++ 10 ∷ []

abbrev pub no_memory : List ℕ
no_memory = line (codes "no memory")

abbrev pub file_missing : List ℕ → List ℕ
file_missing name = line (codes "file " ++ name ++ codes " missing")

abbrev pub file_fault : List ℕ → List ℕ
file_fault name = line (codes "file " ++ name ++ codes " fault")

abbrev pub plant_refused : List ℕ → List ℕ
plant_refused why = line (codes "plant refused: " ++ why)

abbrev pub plant_too_long : List ℕ
plant_too_long = plant_refused (codes "too long")

-- the line of a file that is too long, by the word of its kind
abbrev pub too_long : List ℕ → List ℕ
too_long word = line (word ++ codes " too long")

-- the line of a script's line that has no form, by its number
abbrev pub line_refused : ℕ → List ℕ
line_refused number = line (codes "script line " ++ decimal number ++ codes " refused")
