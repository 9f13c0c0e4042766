-- What the code writes of a verdict at a time.
use Rattle.std.specs.Prelude.{ℕ, List, ◌++◌, codes}

-- what stands of the two replies in the line of one that differs
abbrev pub replies_text : List ℕ → List ℕ → List ℕ
replies_text kept wanted = kept ++ codes " wanted " ++ wanted ++ codes "\n"
