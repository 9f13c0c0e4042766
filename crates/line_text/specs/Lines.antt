-- The lines of a text.
use Rattle.std.specs.Prelude.{ℕ, ◌==◌, if◌then◌else◌, List, [], ◌∷◌}

-- the byte that ends a line
abbrev pub line_feed : ℕ
line_feed = 10

-- a line that goes on with this byte in front
abbrev pub in_line : ℕ → List (List ℕ) → List (List ℕ)
in_line byte [] = (byte ∷ []) ∷ []
in_line byte (line ∷ others) = (byte ∷ line) ∷ others

-- the lines of a text: LF ends each of them, and the last one may lack it
abbrev pub lines : List ℕ → List (List ℕ)
lines [] = []
lines (byte ∷ more) = if byte == line_feed then [] ∷ lines more else in_line byte (lines more)
