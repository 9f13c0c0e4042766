-- Bytes that are cut into pieces.
use Rattle.std.specs.Prelude.{ℕ, List, [], ◌∷◌, take, drop}

-- the front of the bytes in pieces of these lengths
abbrev pub cut : List ℕ → List ℕ → List (List ℕ)
cut [] bytes = []
cut (n ∷ ns) bytes = take n bytes ∷ cut ns (drop n bytes)
