-- Bytes that are taken from a source piece by piece.
use Rattle.std.specs.Prelude.{◌≡◌, ℕ, List, ◌++◌, length, Option}
use Rattle.std.specs.Option.{option_map}

-- These bytes were taken from a source: where it shows what it has left, they stood in front of what it has left now.
abbrev pub Takes : List ℕ → Option (List ℕ) → Option (List ℕ) → Type 0
Takes taken before now = before ≡ option_map (λ rest. taken ++ rest) now

-- So many bytes were taken from a source to the end of a list.
pub record TakesPiece (count : ℕ) (old new : List ℕ) (before now : Option (List ℕ)) : Type 0 where
  pub piece : List ℕ
  pub counted : length piece ≡ count
  pub appended : new ≡ old ++ piece
  pub taken : Takes piece before now
