-- Texts that are cut at a byte, and how long a line is at the most.
use Rattle.std.specs.Prelude.{◌≡◌, ◌≢◌, ℕ, List, ◌∷◌, ◌++◌, All}

-- the byte between the fields of a line
abbrev pub space : ℕ
space = 32

-- the most bytes of a line of a script or of a trace, its LF not counted
abbrev pub longest_line : ℕ
longest_line = 65536

-- A text is without this byte.
abbrev pub HasNo : ℕ → List ℕ → Type 0
HasNo byte text = All (λ other. other ≢ byte) text

-- A text is cut at the first of this byte.
pub record IsCut (byte : ℕ) (text front behind : List ℕ) : Type 0 where
  pub place : text ≡ front ++ byte ∷ behind
  pub first : HasNo byte front
