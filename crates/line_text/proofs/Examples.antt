-- The lines of texts worked by hand.
use Rattle.std.proofs.Common.{◌≡◌, [], ◌∷◌, refl}
use Rattle.line_text.specs.Lines.{lines}

-- the last line may lack its LF
with_and_without_an_end : lines (1 ∷ 10 ∷ 2 ∷ 10 ∷ []) ≡ lines (1 ∷ 10 ∷ 2 ∷ [])
with_and_without_an_end = refl

two_lines : lines (1 ∷ 10 ∷ 2 ∷ []) ≡ (1 ∷ []) ∷ (2 ∷ []) ∷ []
two_lines = refl

no_lines : lines [] ≡ []
no_lines = refl

two_lines_without_bytes : lines (10 ∷ 10 ∷ []) ≡ [] ∷ [] ∷ []
two_lines_without_bytes = refl

-- a CR is a byte of its line
a_cr : lines (1 ∷ 13 ∷ 10 ∷ []) ≡ (1 ∷ 13 ∷ []) ∷ []
a_cr = refl
