-- What it means that the last line of a text was ended.
use Rattle.std.specs.Prelude.{◌≡◌, ℕ, List, [], ◌∷◌, ◌++◌}
use Rattle.line_text.specs.Lines.{line_feed, lines}

-- A text has the same lines, and ends with an LF.
pub record EndsLine (old new : List ℕ) : Type 0 where
  pub front : List ℕ
  pub new_is : new ≡ front ++ line_feed ∷ []
  pub same : lines new ≡ lines old
