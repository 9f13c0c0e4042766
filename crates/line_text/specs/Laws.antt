-- What is true of the lines of all texts.
use Rattle.std.specs.Prelude.{◌≡◌, ◌≢◌, ℕ, List, [], ◌∷◌, ◌++◌, All}
use Rattle.std.specs.List.{flat_map}
use Rattle.line_text.specs.Lines.{line_feed, lines}

-- Where an LF stands between two texts, of which the first lacks the LF of its last line, their lines stand one behind the
-- other.
abbrev pub AreJoined : List ℕ → ℕ → List ℕ → Type 0
AreJoined front last more = last ≢ line_feed
    → lines (front ++ last ∷ line_feed ∷ more) ≡ lines (front ++ last ∷ []) ++ lines more

-- Behind an LF other lines begin.
abbrev pub AreBehind : List ℕ → List ℕ → Type 0
AreBehind front more =
    lines (front ++ line_feed ∷ more) ≡ lines (front ++ line_feed ∷ []) ++ lines more

-- Bytes have no LF among them.
abbrev pub IsLine : List ℕ → Type 0
IsLine line = All (λ byte. byte ≢ line_feed) line

-- the text of whole lines: an LF is behind each
abbrev pub text_of : List (List ℕ) → List ℕ
text_of whole = flat_map (λ line. line ++ line_feed ∷ []) whole

-- The lines of a text of whole lines are these.
abbrev pub AreRead : List (List ℕ) → Type 0
AreRead whole = All IsLine whole → lines (text_of whole) ≡ whole
