-- Bytes of which one, DLE, is doubled. Each protocol says which byte that is.
use Rattle.std.specs.Prelude.{ℕ, ◌==◌, if◌then◌else◌, List, [], ◌∷◌}
use Rattle.std.specs.List.{flat_map}

-- each DLE twice, so that none of them can be read as the first byte of a control [profile]
abbrev pub doubled : ℕ → List ℕ → List ℕ
doubled dle bytes = flat_map (λ byte. if byte == dle then dle ∷ dle ∷ [] else byte ∷ []) bytes

-- The longest run of pieces at the start of a text, a piece being a byte other than DLE, or a pair of DLE. `spelled` has
-- each pair made one byte, and `behind` is the text behind the run. [profile]
pub record Run : Type 0 where
  pub spelled : List ℕ
  pub behind : List ℕ

abbrev pub with_piece : ℕ → Run → Run
with_piece byte run = record run { spelled = byte ∷ run.spelled }

abbrev pub longest_run : ℕ → List ℕ → Run
longest_run dle [] = record { spelled = []; behind = [] }
longest_run dle (a ∷ []) =
    if a == dle then record { spelled = []; behind = a ∷ [] }
    else record { spelled = a ∷ []; behind = [] }
longest_run dle (a ∷ b ∷ text) =
    if a == dle then (if b == dle then with_piece dle (longest_run dle text)
    else record { spelled = []; behind = a ∷ b ∷ text })
    else with_piece a (longest_run dle (b ∷ text))
