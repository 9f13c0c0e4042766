-- Which texts a framer stands for.
use Rattle.std.specs.Prelude.{⊤, ℕ, List, ◌++◌}
use Rattle.std.specs.Borrow.{follows_so, MutBor, Fml}
use mathlib.Core.Option.{none}
use Rattle.dle_framing.specs.declared.framer.Framer.{Framer}
use Rattle.dle_framing.specs.contracts.framer.Framer.{the_row}
use Rattle.dle_framing.specs.Items.{rest}
use Rattle.dle_framing.specs.Kept.{Keeps}

-- A framer stands for every text whose rest it keeps: what comes next is read alike behind each of them. [profile]
unfoldable pub StandsFor : Framer → List ℕ → Type 0
StandsFor framer text = Keeps framer.state framer.front (rest text)

-- A framer goes on over these bytes: of each text that it stood for, it stands for the text with them. [profile]
abbrev pub GoesOver : List ℕ → Framer → Framer → Type 0
GoesOver bytes before after =
    (text : List ℕ) → StandsFor before text → StandsFor after (text ++ bytes)

-- Once nothing borrows from it, the framer has gone on over these bytes. [profile]
abbrev pub EndsOver : MutBor Framer → List ℕ → Fml
EndsOver framer bytes =
    follows_so the_row the_row framer.ghost_name none (λ _ _. ⊤) (GoesOver bytes framer.now)
