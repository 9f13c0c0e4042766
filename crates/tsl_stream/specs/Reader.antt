-- Which texts a reader stands for.
use Rattle.std.specs.Prelude.{⊤, ℕ, List, ◌++◌}
use Rattle.std.specs.Borrow.{follows_so, MutBor, Fml}
use mathlib.Core.Option.{none}
use Rattle.tsl_stream.specs.declared.reader.StreamReader.{StreamReader}
use Rattle.tsl_stream.specs.contracts.reader.StreamReader.{the_row}
use Rattle.tsl_stream.specs.Items.{stream_rest}
use Rattle.tsl_stream.specs.Kept.{KeepsPacket}

-- A reader stands for every text whose rest it keeps: what comes next is read alike behind each of them. [profile]
unfoldable pub StandsForStream : StreamReader → List ℕ → Type 0
StandsForStream reader text = KeepsPacket reader.state reader.front (stream_rest text)

-- A reader goes on over these bytes: of each text that it stood for, it stands for the text with them. [profile]
abbrev pub GoesOverStream : List ℕ → StreamReader → StreamReader → Type 0
GoesOverStream bytes before after =
    (text : List ℕ) → StandsForStream before text → StandsForStream after (text ++ bytes)

-- Once nothing borrows from it, the reader has gone on over these bytes. [profile]
abbrev pub EndsOverStream : MutBor StreamReader → List ℕ → Fml
EndsOverStream reader bytes =
    follows_so the_row the_row reader.ghost_name none (λ _ _. ⊤) (GoesOverStream bytes reader.now)
