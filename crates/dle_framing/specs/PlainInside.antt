-- How the plain reader goes on.
use Rattle.std.specs.Prelude.{◌≡◌, ℕ, ◌<◌, List, ◌∷◌, length}
use Rattle.dle_framing.specs.declared.plain.Start.{Start}
use Rattle.dle_framing.specs.declared.plain.Start.TheVariants.{Rest, Ends, Skipped}
use Rattle.dle_framing.specs.Items.{only_rest, with_item, reading}
use Rattle.dle_framing.specs.Owned.{owned}

-- A text starts so: it is all rest, or its reading is that of a shorter text behind its start, maybe with an item first.
abbrev pub StartsSo : List ℕ → Start → Type 0
StartsSo text Rest = reading text ≡ only_rest text
StartsSo text (Ends item behind) =
    (reading text ≡ with_item (owned item) (reading behind.now)) × (length behind.now < length text)
StartsSo text (Skipped behind) =
    (reading text ≡ reading behind.now) × (length behind.now < length text)

-- a text is this byte, with this text behind it
abbrev pub IsSplit : List ℕ → ℕ → List ℕ → Type 0
IsSplit text byte behind = text ≡ byte ∷ behind
