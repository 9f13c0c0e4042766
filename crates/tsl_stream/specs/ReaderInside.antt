-- What bytes of a piece do to a reader.
use Rattle.std.specs.Prelude.{◌≡◌, ℕ, List, ◌++◌}
use Rattle.tsl_stream.specs.declared.reader.StreamReader.{StreamReader}
use Rattle.tsl_stream.specs.Reader.{StandsForStream}
use Rattle.tsl_stream.specs.Items.{stream_items}

-- A reader goes on over these bytes, and no item ends in them.
abbrev pub PassesOver : List ℕ → StreamReader → StreamReader → Type 0
PassesOver bytes before after = (text : List ℕ) → StandsForStream before text
    → (stream_items (text ++ bytes) ≡ stream_items text) × StandsForStream after (text ++ bytes)
