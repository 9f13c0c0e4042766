-- What of a recorded stream was told so far.
use Rattle.std.specs.Prelude.{◌≡◌, ℕ, List, ◌++◌, length, Result, Ok, Err}
use Rattle.std.specs.List.{flat_map}
use Rattle.tsl_umd5.specs.declared.fault.TslFault.{TslFault}
use Rattle.tsl_umd5.specs.Packet.{Contents}
use Rattle.tsl_stream.specs.declared.reader.StreamReader.{StreamReader}
use Rattle.tsl_stream.specs.Items.{stream_items}
use Rattle.tsl_stream.specs.Reader.{StandsForStream}
use Rattle.record_replay.specs.Monitor.{item_lines}

-- A reader goes on over these bytes, and the lines of the items that end in them are put.
abbrev pub TellsOn : List ℕ → StreamReader → StreamReader → (List ℕ → Type 0) → Type 0
TellsOn bytes before after IsPut = (text : List ℕ) → StandsForStream before text
    → StandsForStream after (text ++ bytes)
    × (lines : List ℕ)
    × (flat_map item_lines (stream_items (text ++ bytes))
    ≡ flat_map item_lines (stream_items text) ++ lines)
    × IsPut lines

-- how many displays are told by bytes that are read so
abbrev pub count_in : Result Contents TslFault → ℕ
count_in (Ok packet) = length packet.displays
count_in (Err fault) = 0
