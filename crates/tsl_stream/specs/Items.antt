-- The items of a stream of bytes: what it says, read as a whole text.
use Rattle.std.specs.Prelude.{ℕ, ◌+◌, ◌==◌, ◌&&◌, nat_lt, nat_le, if◌then◌else◌, List, [], ◌∷◌, ◌++◌, length, take, drop, Result, Ok, Err}
use Rattle.doubled_bytes.specs.Doubled.{Run, longest_run}
use Rattle.doubled_bytes.specs.Reading.{Reading, reading_by, only_rest, with_item}
use Rattle.tsl_umd5.specs.declared.fault.TslFault.{TslFault}
use Rattle.tsl_umd5.specs.declared.fault.TslFault.TheVariants.{TooLong}
use Rattle.tsl_umd5.specs.Layout.{max_packet}
use Rattle.tsl_umd5.specs.Packet.{Contents}
use Rattle.tsl_umd5.specs.Reading.{field_number, packet_reading}
use Rattle.tsl_stream.specs.Numbers.{tsl_dle, tsl_stx}
use Rattle.tsl_stream.specs.Stream.{stuffed}

-- what a stream says: a packet, as its bytes, or why bytes that a start announced are none [profile]
pub data PacketItem : Type 0 where
  Packet : List ℕ → PacketItem
  Bad : TslFault → PacketItem

-- the item of bytes that are read so [profile]
abbrev pub told : List ℕ → Result Contents TslFault → PacketItem
told bytes (Ok contents) = Packet bytes
told bytes (Err fault) = Bad fault

-- the item of bytes: themselves where they are a packet, and the first rule that they break in every other case [profile]
abbrev pub item_of_bytes : List ℕ → PacketItem
item_of_bytes bytes = told bytes (packet_reading bytes)

-- How many bytes a packet that begins so has: PBC, its own two bytes, and as many as it counts. Where less than PBC has
-- come, these are two. [TSL UMD V5.0]
abbrev pub packet_size : List ℕ → ℕ
packet_size [] = 2
packet_size (low ∷ []) = 2
packet_size (low ∷ high ∷ bytes) = field_number low high + 2

-- the longest run by this DLE [TSL UMD V5.0]
abbrev pub packet_run : List ℕ → Run
packet_run text = longest_run tsl_dle text

-- the text behind the first n pieces of a run: the pieces that follow them, with each DLE twice as it came, and the text
-- behind the run [TSL UMD V5.0]
abbrev pub behind_pieces : ℕ → Run → List ℕ
behind_pieces n run = stuffed (drop n run.spelled) ++ run.behind

-- what a text says [profile]
abbrev pub StreamReading : Type 0
StreamReading = Reading PacketItem

-- Behind DLE STX and a run of pieces that are fewer than the packet has bytes: DLE STX starts the next packet, where DLE
-- and any other byte are used up. Where nothing or a lone DLE follows the run, all from the first DLE STX on is the rest.
-- [profile]
abbrev pub broken_off : (List ℕ → StreamReading) → List ℕ → List ℕ → StreamReading
broken_off goes_on text [] = only_rest (tsl_dle ∷ tsl_stx ∷ text)
broken_off goes_on text (a ∷ []) = only_rest (tsl_dle ∷ tsl_stx ∷ text)
broken_off goes_on text (a ∷ b ∷ more) =
    if b == tsl_stx then goes_on (a ∷ b ∷ more) else goes_on more

-- Behind DLE STX, by the run of pieces there. A packet that PBC makes too long is bad at once, and reading goes on behind
-- PBC. Else as many pieces as the packet has bytes end it, good or bad, and reading goes on behind them. [profile]
abbrev pub in_packet : (List ℕ → StreamReading) → List ℕ → Run → StreamReading
in_packet goes_on text run =
    let n = packet_size run.spelled in
    if nat_lt max_packet n then with_item (Bad (TooLong n)) (goes_on (behind_pieces 2 run))
    else if nat_le n (length run.spelled)
    then with_item (item_of_bytes (take n run.spelled)) (goes_on (behind_pieces n run))
    else broken_off goes_on text run.behind

-- The reading of a text by cases on its start, where `goes_on` is the reading of what is behind that start. A byte that
-- starts no packet is noise by itself. [profile]
abbrev pub by_packet_start : (List ℕ → StreamReading) → List ℕ → StreamReading
by_packet_start goes_on [] = only_rest []
by_packet_start goes_on (a ∷ []) =
    if a == tsl_dle then only_rest (a ∷ []) else only_rest []
by_packet_start goes_on (a ∷ b ∷ text) =
    if a == tsl_dle && b == tsl_stx then in_packet goes_on text (packet_run text)
    else goes_on (b ∷ text)

-- The reading of a text. It is `by_packet_start stream_reading`, a law that `reads_by_start` states. [profile]
unfoldable pub stream_reading : List ℕ → StreamReading
stream_reading text = reading_by by_packet_start text

-- the items of a text [profile]
abbrev pub stream_items : List ℕ → List PacketItem
stream_items text = (stream_reading text).items

-- the rest of a text that is no whole item yet [profile]
abbrev pub stream_rest : List ℕ → List ℕ
stream_rest text = (stream_reading text).rest
