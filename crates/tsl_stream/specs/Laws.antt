-- The laws of packets on a stream. The functions of `laws` promise them.
use Rattle.std.specs.Prelude.{◌≡◌, ℕ, List, [], ◌++◌, map}
use Rattle.std.specs.List.{flat_map, AllByRecursion}
use Rattle.doubled_bytes.specs.Laws.{ReadsByStart, OneReadsByStart, ReadsOn, ItemsStay}
use Rattle.doubled_bytes.specs.Reading.{with_item}
use Rattle.tsl_umd5.specs.Packet.{IsPacketText}
use Rattle.tsl_stream.specs.Stream.{stream_text}
use Rattle.tsl_stream.specs.Items.{Packet, StreamReading, by_packet_start, stream_reading}

-- a way to read texts that reads each by its start, and what is behind that start in the same way [profile]
abbrev pub ReadsByPacketStart : (List ℕ → StreamReading) → Type 0
ReadsByPacketStart reads = ReadsByStart by_packet_start reads

-- whatever reads each text by its start reads it as `stream_reading` does [profile]
abbrev pub OneReadsByPacketStart : Type 0
OneReadsByPacketStart = OneReadsByStart by_packet_start stream_reading

-- what a text says once more has come [profile]
abbrev pub StreamReadsOn : List ℕ → List ℕ → Type 0
StreamReadsOn text more = ReadsOn stream_reading text more

-- the items of a text are a front of those of every text that it is a front of [profile]
abbrev pub StreamItemsStay : Type 0
StreamItemsStay = ItemsStay stream_reading

-- the text of a packet with any text behind it is read as the packet, and then as that text [profile]
abbrev pub ReadsBack : List ℕ → Type 0
ReadsBack packet = (more : List ℕ)
    → stream_reading (stream_text packet ++ more)
    ≡ with_item (Packet packet) (stream_reading more)

-- packets in a row, each as its text [TSL UMD V5.0]
abbrev pub stream_texts : List (List ℕ) → List ℕ
stream_texts packets = flat_map stream_text packets

-- the texts of packets in a row are read as these packets in that order, with no rest [profile]
abbrev pub RowsAreRead : Type 0
RowsAreRead = (packets : List (List ℕ)) → AllByRecursion IsPacketText packets
    → stream_reading (stream_texts packets) ≡ record { items = map Packet packets; rest = [] }
