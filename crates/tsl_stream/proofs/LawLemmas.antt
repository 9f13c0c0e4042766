-- The laws of packets on a stream, for proofs of other crates too.
use Rattle.std.proofs.Common.{◌≡◌, ℕ, ◌^◌, ◌<◌, ◌≤◌, List, [], ◌∷◌, length, map, sym, ap, ◌∙◌, arith}
use mathlib.Core.List.{IsPrefix}
use Rattle.std.specs.List.{AllByRecursion}
use Rattle.doubled_bytes.proofs.Readings.{reading_only as one_reading, reads_on_by, items_stay}
use Rattle.tsl_umd5.specs.Layout.{max_packet}
use Rattle.tsl_umd5.specs.Packet.{IsPacketText, packet_text, counted_text, messages_text, with_count}
use Rattle.tsl_umd5.specs.Reading.{packet_reading}
use Rattle.tsl_umd5.proofs.MessageLemmas.{number-word}
use Rattle.tsl_umd5.proofs.ReadingLemmas.{reading_again}
use Rattle.doubled_bytes.specs.Reading.{with_item}
use Rattle.tsl_stream.specs.Items.{PacketItem, Packet, StreamReading, told, item_of_bytes, packet_size, by_packet_start, stream_reading, stream_items}
use Rattle.tsl_stream.specs.Laws.{ReadsByPacketStart, StreamReadsOn, ReadsBack, stream_texts}
use Rattle.tsl_stream.proofs.Packets.{IsWhole}
use Rattle.tsl_stream.proofs.Readings.{by_packet_start-same, stream_reading-by_packet_start, stream_reading-whole, stream_reading-append}

pub reading_only : (reads : List ℕ → StreamReading) → ReadsByPacketStart reads → (text : List ℕ) → reads text ≡ stream_reading text
reading_only = one_reading by_packet_start by_packet_start-same stream_reading stream_reading-by_packet_start

pub reads_on_lem : (text more : List ℕ) → StreamReadsOn text more
reads_on_lem text more = reads_on_by stream_reading text more (stream_reading-append text more)

pub items_front : (text longer : List ℕ) → IsPrefix text longer → IsPrefix (stream_items text) (stream_items longer)
items_front = items_stay stream_reading reads_on_lem

-- PBC counts the bytes behind it
packet_size-counted : (bytes : List ℕ) → length bytes < 2 ^ 16 → packet_size (with_count bytes) ≡ length (with_count bytes)
packet_size-counted bytes fits = omega (arith, number-word (length bytes) fits)

-- a packet wants the bytes that it has, and is an item
pub packet_whole : (packet : List ℕ) → IsPacketText packet → IsWhole packet
unfolding packet_text
packet_whole packet is =
    let counted = counted_text is.0.screen (messages_text is.0.displays) in
    let size : length (with_count counted) ≤ max_packet = omega (arith, is.1.is_packet.size) in
    let all : packet_size (with_count counted) ≡ length (with_count counted) = packet_size-counted counted (omega (arith, size)) in
    let same : packet ≡ with_count counted = is.1.is_text in
    rw same (record { all = sym all; fits = omega (arith, all, size) })

pub packet_item : (packet : List ℕ) → IsPacketText packet → item_of_bytes packet ≡ Packet packet
packet_item packet is = ap (told packet) (ap packet_reading is.1.is_text ∙ reading_again is.0 is.1.is_packet)

pub reads_back_lem : (packet : List ℕ) → IsPacketText packet → ReadsBack packet
reads_back_lem packet is more = stream_reading-whole packet more (packet_whole packet is) ∙ ap (λ (item : PacketItem). with_item item (stream_reading more)) (packet_item packet is)

pub rows_are_read : (packets : List (List ℕ)) → AllByRecursion IsPacketText packets → stream_reading (stream_texts packets) ≡ record { items = map Packet packets; rest = [] }
rows_are_read [] are = stream_reading-by_packet_start []
rows_are_read (packet ∷ packets) are = reads_back_lem packet are.0 (stream_texts packets) ∙ ap (with_item (Packet packet)) (rows_are_read packets are.1)
